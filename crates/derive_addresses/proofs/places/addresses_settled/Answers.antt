use Rattle.std.proofs.Common.{ap, ◌∙◌}
use Rattle.derive_tokens.specs.Pieces.{derived_all}
use Rattle.derive_addresses.specs.Addresses.{placed_in}
use Rattle.derive_addresses.specs.Views.{placed_of}
use Rattle.derive_addresses.proofs.Without.{settled_with}
use Rattle.derive_addresses.proofs.places.addresses_settled.Goals as goal

pub returns : goal.returns
returns c =
    settled_with (placed_of c.args.placed.now) (placed_in (derived_all c.args.pieces.now)) (derived_all c.args.pieces.now)
    (derived_all c.deref.result.now) (derived_all c.in_ok-out.out.items) c.requires
    (ap derived_all c.deref.ensures.value ∙ c.in_ok-row.ensures) c.in_ok-out.ensures
