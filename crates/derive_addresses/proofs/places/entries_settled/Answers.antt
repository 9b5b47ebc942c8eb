use Rattle.std.proofs.Common.{refl}
use Rattle.derive_tokens.specs.Pieces.{derived_all}
use Rattle.derive_addresses.specs.Addresses.{placed_in}
use Rattle.derive_addresses.specs.Views.{placed_of}
use Rattle.derive_addresses.proofs.Without.{settled_plain}
use Rattle.derive_addresses.proofs.places.entries_settled.Goals as goal

pub returns : goal.returns
returns c =
    settled_plain (placed_of c.args.placed.now) (placed_in (derived_all c.args.pieces.now)) (derived_all c.args.pieces.now)
    (derived_all c.in_ok-out.out.items) c.requires.placed refl c.requires.none c.in_ok-out.ensures
