use Rattle.std.proofs.Common.{ap, ◌∙◌}
use Rattle.derive_tokens.specs.Pieces.{derived_all}
use Rattle.derive_values.specs.Views.{numbers_held}
use Rattle.derive.specs.Held.{signatures_held}
use Rattle.derive.specs.Passes.{Signatures, signatures_of}
use Rattle.derive.proofs.Finishing.{formed_on}
use Rattle.derive.proofs.passes.formed_source.Goals as goal

pub formed-requires : goal.formed-requires
formed-requires c =
    ap (λ (given : Signatures). given.apart)
    (c.in_ok-given.ensures ∙ ap signatures_of (ap derived_all c.deref.ensures.value))

pub returns : goal.returns
returns c =
    formed_on c.entered_source.result (numbers_held c.args.numbers.now) (signatures_held c.in_ok-given.given)
    (derived_all c.args.values.items) (derived_all c.in_ok-statements.statements.items)
    (c.in_ok-given.ensures ∙ ap signatures_of (ap derived_all c.deref.ensures.value)) c.in_ok-statements.ensures
    c.entered_source.ensures
