use Rattle.std.proofs.Common.{sym, ap, ◌∙◌}
use Rattle.derive_constants.specs.Held.{known_of, values_of}
use Rattle.derive_constants.specs.Values.{value_in}
use Rattle.derive_constants.proofs.parts.number_in.Goals as goal

-- src/parts.rt: characters
pub returns-in-Characters : goal.returns-in-Characters
returns-in-Characters c =
    c.character_in.ensures c.args.known.now c.in-Characters.field-1
    ∙ ap (λ v. value_in (known_of c.args.known.now) (values_of v)) (sym c.in-Characters.is)
