use Rattle.derive_constants.specs.Held.{known_of}
use Rattle.derive_constants.proofs.Characters.{on_characters}
use Rattle.derive_constants.proofs.parts.put_values.Goals as goal

-- src/parts.rt: characters
pub returns-in-Characters : goal.returns-in-Characters
returns-in-Characters c =
    on_characters c.put_characters.result _ _ (known_of c.args.known.now) c.args.values c.in-Characters.bytes
    c.in-Characters.position c.in-Characters.is c.put_characters.ensures
