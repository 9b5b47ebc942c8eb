use Rattle.std.proofs.Common.{sym}
use Rattle.derive_constants.specs.Held.{known_of}
use Rattle.derive_constants.proofs.Characters.{many_none}
use Rattle.derive_constants.proofs.parts.character_in.Goals as goal

-- src/parts.rt: two characters and more
pub returns-in-len2-up : goal.returns-in-len2-up
returns-in-len2-up c = λ known p. sym (many_none (known_of known) p c.args.bytes.now c.in-len2-up.len_at_least)
