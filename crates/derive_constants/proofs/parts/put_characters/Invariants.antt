use Rattle.std.proofs.Common.{◌≡◌, ◌++◌, drop}
use Rattle.derive_tokens.specs.Pieces.{derived_all}
use Rattle.derive_constants.specs.Constants.{characters}
use Rattle.derive_constants.proofs.parts.put_characters.Given as goal

abbrev pub invariant-loop-byte : goal.invariant-loop-byte
invariant-loop-byte l = derived_all l.out.items ++ characters l.position (drop l.byte-index l.bytes)
    ≡ derived_all l.initial.out.items ++ characters l.position l.bytes
