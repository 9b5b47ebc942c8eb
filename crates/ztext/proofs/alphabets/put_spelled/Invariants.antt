use Rattle.std.proofs.Common.{◌≡◌, ◌++◌, take}
use Rattle.ztext.proofs.alphabets.put_spelled.Given as goal

abbrev pub invariant-loop-z : goal.invariant-loop-z
invariant-loop-z l = l.characters.items ≡ l.initial.characters.items ++ take l.z-index l.z-items
