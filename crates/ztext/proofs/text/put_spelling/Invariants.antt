use Rattle.std.proofs.Common.{◌≤◌, ◌++◌, ℕ, List, take}
use Rattle.ztext.specs.TextParts.{IsFilledKey}
use Rattle.ztext.proofs.text.put_spelling.Given as goal

abbrev pub invariant-loop-z : goal.invariant-loop-z
invariant-loop-z l = record {
  room : l.filled ≤ 9;
  so_far : (zs : List ℕ) → IsFilledKey zs l.fn.count l.fn.key
      → IsFilledKey (zs ++ take l.z-index l.z-items) l.filled l.key;
}
