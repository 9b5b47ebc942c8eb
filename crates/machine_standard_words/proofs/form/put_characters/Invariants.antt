use Rattle.std.proofs.Common.{◌≤◌, ◌++◌, ℕ, List, take}
use Rattle.ztext.specs.TextParts.{IsFilledKey}
use Rattle.machine_standard_words.proofs.form.put_characters.Given as goal

abbrev pub invariant-loop-z : goal.invariant-loop-z
invariant-loop-z l = record {
  room : l.filled ≤ 9;
  so_far : (zs : List ℕ) → IsFilledKey zs l.fn.count l.fn.characters
      → IsFilledKey (zs ++ take l.z-index l.more) l.filled l.characters;
}
