use Rattle.std.proofs.Common.{◌≡◌, ◌++◌, take}
use Rattle.std.specs.List.{flat_map}
use Rattle.zcore_standard.specs.Unicode.{utf_8}
use Rattle.machine_picture.proofs.texts.put_characters.Given as goal

abbrev pub invariant-loop-i : goal.invariant-loop-i
invariant-loop-i l = record {
  so_far : l.text.items ≡ l.fn.text.items ++ flat_map utf_8 (take l.i l.characters);
}
