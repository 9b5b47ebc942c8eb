use Rattle.std.proofs.Common.{◌≡◌, ◌++◌, drop, false}
use Rattle.machine_picture.specs.Marks.{without_marks}
use Rattle.screen.specs.Marked.{styles_from}
use Rattle.screen.proofs.marked.unmarked.Given as goal

abbrev pub invariant-loop-byte : goal.invariant-loop-byte
invariant-loop-byte l = record {
  text : l.bytes.items ++ without_marks l.is_in_mark (drop l.byte-index l.text) ≡ without_marks false l.text;
  each : l.each.items ++ styles_from l.is_in_mark l.style (drop l.byte-index l.text) ≡ styles_from false 0 l.text;
}
