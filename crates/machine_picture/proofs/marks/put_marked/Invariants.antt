use Rattle.std.proofs.Common.{◌≡◌, ◌++◌, drop}
use Rattle.machine_picture.specs.Marks.{marked, marked_after}
use Rattle.machine_picture.proofs.marks.put_marked.Given as goal

abbrev pub invariant-loop-i : goal.invariant-loop-i
invariant-loop-i l = record {
  so_far : l.out.items ++ marked_after l.before (drop l.i l.text) (drop l.i l.each)
      ≡ l.fn.out.items ++ marked l.text l.each;
}
