use Rattle.std.proofs.Common.{◌-◌, ◌*◌, drop}
use Rattle.code_drafts.specs.Writing.{WritesSame}
use Rattle.code_drafts.proofs.several.put_each_same.Given as goal

abbrev pub invariant-loop-done : goal.invariant-loop-done
invariant-loop-done l = WritesSame l.fn.draft l.draft l.operand (drop (3 * (l.count - l.done)) l.others) l.when
    l.target
