use Rattle.std.proofs.Common.{◌≤◌}
use Rattle.messages_warnings.specs.InOrder.{AreInOrder}
use Rattle.messages_warnings.proofs.marks.all_marks.Given as goal

abbrev pub invariant-loop-at : goal.invariant-loop-at
invariant-loop-at l = (l.at ≤ l.count) × AreInOrder l.at l.warnings.items
