use Rattle.std.proofs.Common.{◌≤◌, ◌+◌, length}
use Rattle.survey.proofs.contents.count_objects.Given as goal

abbrev pub invariant-loop-objects : goal.invariant-loop-objects
invariant-loop-objects l = (l.end ≤ length l.story) × (l.entry ≤ length l.story + 65661)
