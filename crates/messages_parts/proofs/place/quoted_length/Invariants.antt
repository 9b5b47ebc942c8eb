use Rattle.std.proofs.Common.{◌-◌, ◌≤◌, length}
use Rattle.messages_parts.proofs.place.quoted_length.Given as goal

abbrev pub invariant-loop-length : goal.invariant-loop-length
invariant-loop-length l = 1 ≤ l.length

abbrev pub decreases-loop-length : goal.decreases-loop-length
decreases-loop-length l = length l.line - l.length
