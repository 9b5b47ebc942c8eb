use Rattle.std.proofs.Common.{◌-◌, ◌≤◌, length}
use Rattle.messages_parts.proofs.place.word_length.Given as goal

abbrev pub invariant-loop-length : goal.invariant-loop-length
invariant-loop-length l = l.length ≤ length l.bytes

abbrev pub decreases-loop-length : goal.decreases-loop-length
decreases-loop-length l = length l.bytes - l.length
