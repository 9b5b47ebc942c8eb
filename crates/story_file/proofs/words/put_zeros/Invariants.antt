use Rattle.std.proofs.Common.{◌≡◌, ◌++◌, replicate}
use Rattle.story_file.proofs.words.put_zeros.Given as goal

abbrev pub invariant-loop-left : goal.invariant-loop-left
invariant-loop-left l = l.bytes.items ++ replicate l.left 0 ≡ l.initial.bytes.items ++ replicate l.count 0

abbrev pub decreases-loop-left : goal.decreases-loop-left
decreases-loop-left l = l.left
