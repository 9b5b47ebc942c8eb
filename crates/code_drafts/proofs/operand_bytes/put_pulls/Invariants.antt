use Rattle.std.proofs.Common.{◌≡◌, ◌≤◌, ◌++◌}
use Rattle.code_drafts.specs.Instructions.{take_words}
use Rattle.meaning.specs.Limits.{most_arguments}
use Rattle.code_drafts.specs.Bytes.{bytes_of_all}
use Rattle.code_drafts.proofs.operand_bytes.put_pulls.Given as goal

abbrev pub invariant-loop-left : goal.invariant-loop-left
invariant-loop-left l =
    (l.left ≤ most_arguments) × (l.bytes.items ++ bytes_of_all (take_words l.left) ≡ l.initial.bytes.items
    ++ bytes_of_all (take_words l.count))

abbrev pub decreases-loop-left : goal.decreases-loop-left
decreases-loop-left l = l.left
