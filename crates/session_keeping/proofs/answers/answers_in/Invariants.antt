use Rattle.std.proofs.Common.{◌≡◌, ◌+◌, ◌≤◌, length}
use Rattle.session_keeping.specs.Answers.{and_then, answers_of, told}
use Rattle.session_keeping.specs.Kept.{kept_lines}
use Rattle.session_keeping.proofs.answers.answers_in.Given as goal

-- the answers that were read, and then those of the lines that follow, are all
abbrev pub invariant-loop-line : goal.invariant-loop-line
invariant-loop-line l = record {
  read : answers_of 0 (kept_lines l.fn.kept) ≡ and_then (told l.answers.items) (answers_of l.typed (kept_lines l.kept));
  within : l.typed + length l.kept ≤ length l.fn.kept;
}

abbrev pub decreases-loop-line : goal.decreases-loop-line
decreases-loop-line l = length l.kept
