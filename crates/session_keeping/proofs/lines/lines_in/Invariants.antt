use Rattle.std.proofs.Common.{◌≡◌, ◌++◌, false, length}
use Rattle.std.specs.Prelude.{option_map}
use Rattle.session_keeping.specs.Lines.{unmarked, unmarked_in}
use Rattle.session_keeping.proofs.lines.lines_in.Given as goal

-- what was read and what is still to be read is what there is to read
abbrev pub invariant-loop-kept : goal.invariant-loop-kept
invariant-loop-kept l =
    unmarked false l.fn.kept ≡ option_map (λ rest. l.typed.items ++ rest) (unmarked_in l.is_begun l.is_answer l.kept)

abbrev pub decreases-loop-kept : goal.decreases-loop-kept
decreases-loop-kept l = length l.kept
