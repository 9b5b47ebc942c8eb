use Rattle.std.proofs.Common.{◌≡◌, ◌≤◌, length}
use Rattle.session_keeping.specs.Kept.{aside_text, kept_lines, taken_text}
use Rattle.session_keeping.proofs.lines.taken_in.Given as goal

-- what was taken, with what is taken of the lines that follow, is what is taken in all
abbrev pub invariant-loop-line : goal.invariant-loop-line
invariant-loop-line l = record {
  within : l.aside ≤ length l.taken.items;
  same : taken_text l.fn.kept ≡ aside_text l.aside l.taken.items (kept_lines l.kept);
}

abbrev pub decreases-loop-line : goal.decreases-loop-line
decreases-loop-line l = length l.kept
