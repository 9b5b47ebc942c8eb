use Rattle.std.proofs.Common.{◌≡◌, take, drop}
use Rattle.session_keeping.specs.Kept.{kept_lines, lines_from}
use Rattle.session_keeping.proofs.lines.cut_line.Given as goal

-- the line goes on
abbrev pub invariant-loop-at : goal.invariant-loop-at
invariant-loop-at l = kept_lines l.text ≡ lines_from (take l.at l.text) (drop l.at l.text)
