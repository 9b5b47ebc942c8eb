use Rattle.std.proofs.Common.{map, take}
use Rattle.session.specs.Game.{Game}
use Rattle.session_lines.specs.Standing.{Standing}
use Rattle.play_json.specs.Said.{Stands, held}
use Rattle.play_json.proofs.Walking.{Along}
use Rattle.play_json.proofs.returning.play_lines.Given as goal

abbrev pub invariant-loop-line : goal.invariant-loop-line
invariant-loop-line l = (game : Game) (s : Standing) → Stands game s (held l.fn.session l.fn.lines)
    → Along game s l.fn.lines.marks (take l.line-index (map (λ rc. rc.value.given.items) l.rest)) (held l.session l.lines)
