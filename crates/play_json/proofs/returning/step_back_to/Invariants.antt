use Rattle.std.proofs.Common.{◌≤◌}
use Rattle.session.specs.Game.{Game}
use Rattle.session_lines.specs.Standing.{Standing}
use Rattle.play_json.specs.Said.{Stands, held}
use Rattle.play_json.proofs.Walking.{Back}
use Rattle.play_json.proofs.returning.step_back_to.Given as goal

abbrev pub invariant-loop : goal.invariant-loop
invariant-loop l = (game : Game) (s : Standing) → Stands game s (held l.fn.session l.fn.lines) → l.count ≤ s.kept
    → Back game s l.counter (held l.fn.session l.fn.lines) (held l.session l.lines)
