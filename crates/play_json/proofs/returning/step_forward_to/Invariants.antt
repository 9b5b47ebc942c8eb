use Rattle.std.proofs.Common.{◌≤◌, ◌+◌, length}
use Rattle.session.specs.Game.{Game}
use Rattle.session.specs.Sessions.{all_lines}
use Rattle.session_lines.specs.Standing.{Standing}
use Rattle.play_json.specs.Said.{Stands, held}
use Rattle.play_json.proofs.Walking.{Forth}
use Rattle.play_json.proofs.returning.step_forward_to.Given as goal

abbrev pub invariant-loop : goal.invariant-loop
invariant-loop l = (game : Game) (s : Standing) → Stands game s (held l.fn.session l.fn.lines)
    → length s.done + l.count ≤ length (all_lines s)
    → Forth game s l.counter (held l.fn.session l.fn.lines) (held l.session l.lines)
