use Rattle.std.proofs.Common.{◌≤◌}
use Rattle.session.specs.Game.{IsSessionOf, Game}
use Rattle.session_lines.specs.Standing.{nothing, longest_line}
use Rattle.session_run.proofs.Going.{Going}
use Rattle.session_run.proofs.running.run_telling.Given as goal

abbrev pub invariant-loop : goal.invariant-loop
invariant-loop g l = record {
  within : l.line.len ≤ longest_line;
  going : (game : Game) → IsSessionOf game nothing l.fn.session
      → Going game (g.R.Read.remaining l.fn.reader) (g.R.Read.remaining l.reader) (g.W.Write.contents l.fn.writer)
      (g.W.Write.contents l.writer) l.session (g.F.Files.log l.fn.files) (g.F.Files.log l.files) l.line;
}
