use Rattle.std.proofs.Common.{ℕ, ◌≤◌, List, take}
use Rattle.session_lines.specs.Input.{whole_from, rest_from}
use Rattle.session_run.specs.Acts.{Leaves}
use Rattle.session.specs.Game.{IsSessionOf, Game}
use Rattle.session_lines.specs.Standing.{Standing, longest_line}
use Rattle.session_run.specs.Heard.{Heard}
use Rattle.session_lines.specs.Kept.{IsKept}
use Rattle.session_run.proofs.hearing.hear.Given as goal

abbrev pub invariant-loop-byte : goal.invariant-loop-byte
invariant-loop-byte g l = record {
  within : l.line.len ≤ longest_line;
  kept : (full : List ℕ) → IsKept l.fn.line full → IsKept l.line (rest_from full (take l.byte-index l.chunk));
  heard : (game : Game) (s : Standing) (full : List ℕ) → IsSessionOf game s l.fn.session → IsKept l.fn.line full
      → Heard game (g.W.Write.contents l.fn.writer) (g.W.Write.contents l.writer) s
      (Leaves game s l.session (g.F.Files.log l.fn.files) (g.F.Files.log l.files))
      (whole_from full (take l.byte-index l.chunk));
}
