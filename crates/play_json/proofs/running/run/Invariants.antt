use Rattle.std.proofs.Common.{◌≤◌}
use Rattle.session_lines.specs.Standing.{longest_line}
use Rattle.play_json.specs.Said.{held}
use Rattle.play_json.proofs.Going.{Going}
use Rattle.play_json.proofs.running.run.Given as goal

abbrev pub invariant-loop : goal.invariant-loop
invariant-loop g l = record {
  within : l.line.len ≤ longest_line;
  going : Going l.fn.first (g.R.Read.remaining l.fn.reader) (g.R.Read.remaining l.reader) (g.W.Write.contents l.fn.writer)
      (g.W.Write.contents l.writer) l.fn.session (held l.session l.lines) l.line;
}
