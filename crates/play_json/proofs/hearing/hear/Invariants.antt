use Rattle.std.proofs.Common.{ℕ, ◌≤◌, List, take}
use Rattle.session_lines.specs.Input.{whole_from, rest_from}
use Rattle.session_lines.specs.Kept.{IsKept}
use Rattle.session_lines.specs.Standing.{longest_line}
use Rattle.play_json.specs.Heard.{Heard}
use Rattle.play_json.specs.Said.{held}
use Rattle.play_json.proofs.hearing.hear.Given as goal

abbrev pub invariant-loop-byte : goal.invariant-loop-byte
invariant-loop-byte g l = record {
  within : l.line.len ≤ longest_line;
  kept : (full : List ℕ) → IsKept l.fn.line full → IsKept l.line (rest_from full (take l.byte-index l.chunk));
  heard : (full : List ℕ) → IsKept l.fn.line full
      → Heard (whole_from full (take l.byte-index l.chunk)) (g.W.Write.contents l.fn.writer)
      (held l.fn.session l.fn.lines) (g.W.Write.contents l.writer) (held l.session l.lines);
}
