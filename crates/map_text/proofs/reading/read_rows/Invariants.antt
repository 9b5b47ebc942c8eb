use Rattle.std.proofs.Common.{◌≤◌, ◌+◌, length, map}
use Rattle.map_text.specs.Text.{row_of}
use Rattle.map_text.proofs.Rounds.{Reads}
use Rattle.map_text.proofs.reading.read_rows.Given as goal

abbrev pub invariant-loop-done : goal.invariant-loop-done
invariant-loop-done l =
    (length l.rest + l._done ≤ length l.lines) × Reads l.lines l.rest l.least (map row_of l.rows.items)
