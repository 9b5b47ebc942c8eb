use Rattle.std.proofs.Common.{◌≡◌, ◌++◌, map, drop}
use Rattle.map_text.specs.Text.{row_of, rows_text}
use Rattle.map_text.proofs.writing.put_rows.Given as goal

abbrev pub invariant-loop-row : goal.invariant-loop-row
invariant-loop-row l = l.text.items ++ rows_text (map row_of (drop l.row-index l.rows))
    ≡ l.initial.text.items ++ rows_text (map row_of l.rows)
