use Rattle.std.proofs.Common.{◌≡◌, ◌++◌, ◌-◌, ◌*◌, drop}
use Rattle.machine_picture.specs.Picture.{row_count, rows_text}
use Rattle.machine_picture.proofs.texts.put_rows.Given as goal

abbrev pub invariant-loop-row : goal.invariant-loop-row
invariant-loop-row l = record {
  so_far : l.text.items ++ rows_text (row_count l.cells - l.row) (drop (l.row * 255) l.cells)
      ≡ rows_text (row_count l.cells) l.cells;
}
