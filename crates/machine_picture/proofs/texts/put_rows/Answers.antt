use Rattle.std.proofs.Common.{arith, refl}
use Rattle.machine_picture.specs.Picture.{row_count}
use Rattle.machine_picture.proofs.Rows.{no_rows_yet, rows_all, rows_more}
use Rattle.machine_picture.proofs.texts.put_rows.Goals as goal

pub loop-row-init : goal.loop-row-init
loop-row-init c = record {
  so_far = no_rows_yet c.args.text.now.items c.args.cells.now (row_count c.args.cells.now) c.requires;
}

pub loop-row-preserved : goal.loop-row-preserved
loop-row-preserved c = record {
  so_far = rows_more _ _ _ c.args.cells.now _ (row_count c.args.cells.now) c.loop-row.row _ _ (omega arith) (omega arith)
      (omega arith) (omega arith) refl c.loop-row.invariant.so_far c.in_ok-put_row.ensures;
}

pub returns : goal.returns
returns c = rows_all _ _ c.args.cells.now (row_count c.args.cells.now) c.loop-row.row (omega arith)
    c.loop-row.invariant.so_far
