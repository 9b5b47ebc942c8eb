use Rattle.std.proofs.Common.{◌≡◌, ◌++◌, ◌+◌, ◌-◌}
use Rattle.screen.specs.Upper.{rows_from}
use Rattle.screen.proofs.upper.put_rows.Given as goal

abbrev pub invariant-loop-row : goal.invariant-loop-row
invariant-loop-row l = record {
  so_far : l.written.items ++ rows_from l.columns (l.row + 1) (l.count - l.row) l.rest
      ≡ l.fn.written.items ++ rows_from l.columns 1 l.count l.text;
}
