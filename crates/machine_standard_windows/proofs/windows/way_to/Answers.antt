use Rattle.std.proofs.Common.{arith}
use Rattle.machine_standard_windows.proofs.TextLines.{way_stays, way_full, way_other}
use Rattle.machine_standard_windows.proofs.windows.way_to.Goals as goal
use Rattle.machine_standard_windows.proofs.windows.way_to.Goals.{else-is_in_row-via-then-is_in_row+else-taken-column}
use Rattle.machine_standard_windows.proofs.windows.way_to.Goals.{else-is_in_row-via-else-is_in_row}

pub returns-then-taken-column-clause-way : goal.returns-then-taken-column-clause-way
returns-then-taken-column-clause-way c = way_stays c.args.is_in_row c.args.column _ c.args.bare.now c.if-is_in_row.true
    (omega (arith, c.if-taken-column.true, c.width-taken.ensures.same)) (omega (arith, c.width-taken.ensures.same))

pub returns-else-is_in_row-clause-way : goal.returns-else-is_in_row-clause-way
returns-else-is_in_row-clause-way c = elim c.else-is_in_row.branch [
  | else-is_in_row-via-then-is_in_row+else-taken-column w ↦ way_full c.args.is_in_row c.args.column _ c.args.bare.now
      (omega (arith, w.if-taken-column.false, c.width-taken.ensures.same)) c.missing_lines.ensures.lines
  | else-is_in_row-via-else-is_in_row w ↦ way_other c.args.is_in_row c.args.column _ c.args.bare.now
      w.if-is_in_row.false c.missing_lines.ensures.lines
]
