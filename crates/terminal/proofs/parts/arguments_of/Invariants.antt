use Rattle.std.proofs.Common.{take}
use Rattle.terminal.specs.Rows.{AreOfRows}
use Rattle.terminal.proofs.parts.arguments_of.Given as goal

-- those of the rows that were met
abbrev pub invariant-loop-row : goal.invariant-loop-row
invariant-loop-row l = AreOfRows (take l.row-index l.rows) l.arguments.items
