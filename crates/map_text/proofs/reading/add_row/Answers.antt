use Rattle.std.proofs.Common.{sym, ap, refl, arith}
use Rattle.map_text.specs.Text.{row_of}
use Rattle.map_text.specs.Reading.{not_below}
use Rattle.map_text.proofs.Rounds.{above, added, below}
use Rattle.map_text.proofs.reading.add_row.Goals as goal

pub returns-in_default : goal.returns-in_default
returns-in_default c = ap (not_below c.args.least) (sym c.in_default.ensures)

pub returns-then-row-least : goal.returns-then-row-least
returns-then-row-least c = below c.args.least _ (row_of c.in-Some.row) c.in-Some.ensures (omega arith)

pub returns : goal.returns
returns c = (
  row_of c.in-Some.row,
  above c.args.least _ (row_of c.in-Some.row) c.in-Some.ensures (omega arith),
  refl,
  added _ _ c.in-Some.row c.in_ok-push.ensures.items,
)
