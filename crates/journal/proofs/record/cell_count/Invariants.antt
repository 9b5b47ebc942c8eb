use Rattle.std.proofs.Common.{◌≡◌, length, take}
use Rattle.journal.specs.Pages.{cells_of}
use Rattle.journal.proofs.record.cell_count.Given as goal

abbrev pub invariant-loop-slot : goal.invariant-loop-slot
invariant-loop-slot l = record { counted : l.count ≡ length (cells_of l.len (take l.slot l.pages)) }
