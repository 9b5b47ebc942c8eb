use Rattle.std.proofs.Common.{map}
use Rattle.meaning.specs.Views.{program_of}
use Rattle.map_text.specs.Text.{row_of}
use Rattle.map_lines.proofs.Growing.{Mapped}
use Rattle.map_lines.proofs.program.rows_of.Given as goal

abbrev pub invariant-loop-number : goal.invariant-loop-number
invariant-loop-number l =
    Mapped l.version (program_of l.checked) l.place l.checked.routines l.number (map row_of l.rows.items) l.at
