use Rattle.std.proofs.Common.{◌≤◌, ◌+◌, ◌-◌, ◌^◌, reverse}
use Rattle.code_instructions.specs.Places.{place_in}
use Rattle.map_lines.specs.Rows.{AddsMarks, address_at}
use Rattle.map_lines.proofs.routine.put_marks.Given as goal

abbrev pub invariant-loop-mark : goal.invariant-loop-mark
invariant-loop-mark l =
    (l.item ≤ 2 ^ 64 - 1)
    × AddsMarks l.beginning.name.text.now (reverse l.left) l.beginning.address l.initial.rows.items l.rows.items
    l.mark-index (address_at l.beginning.address (place_in (reverse l.left) l.item + 1))
