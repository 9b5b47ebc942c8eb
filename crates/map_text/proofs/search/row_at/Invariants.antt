use Rattle.std.proofs.Common.{◌≤◌, ◌<◌, ℕ}
use Rattle.std.specs.List.{slice_index_or}
use Rattle.map_text.specs.declared.row.Row.{Row}
use Rattle.map_text.proofs.search.row_at.Given as goal

abbrev pub invariant-loop-number : goal.invariant-loop-number
invariant-loop-number l = (k : ℕ) (d : Row) → k < l.number → (slice_index_or l.rows k d).address ≤ l.address
