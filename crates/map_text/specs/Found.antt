-- Which row an address belongs to.
use Rattle.std.specs.Prelude.{◌≡◌, ◌+◌, ◌-◌, ◌<◌, ◌≤◌, ℕ, List, Option, Some, None, drop, length}
use Rattle.std.specs.List.{All, slice_index_or}
use Rattle.map_text.specs.declared.row.Row.{Row}

abbrev pub IsBehind : ℕ → Row → Type 0
IsBehind address r = address < r.address

-- the last of so many first rows, or nothing of none
abbrev pub IsLast : List Row → ℕ → Option Row → Type 0
IsLast rows count None = count ≡ 0
IsLast rows count (Some r) = (0 < count) × (r ≡ slice_index_or rows (count - 1) r)

-- the last row at or before an address, of rows whose addresses ascend
abbrev pub IsRowAt : List Row → ℕ → Option Row → Type 0
IsRowAt rows address None = All (IsBehind address) rows
IsRowAt rows address (Some r) =
    (number : ℕ) × (number < length rows) × (r ≡ slice_index_or rows number r) × (r.address ≤ address)
    × All (IsBehind address) (drop (number + 1) rows)
