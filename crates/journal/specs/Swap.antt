-- What a record is and what a swap does, on lists. An entry is a cell and a value for it.
use Rattle.std.specs.Prelude.{ℕ, ◌<◌, ◌≤◌, List, [], ◌∷◌, map, slice_set, slice_index}
use Rattle.std.specs.List.{All}

-- the cells of a store and the entries of a record, after a swap
pub record Swapped : Type 0 where
  pub cells : List ℕ
  pub entries : List (ℕ × ℕ)

-- exchanges from the first entry to the last
abbrev pub forward : List ℕ → List (ℕ × ℕ) → Swapped
forward cells [] = record { cells = cells; entries = [] }
forward cells (e ∷ es) =
    let rest : Swapped = forward (slice_set cells e.0 e.1) es in
    record { cells = rest.cells; entries = (e.0, slice_index cells e.0) ∷ rest.entries }

-- exchanges from the last entry to the first
abbrev pub back : List ℕ → List (ℕ × ℕ) → Swapped
back cells [] = record { cells = cells; entries = [] }
back cells (e ∷ es) =
    let rest : Swapped = back cells es in
    record { cells = slice_set rest.cells e.0 e.1; entries = (e.0, slice_index rest.cells e.0) ∷ rest.entries }

-- the cells that entries name, in order
abbrev pub entry_cells : List (ℕ × ℕ) → List ℕ
entry_cells entries = map (λ e. e.0) entries

-- the values that entries hold, in order
abbrev pub entry_values : List (ℕ × ℕ) → List ℕ
entry_values entries = map (λ e. e.1) entries

-- a cell of a store with n cells, and a value within its bound
abbrev pub FitsCell : ℕ → (ℕ → ℕ) → ℕ × ℕ → Type 0
FitsCell n bounds e = (e.0 < n) × (e.1 ≤ bounds e.0)

-- each entry names a cell of the store, and a value within its bound
abbrev pub Fits : ℕ → (ℕ → ℕ) → List (ℕ × ℕ) → Type 0
Fits n bounds entries = All (FitsCell n bounds) entries
