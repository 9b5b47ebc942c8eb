-- What contracts say of a store of cells, and of a turn on it.
use Rattle.std.specs.Prelude.{◌≡◌, ℕ, ◌+◌, ◌*◌, ◌<◌, ◌≤◌, List, [], length, slice_index, slice_set}
use Rattle.journal.specs.declared.cells.Cells.{Ghosts}
use Rattle.journal.specs.Pages.{cells_of, whole_page}
use Rattle.journal.specs.Recording.{Recording}
use Rattle.journal.specs.Swap.{back, forward, Fits, Swapped}

module _ {C : Type 0} (g : Ghosts C) where
  -- each entry names a cell of the store, and a value within its bound
  abbrev pub FitsIn : C → List (ℕ × ℕ) → Type 0
  FitsIn store entries = Fits (length (g.cells store)) (g.bounds store) entries

  -- one cell has this value now, and all others are as they were
  abbrev pub Writes : C → C → ℕ → ℕ → Type 0
  Writes old new cell value = g.cells new ≡ slice_set (g.cells old) cell value

  -- the cells were exchanged with the entries' values, from the last entry to the first
  abbrev pub GoesBack : C → C → List (ℕ × ℕ) → Type 0
  GoesBack old new entries = g.cells new ≡ (back (g.cells old) entries).cells

  -- the cells were exchanged with the entries' values, from the first entry to the last
  abbrev pub GoesForward : C → C → List (ℕ × ℕ) → Type 0
  GoesForward old new entries = g.cells new ≡ (forward (g.cells old) entries).cells

  -- the first cells of a page hold values within their bounds
  abbrev pub IsPageWithin : C → ℕ → ℕ → Type 0
  IsPageWithin store page count =
      (k : ℕ) → page * whole_page ≤ k → k < page * whole_page + count →
      slice_index (g.cells store) k ≤ g.bounds store k

  -- a store and a record beside it, as a swap leaves them
  abbrev pub swapped : C → List (ℕ × ℕ) → Swapped
  swapped store entries = record { cells = g.cells store; entries = entries }

  -- a turn that begins on a store
  abbrev pub begun : C → Recording C
  begun store = record { store = store; beginning = g.cells store; kept = [] }

  -- the cells of the pages that a turn keeps
  abbrev pub kept_cells : Recording C → List ℕ
  kept_cells turn = cells_of (length (g.cells turn.store)) turn.kept
