-- Words of proofs: the cells of a store at all times that its records reach.
use Rattle.std.specs.Prelude.{ℕ, List, [], ◌∷◌, ◌++◌, take, drop, reverse}
use Rattle.journal.specs.Swap.{back, forward}

-- the cells before c, by the records from the latest back
abbrev pub past : List ℕ → List (List (ℕ × ℕ)) → List (List ℕ)
past c [] = []
past c (r ∷ rs) = past (back c r).cells rs ++ (back c r).cells ∷ []

-- the cells after c, by the records in order
abbrev pub future : List ℕ → List (List (ℕ × ℕ)) → List (List ℕ)
future c [] = []
future c (r ∷ rs) = (forward c r).cells ∷ future (forward c r).cells rs

-- at all times, the present ones behind so many of the records
unfoldable pub all_cells : List ℕ → List (List (ℕ × ℕ)) → ℕ → List (List ℕ)
all_cells c records done = past c (reverse (take done records)) ++ c ∷ future c (drop done records)
