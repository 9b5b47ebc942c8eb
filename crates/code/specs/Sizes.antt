-- How many bytes the routines of a program have in a story.
use Rattle.std.specs.Prelude.{◌+◌, ℕ, List, [], ◌∷◌}
use Rattle.meaning.specs.Resolved.{RoutineOf}
use Rattle.code_items.specs.Statements.{routine_items}
use Rattle.code_drafts.specs.Addresses.{Sizes}
use Rattle.code.specs.Bytes.{code_size}

-- of a program of these sizes
module _ (sizes : Sizes) where
  -- a byte that tells how many locals it has, and its code (Z-Machine Standards Document 1.1, section 5.2)
  abbrev pub routine_size : RoutineOf → ℕ
  routine_size r = 1 + code_size sizes (routine_items r)

  -- of routines, each with as many as 7 bytes beside it, so that the next stands at a packed address (1.2.3)
  abbrev pub routines_size : List RoutineOf → ℕ
  routines_size [] = 0
  routines_size (r ∷ rs) = routine_size r + 7 + routines_size rs
