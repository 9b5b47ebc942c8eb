-- Samples of the definitions, computed.
use Rattle.std.proofs.Common.{◌≡◌, ℕ, [], ◌∷◌, refl}
use Rattle.syntax_trees.specs.declared.tree.Name.{Name}
use Rattle.messages_diagnosis.specs.declared.routine_figures.RoutineFigures.{RoutineFigures}
use Rattle.messages_diagnosis.specs.Figures.{ranked}

-- the heaviest is first, and of two that weigh as much the one that is defined first
module _ (name : Name) where
  abbrev weighing : ℕ → ℕ → RoutineFigures
  weighing weight size = record { name = name; weight = weight; size = size }

  by_weight : ranked (weighing 160 2 ∷ weighing 320 9 ∷ weighing 32 1 ∷ weighing 320 7 ∷ [])
      ≡ weighing 320 9 ∷ weighing 320 7 ∷ weighing 160 2 ∷ weighing 32 1 ∷ []
  by_weight = refl
