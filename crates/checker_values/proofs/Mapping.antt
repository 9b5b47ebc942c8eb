-- What is done of a list, mapped.
use Rattle.std.proofs.Common.{◌≡◌, ℕ, zero, suc, ◌+◌, ◌<◌, List, [], ◌∷◌, ◌++◌, length, take, slice_index_or}
use Rattle.std.proofs.Common.{refl, ap, arith}
use Rattle.std.specs.Prelude.{map}

module _ {A R : Type 0} (g : A → R) where
  take_from : (xs : List A) (i : ℕ) (d : A) → i < length xs
      → map g (take (suc i) xs) ≡ map g (take i xs) ++ g (slice_index_or xs i d) ∷ []
  take_from [] i d h = absurd (omega arith)
  take_from (y ∷ xs) zero d h = refl
  take_from (y ∷ xs) (suc i) d h = ap (λ r. g y ∷ r) (take_from xs i d (omega arith))

  -- what was found, with one more
  pub more_there : (rs : List R) (r : R) (xs : List A) (i : ℕ) (d : A) → i < length xs → rs ≡ map g (take i xs)
      → r ≡ g (slice_index_or xs i d) → rs ++ r ∷ [] ≡ map g (take (i + 1) xs)
  more_there rs r xs i d lt so_far is =
      let j : i + 1 ≡ suc i = omega arith in rw (j, take_from xs i d lt, so_far, is) refl
