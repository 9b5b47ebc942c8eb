-- Trees of objects that are forests: each object stands in one list at most.
use Rattle.std.specs.Prelude.{◌≡◌, ◌≤◌, ℕ, List, [], ◌∷◌, ◌⊎◌}
use Rattle.meaning.specs.Objects.{Tree}

abbrev pub Among : ℕ → List ℕ → Type 0
Among o [] = ⊥
Among o (x ∷ xs) = (o ≡ x) ⊎ Among o xs

abbrev pub Once : List ℕ → Type 0
Once [] = Unit {0}
Once (x ∷ xs) = (Among x xs → ⊥) × Once xs

pub record IsObjectNumber (n o : ℕ) : Type 0 where
  pub low : 1 ≤ o
  pub high : o ≤ n

-- Objects are numbered 1 to n. Each with a parent stands once in its list, and in no other.
pub record IsForest (n : ℕ) (t : Tree) : Type 0 where
  pub objects : (p o : ℕ) → Among o (t.children p) → IsObjectNumber n o
  pub parents : (p o : ℕ) → Among o (t.children p) → (t.parent o ≡ p) × IsObjectNumber n p
  pub stand : (o : ℕ) → (t.parent o ≡ 0 → ⊥) → Among o (t.children (t.parent o))
  pub once : (p : ℕ) → Once (t.children p)
