-- Numbers of keys that a search found or did not find.
use Rattle.std.proofs.Common.{◌≡◌, ◌==◌, ℕ, suc, ◌+◌, ◌*◌, ◌<◌, ◌≤◌, ◌⊎◌, inl, inr, false, List, [], ◌∷◌, length}
use Rattle.std.proofs.Common.{get_or, slice_index, refl, ap, sym, ◌∙◌, subst, arith}
use Rattle.std.specs.List.Sorted.{IsStrictlyIncreasing}
use Rattle.std.proofs.lemmas.Bool.{cases_lt, ne_eqb}
use Rattle.tables.specs.KeyNumbers.{key_number, place_in}
use Rattle.tables.proofs.Halving.{rising}
use Rattle.tables.proofs.Ranks.{numbers_by_rank}

pub never_falls : (keys : List ℕ) → IsStrictlyIncreasing keys → (i j : ℕ) → i ≤ j → j < length keys
    → get_or keys i 0 ≤ get_or keys j 0
never_falls keys h i j le lt = go (cases_lt i j)
  where
    go : (i < j) ⊎ (j ≤ i) → get_or keys i 0 ≤ get_or keys j 0
    go (inl l) =
        let r = rising (slice_index keys) (length keys) i j h l lt in
        omega (arith, r)
    go (inr g) =
        let e : i ≡ j = omega (arith, le, g) in
        subst (λ n. get_or keys i 0 ≤ get_or keys n 0) e (omega arith)

pub rank_found : (dictionary key rank : ℕ) (keys : List ℕ) → IsStrictlyIncreasing keys → rank < length keys
    → get_or keys rank 0 ≡ key → dictionary + 7 + 9 * rank ≡ key_number dictionary keys key
rank_found dictionary key rank keys h lt e = sym (numbers_by_rank dictionary keys rank h lt)
    ∙ ap (key_number dictionary keys) e

pub none_found : (at key : ℕ) (keys : List ℕ) → ((k : ℕ) → k < length keys → (slice_index keys k == key) ≡ false)
    → 0 ≡ place_in at keys key
none_found at key [] h = refl
none_found at key (k ∷ ks) h =
    let first = h 0 (omega arith) in
    rw first (none_found (at + 9) key ks (λ i lt. h (suc i) (omega (arith, lt))))

-- a search between two neighbours
pub not_found : (at key i : ℕ) (keys : List ℕ) → ((k : ℕ) → k < i → get_or keys k 0 < key)
    → ((k : ℕ) → i ≤ k → k < length keys → key < get_or keys k 0) → 0 ≡ place_in at keys key
not_found at key i keys below above = none_found at key keys (λ k lt. ne_eqb _ _ (go k lt (cases_lt k i)))
  where
    go : (k : ℕ) → k < length keys → (k < i) ⊎ (i ≤ k) → slice_index keys k ≡ key → ⊥
    go k lt (inl l) e =
        let r = below k l in
        omega (arith, r, e)
    go k lt (inr g) e =
        let r = above k g lt in
        omega (arith, r, e)
