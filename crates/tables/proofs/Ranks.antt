-- The numbers of keys by their ranks.
use Rattle.std.proofs.Common.{◌≡◌, ◌==◌, ℕ, zero, suc, ◌+◌, ◌*◌, ◌<◌, false, List, [], ◌∷◌, length, slice_index}
use Rattle.std.proofs.Common.{refl, ◌∙◌, arith}
use Rattle.std.proofs.lemmas.Bool.{eq-eqb, ne_eqb}
use Rattle.tables.specs.KeyNumbers.{place_in}
use Rattle.tables.specs.Laws.{NumbersAreByRank}
use Rattle.tables.proofs.Halving.{rising}

place_behind : (at key : ℕ) (keys : List ℕ) (rank : ℕ) → ((k : ℕ) → k < rank → (slice_index keys k == key) ≡ false)
    → rank < length keys → slice_index keys rank ≡ key → place_in at keys key ≡ at + 9 * rank
place_behind at key [] rank other lt e = absurd (omega (arith, lt))
place_behind at key (k ∷ ks) zero other lt e =
    let z : at ≡ at + 9 * 0 = omega arith in
    rw (eq-eqb k key e) z
place_behind at key (k ∷ ks) (suc rank) other lt e =
    let z : at + 9 + 9 * rank ≡ at + 9 * suc rank = omega arith in
    rw (other 0 (omega arith))
    (place_behind (at + 9) key ks rank (λ i l. other (suc i) (omega (arith, l))) (omega (arith, lt)) e ∙ z)

pub numbers_by_rank : NumbersAreByRank
numbers_by_rank dictionary keys rank ascending within =
    place_behind (dictionary + 7) (slice_index keys rank) keys rank
    (λ k lt. ne_eqb _ _ (λ e.
    let r = rising (slice_index keys) (length keys) k rank ascending lt within in
    omega (arith, r, e)))
    within refl
