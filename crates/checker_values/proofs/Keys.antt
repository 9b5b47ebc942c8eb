-- Keys, a byte at a time.
use Rattle.std.proofs.Common.{◌≡◌, ℕ, zero, suc, ◌+◌, ◌<◌, ◌≤◌, List, [], ◌∷◌, slice_index_or, slice_set, refl, ap}
use Rattle.std.proofs.Common.{length, ◌⊎◌, inl, inr, arith}
use Rattle.checker_values.specs.Names.{padded, key_of}
use Rattle.ztext.specs.Text.{lower_case}

-- so many bytes, of which i are filled
abbrev pub fill : ℕ → ℕ → List ℕ → List ℕ
fill zero i s = []
fill (suc n) zero s = 0 ∷ fill n zero []
fill (suc n) (suc i) [] = 0 ∷ fill n i []
fill (suc n) (suc i) (c ∷ s) = lower_case c ∷ fill n i s

empty : (n : ℕ) (s : List ℕ) → fill n zero [] ≡ fill n zero s
empty zero s = refl
empty (suc n) s = refl

step : (n i : ℕ) (s : List ℕ) → i < n → slice_set (fill n i s) i (lower_case (slice_index_or s i 0))
    ≡ fill n (suc i) s
step zero i s h = absurd (omega arith)
step (suc n) zero [] h = refl
step (suc n) (suc i) [] h = ap (λ r. 0 ∷ r) (step n i [] (omega arith))
step (suc n) zero (c ∷ s) h = ap (λ r. lower_case c ∷ r) (empty n s)
step (suc n) (suc i) (c ∷ s) h = ap (λ r. lower_case c ∷ r) (step n i s (omega arith))

-- one more byte
pub fill_step : (s : List ℕ) (i b : ℕ) (found : List ℕ) → i < 32 → b ≡ lower_case (slice_index_or s i 0)
    → found ≡ fill 32 i s → slice_set found i b ≡ fill 32 (i + 1) s
fill_step s i b found h p e = let j : i + 1 ≡ suc i = omega arith in rw (j, e, p) (step 32 i s h)

none : (n i : ℕ) → fill n i [] ≡ padded n []
none zero i = refl
none (suc n) zero = ap (λ r. 0 ∷ r) (none n zero)
none (suc n) (suc i) = ap (λ r. 0 ∷ r) (none n i)

whole : (n i : ℕ) (s : List ℕ) → n ≤ i → fill n i s ≡ padded n s
whole zero i s h = refl
whole (suc n) i [] h = none (suc n) i
whole (suc n) zero (c ∷ s) h = absurd (omega arith)
whole (suc n) (suc i) (c ∷ s) h = ap (λ r. lower_case c ∷ r) (whole n i s (omega arith))

ended : (n i : ℕ) (s : List ℕ) → length s ≤ i → fill n i s ≡ padded n s
ended zero i s h = refl
ended (suc n) i [] h = none (suc n) i
ended (suc n) zero (c ∷ s) h = absurd (omega arith)
ended (suc n) (suc i) (c ∷ s) h = ap (λ r. lower_case c ∷ r) (ended n i s (omega arith))

-- all bytes that the key holds
pub key_filled : (s : List ℕ) (i key_length : ℕ) → (key_length ≡ 32) ⊎ (key_length ≡ length s) → key_length ≤ i → fill 32 i s ≡ key_of s
unfolding key_of
key_filled s i key_length which h = elim which [
  | inl e ↦ whole 32 i s (omega (arith, e, h))
  | inr e ↦ ended 32 i s (omega (arith, e, h))
]
