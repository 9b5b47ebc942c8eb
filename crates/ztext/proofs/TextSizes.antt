-- How many bytes the Z-text of a text has.
use Rattle.std.proofs.Common.{◌≡◌, ◌+◌, ◌*◌, ◌/◌, eqb, false, ℕ, zero, suc, List, [], ◌∷◌, length, arith, refl, subst}
use Rattle.std.specs.Prelude.{replicate}
use Rattle.std.proofs.lemmas.Bool.{ne_eqb}
use Rattle.std.proofs.lemmas.List.{length-append, length-replicate}
use Rattle.ztext.specs.Alphabets.{spelled}
use Rattle.ztext.specs.Words.{packed, missing, padded}
use Rattle.ztext.specs.Text.{encoded}

threes_packed : (k : ℕ) (zs : List ℕ) → length zs ≡ 3 * k → length (packed zs) ≡ 2 * k
unfolding packed
threes_packed zero [] e = omega arith
threes_packed zero (z ∷ zs) e = absurd (omega arith)
threes_packed (suc k) [] e = absurd (omega arith)
threes_packed (suc k) (a ∷ []) e = absurd (omega arith)
threes_packed (suc k) (a ∷ b ∷ []) e = absurd (omega arith)
threes_packed (suc k) (a ∷ b ∷ c ∷ zs) e = omega (arith, threes_packed k zs (omega arith))

words_some : (n : ℕ) → (n ≡ 0 → ⊥) → n + missing n ≡ 3 * ((n + 2) / 3)
words_some n some = let e : eqb n 0 ≡ false = ne_eqb n 0 some in rw e (omega arith)

padded_many : (zs : List ℕ) (n : ℕ) → length zs ≡ n → length (padded zs) ≡ n + missing n
padded_many zs n many = subst (λ k. length (padded zs) ≡ k + missing k) many (omega (
  arith,
  length-append zs (replicate (missing (length zs)) 5),
  length-replicate {A = ℕ} (missing (length zs)) 5,
))

-- so many Z-characters in words
pub none_packed : (zs : List ℕ) (n : ℕ) → length zs ≡ n → n ≡ 0 → 2 ≡ length (packed (padded zs))
none_packed zs n many none =
    let three : n + missing n ≡ 3 = rw none refl in
    omega (arith, threes_packed 1 (padded zs) (omega (arith, padded_many zs n many, three)))

pub some_packed : (zs : List ℕ) (n : ℕ) → length zs ≡ n → (n ≡ 0 → ⊥)
    → 2 * ((n + 2) / 3) ≡ length (packed (padded zs))
some_packed zs n many some =
    omega (
      arith,
      threes_packed ((n + 2) / 3) (padded zs) (omega (arith, padded_many zs n many, words_some n some)),
    )

-- a text of so many Z-characters
module _ (text : List ℕ) (n : ℕ) (many : length (spelled text) ≡ n) where
  pub no_characters : n ≡ 0 → 2 ≡ length (encoded text)
  unfolding encoded
  no_characters none = none_packed (spelled text) n many none

  pub some_characters : (n ≡ 0 → ⊥) → 2 * ((n + 2) / 3) ≡ length (encoded text)
  unfolding encoded
  some_characters some = some_packed (spelled text) n many some
