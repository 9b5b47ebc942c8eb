-- Texts without ESC and carriage returns.
use Rattle.std.proofs.Common.{◌≡◌, ℕ, zero, suc, ◌-◌, ◌==◌, true, false, List, [], ◌∷◌, take, drop}
use Rattle.std.proofs.Common.{slice_index, refl, ap, sym, subst, ◌∙◌, inl, inr, nat_le, replicate}
use Rattle.std.proofs.lemmas.Bool.{cases_Bool, eqb-true, both_ways}
use Rattle.terminal.specs.Broken.{IsBroken}
use Rattle.screen.specs.Sequences.{carriage_return, escape}
use Rattle.screen.specs.Shown.{is_control, is_control_after, shown_after, shown_byte}
use Rattle.screen.specs.Upper.{fitting, width}

-- a byte is neither
pub record IsCalmByte (byte : ℕ) : Type 0 where
  pub no_escape : (byte == escape) ≡ false
  pub no_return : (byte == carriage_return) ≡ false

abbrev pub IsCalm : List ℕ → Type 0
IsCalm text = (k : ℕ) → IsCalmByte (slice_index text k)

-- past the end of a text
none_is_calm : IsCalmByte 0
none_is_calm = record { no_escape = refl; no_return = refl }

pub rest_is_calm : (byte : ℕ) (bytes : List ℕ) → IsCalm (byte ∷ bytes) → IsCalm bytes
rest_is_calm byte bytes calm = λ k. calm (suc k)

pub more_is_calm : (byte : ℕ) (bytes : List ℕ) → IsCalmByte byte → IsCalm bytes → (k : ℕ)
    → IsCalmByte (slice_index (byte ∷ bytes) k)
more_is_calm byte bytes first rest zero = first
more_is_calm byte bytes first rest (suc k) = rest k

pub taken_is_calm : (n : ℕ) (text : List ℕ) → IsCalm text → (k : ℕ) → IsCalmByte (slice_index (take n text) k)
taken_is_calm zero text calm k = none_is_calm
taken_is_calm (suc n) [] calm k = none_is_calm
taken_is_calm (suc n) (byte ∷ bytes) calm zero = calm 0
taken_is_calm (suc n) (byte ∷ bytes) calm (suc k) = taken_is_calm n bytes (rest_is_calm byte bytes calm) k

pub left_is_calm : (n : ℕ) (text : List ℕ) → IsCalm text → (k : ℕ) → IsCalmByte (slice_index (drop n text) k)
left_is_calm zero text calm k = calm k
left_is_calm (suc n) [] calm k = none_is_calm
left_is_calm (suc n) (byte ∷ bytes) calm k = left_is_calm n bytes (rest_is_calm byte bytes calm) k

pub blanks_are_calm : (n k : ℕ) → IsCalmByte (slice_index (replicate n 32) k)
blanks_are_calm zero k = none_is_calm
blanks_are_calm (suc n) zero = record { no_escape = refl; no_return = refl }
blanks_are_calm (suc n) (suc k) = blanks_are_calm n k

-- a text as it is shown

no_control : (byte sign : ℕ) → is_control sign ≡ true → is_control byte ≡ false → (byte == sign) ≡ false
no_control byte sign is not_is = elim (cases_Bool (byte == sign)) [
  | inl same ↦ absurd (both_ways (is_control byte) not_is (ap is_control (eqb-true byte sign same) ∙ is))
  | inr other ↦ other
]

shown_byte_is_calm : (before byte : ℕ) → IsCalmByte (shown_byte before byte)
shown_byte_is_calm before byte = elim (cases_Bool (is_control byte)) [
  | inl control ↦ rw control (record { no_escape = refl; no_return = refl })
  | inr plain ↦ elim (cases_Bool (is_control_after before byte)) [
    | inl control ↦ rw (plain, control) (record { no_escape = refl; no_return = refl })
    | inr same ↦ rw (plain, same) (record {
      no_escape = no_control byte escape refl plain;
      no_return = no_control byte carriage_return refl plain;
    })
  ]
]

pub shown_is_calm : (before : ℕ) (text : List ℕ) (k : ℕ) → IsCalmByte (slice_index (shown_after before text) k)
unfolding shown_after
shown_is_calm before [] k = none_is_calm
shown_is_calm before (byte ∷ bytes) zero = shown_byte_is_calm before byte
shown_is_calm before (byte ∷ bytes) (suc k) = shown_is_calm byte bytes k

pub broken_is_calm : (text broken : List ℕ) → IsCalm text → IsBroken text broken → (k : ℕ)
    → IsCalmByte (slice_index broken k)
broken_is_calm text broken calm kept k = elim (kept.each k) [
  | inl same ↦ subst IsCalmByte (sym same) (calm k)
  | inr line ↦ subst IsCalmByte (sym line.1) (record { no_escape = refl; no_return = refl })
]

pub fitting_is_calm : (room : ℕ) (line : List ℕ) → IsCalm line → IsCalm (fitting room line)
unfolding fitting
fitting_is_calm room [] calm = λ k. none_is_calm
fitting_is_calm room (byte ∷ bytes) calm = elim (cases_Bool (nat_le (width byte) room)) [
  | inl fits ↦ rw fits (more_is_calm byte (fitting (room - width byte) bytes) (calm 0)
      (fitting_is_calm (room - width byte) bytes (rest_is_calm byte bytes calm)))
  | inr full ↦ rw full (λ k. none_is_calm)
]
