-- A text that cannot be read has a cause.
use Rattle.std.proofs.Common.{◌≡◌, ℕ, zero, suc, ◌+◌, ◌-◌, ◌*◌, ◌^◌, ◌<◌, ◌≤◌, Bool, true, false, cond, eqb, leb, ltb}
use Rattle.std.proofs.Common.{List, [], ◌∷◌, ◌++◌, length, get_or, take, drop, Result, Ok, Err, refl, sym, ap, subst}
use Rattle.std.proofs.Common.{◌⊎◌, inl, inr, arith}
use Rattle.std.proofs.lemmas.Bool.{leb-false, ltb-false}
use Rattle.std.proofs.lemmas.List.{length-drop, get_or-drop}
use Rattle.ztext.specs.declared.fault.TextFault.{TextFault}
use Rattle.ztext.specs.declared.fault.TextFault.TheVariants as faults
use Rattle.ztext.specs.Results.{◌>>=◌}
use Rattle.ztext.specs.Reading.{Cause, Character, End, Abbreviation, Lower, Upper, Punctuation, EscapeHigh}
use Rattle.ztext.specs.Reading.{ReadingState, EscapeLow, Abbreviated, next, letter, printed, reads, state_after}
use Rattle.ztext.specs.Reading.{state_at, HasBadEscape, UsesAbbreviation}
use Rattle.ztext.specs.Alphabets.{is_printable}
use Rattle.ztext.specs.Words.{three_of, last_word, unpacked_text, RunsPastEnd}
use Rattle.ztext.specs.Text.{z_text_at, read_with, refused, has_abbreviations, abbreviation_address, abbreviation}
use Rattle.ztext.specs.Text.{decoded, IsZText, HasCause, past_end, bad_escape, no_table, nested, past_end_within}
use Rattle.ztext.specs.Text.{bad_escape_within}
use Rattle.ztext.specs.Faults.{HasFault, FailsText}

pub cause_is : {B : Type 0} (x y : Cause) → ◌≡◌ {A = Result B Cause} (Err x) (Err y) → x ≡ y
cause_is x y e = cc

bind_err : {A B : Type 0} (r : Result A Cause) (f : A → Result B Cause) (cause : Cause) → (r >>= f) ≡ Err cause
    → (r ≡ Err cause) ⊎ ((x : A) × (r ≡ Ok x) × (f x ≡ Err cause))
bind_err (Ok x) f cause e = inr (x, refl, e)
bind_err (Err d) f cause e = inl (ap (λ y. Err y) (cause_is d cause e))

-- ---- a text that runs past the end

abbrev PastEnd : List ℕ → ℕ → Type 0
PastEnd bytes at = (k : ℕ) → 2 * k + 1 < length bytes → at + 2 * k + 2 < 2 ^ 32 → get_or bytes (2 * k) 0 < 128

past_more : (h l : ℕ) (bytes : List ℕ) (at : ℕ) → h < 128 → PastEnd bytes (at + 2) → PastEnd (h ∷ l ∷ bytes) at
past_more h l bytes at lt rest zero a b = lt
past_more h l bytes at lt rest (suc k) a b =
    let e : 2 * suc k ≡ suc (suc (2 * k)) = omega arith in
    subst (λ n. get_or (h ∷ l ∷ bytes) n 0 < 128) (sym e) (rest k (omega (arith, a)) (omega (arith, b)))

last_err : (t : Bool) (at h l : ℕ) (cause : Cause) → ltb (at + 2) (2 ^ 32) ≡ t
    → cond {A = Result (List ℕ × ℕ) Cause} t (Ok (three_of h l, at + 2)) (Err End) ≡ Err cause
    → (cause ≡ End) × (2 ^ 32 ≤ at + 2)
last_err true at h l cause f e = absurd cc
last_err false at h l cause f e = (sym (cause_is {B = List ℕ × ℕ} End cause e), ltb-false _ _ f)

word_err : (t : Bool) (bytes : List ℕ) (at h l : ℕ) (cause : Cause) → leb 128 h ≡ t
    → cond t (last_word at h l) (unpacked_text (at + 2) bytes >>= λ x. Ok (three_of h l ++ x.0, x.1)) ≡ Err cause
    → ((other : Cause) → unpacked_text (at + 2) bytes ≡ Err other → (other ≡ End) × PastEnd bytes (at + 2))
    → (cause ≡ End) × PastEnd (h ∷ l ∷ bytes) at
word_err true bytes at h l cause f e again =
    let p = last_err (ltb (at + 2) (2 ^ 32)) at h l cause refl e in
    (p.0, λ k a b. absurd (omega (arith, p.1, b)))
word_err false bytes at h l cause f e again =
    elim (bind_err (unpacked_text (at + 2) bytes) (λ x. Ok (three_of h l ++ x.0, x.1)) cause e) [
      | inl past ↦ let p = again cause past in (p.0, past_more h l bytes at (leb-false 128 h f) p.1)
      | inr x ↦ let bad = x.2 in absurd cc
    ]

unpacked_err : (bytes : List ℕ) (at : ℕ) (cause : Cause) → unpacked_text at bytes ≡ Err cause
    → (cause ≡ End) × PastEnd bytes at
unfolding unpacked_text
unpacked_err [] at cause e = (sym (cause_is {B = List ℕ × ℕ} End cause e), λ k a b. absurd (omega (arith, a)))
unpacked_err (h ∷ []) at cause e = (sym (cause_is {B = List ℕ × ℕ} End cause e), λ k a b. absurd (omega (arith, a)))
unpacked_err (h ∷ l ∷ bytes) at cause e = word_err (leb 128 h) bytes at h l cause refl e
    (λ other f. unpacked_err bytes (at + 2) other f)

runs_past : (story : List ℕ) (at : ℕ) (cause : Cause) → z_text_at story at ≡ Err cause
    → (cause ≡ End) × RunsPastEnd story at
runs_past story at cause e =
    let p = unpacked_err (drop at story) at cause e in (
      p.0,
      λ k a b. subst (λ z. z < 128) (get_or-drop at story (2 * k) 0)
          (p.1 k (omega (arith, a, length-drop at story)) b),
    )

-- ---- a text whose Z-characters cannot be read

abbrev IsFault : (ℕ → Result (List ℕ) Cause) → List ℕ → Cause → Type 0
IsFault expand zs cause = ((cause ≡ Character) × HasBadEscape zs)
    ⊎ ((number : ℕ) × UsesAbbreviation zs number × (expand number ≡ Err cause))

escaped_cause : (t u : Bool) (code : ℕ) (cause : Cause) → eqb code 0 ≡ t → is_printable code ≡ u
    → cond t (Ok []) (cond u (Ok (code ∷ [])) (Err Character)) ≡ Err cause
    → (cause ≡ Character) × (eqb code 0 ≡ false) × (is_printable code ≡ false)
escaped_cause true u code cause f g e = absurd cc
escaped_cause false true code cause f g e = absurd cc
escaped_cause false false code cause f g e = (sym (cause_is {B = List ℕ} Character cause e), f, g)

never_err : (t u : Bool) (a b c : List ℕ) (cause : Cause) → cond t (Ok a) (cond u (Ok b) (Ok c)) ≡ Err cause → ⊥
never_err true u a b c cause e = cc
never_err false true a b c cause e = cc
never_err false false a b c cause e = cc

module _ (expand : ℕ → Result (List ℕ) Cause) where
  printed_cause : (zs : List ℕ) (place : ℕ) (cause : Cause) (s : ReadingState) → place < length zs
      → state_at zs place ≡ s
      → printed expand s (get_or zs place 0) ≡ Err cause → IsFault expand zs cause
  printed_cause zs place cause EscapeHigh lt is e = absurd cc
  printed_cause zs place cause (EscapeLow high) lt is e =
      let number = 32 * high + get_or zs place 0 in
      let p = escaped_cause (eqb number 0) (is_printable number) number cause refl refl e in
      inl (p.0, record { place = place; within = lt; high = high; state = is; code = p.1; bad = p.2 })
  printed_cause zs place cause (Abbreviated row) lt is e =
      inr (
        32 * (row - 1) + get_or zs place 0,
        record { place = place; within = lt; row = row; state = is; named = refl },
        e,
      )
  printed_cause zs place cause Lower lt is e =
      let z = get_or zs place 0 in absurd (never_err (eqb z 0) (ltb z 6) (32 ∷ []) [] (letter Lower z) cause e)
  printed_cause zs place cause Upper lt is e =
      let z = get_or zs place 0 in absurd (never_err (eqb z 0) (ltb z 6) (32 ∷ []) [] (letter Upper z) cause e)
  printed_cause zs place cause Punctuation lt is e =
      let z = get_or zs place 0 in absurd (never_err (eqb z 0) (ltb z 6) (32 ∷ []) [] (letter Punctuation z) cause e)

  reads_place : (s : ReadingState) (zs : List ℕ) (cause : Cause) → reads expand s zs ≡ Err cause
      → (place : ℕ) × (place < length zs)
      × (printed expand (state_after s (take place zs)) (get_or zs place 0) ≡ Err cause)
  unfolding reads
  reads_place s [] cause e = absurd cc
  reads_place s (z ∷ zs) cause e =
      elim (bind_err (printed expand s z) (λ text. reads expand (next s z) zs >>= λ more. Ok (text ++ more)) cause e) [
        | inl here ↦ (0, omega arith, here)
        | inr x ↦
            elim (bind_err (reads expand (next s z) zs) (λ more. Ok (x.0 ++ more)) cause x.2) [
              | inl later ↦ let w = reads_place (next s z) zs cause later in (suc w.0, omega (arith, w.1), w.2)
              | inr y ↦ let bad = y.2 in absurd cc
            ]
      ]

  reads_cause : (zs : List ℕ) (cause : Cause) → reads expand Lower zs ≡ Err cause → IsFault expand zs cause
  reads_cause zs cause e = let w = reads_place Lower zs cause e in
      printed_cause zs w.0 cause (state_at zs w.0) w.1 refl w.2

-- ---- the causes

within_stands : (story : List ℕ) (at : ℕ) (zs : List ℕ) (number : ℕ) (cause : Cause) (t : Bool) → IsZText story at zs
    → UsesAbbreviation zs number → has_abbreviations story ≡ t
    → cond t (read_with refused story (abbreviation_address story number) >>= λ x. Ok x.0) (Err Abbreviation)
    ≡ Err cause → HasCause story at cause
within_stands story at zs number cause false is uses f e = subst (HasCause story at)
    (cause_is {B = List ℕ} Abbreviation cause e) (no_table zs number is uses f)
within_stands story at zs number cause true is uses f e =
    let place = abbreviation_address story number in
    elim (bind_err (read_with refused story place) (λ x. Ok x.0) cause e) [
      | inr x ↦ let bad = x.2 in absurd cc
      | inl r ↦
          elim (bind_err (z_text_at story place) (λ x. reads refused Lower x.0 >>= λ text. Ok (text, x.1)) cause r) [
            | inl past ↦ let p = runs_past story place cause past in
                subst (HasCause story at) (sym p.0) (past_end_within zs number is uses f p.1)
            | inr x ↦
                elim (bind_err (reads refused Lower x.0.0) (λ text. Ok (text, x.0.1)) cause x.2) [
                  | inr y ↦ let bad = y.2 in absurd cc
                  | inl fault ↦
                      elim (reads_cause refused x.0.0 cause fault) [
                        | inl b ↦ subst (HasCause story at) (sym b.0)
                            (bad_escape_within zs x.0.0 number is uses f (x.0.1, x.1) b.1)
                        | inr u ↦ subst (HasCause story at) (cause_is {B = List ℕ} Abbreviation cause u.2)
                            (nested zs x.0.0 number u.0 is uses f (x.0.1, x.1) u.1)
                      ]
                ]
          ]
    ]

fault_stands : (story : List ℕ) (at : ℕ) (zs : List ℕ) (cause : Cause) → IsZText story at zs
    → IsFault (abbreviation story) zs cause → HasCause story at cause
unfolding abbreviation
fault_stands story at zs cause is (inl b) = subst (HasCause story at) (sym b.0) (bad_escape zs is b.1)
fault_stands story at zs cause is (inr u) = within_stands story at zs u.0 cause (has_abbreviations story) is u.1 refl
    u.2

pub stands : (story : List ℕ) (at : ℕ) (cause : Cause) → decoded story at ≡ Err cause → HasCause story at cause
unfolding decoded
stands story at cause e =
    elim (bind_err (z_text_at story at) (λ x. reads (abbreviation story) Lower x.0 >>= λ text. Ok (text, x.1)) cause
    e) [
      | inl past ↦ let p = runs_past story at cause past in subst (HasCause story at) (sym p.0) (past_end p.1)
      | inr x ↦
          elim (bind_err (reads (abbreviation story) Lower x.0.0) (λ text. Ok (text, x.0.1)) cause x.2) [
            | inl fault ↦ fault_stands story at x.0.0 cause (x.0.1, x.1)
                (reads_cause (abbreviation story) x.0.0 cause fault)
            | inr y ↦ let bad = y.2 in absurd cc
          ]
    ]

pub has_cause : (story : List ℕ) (at : ℕ) (fault : TextFault) → FailsText fault (decoded story at)
    → HasFault story at fault
has_cause story at faults.Character e = stands story at Character e
has_cause story at faults.End e = stands story at End e
has_cause story at faults.Abbreviation e = stands story at Abbreviation e
has_cause story at faults.Memory e = tt
