-- Texts that use abbreviations are read back.
use Rattle.std.proofs.Common.{◌≡◌, ℕ, suc, ◌+◌, ◌-◌, ◌*◌, ◌/◌, ◌%◌, ◌^◌, ◌<◌, ◌≤◌, true, false, eqb, ltb, List, [], ◌∷◌}
use Rattle.std.proofs.Common.{◌++◌, length, drop, Result, Ok, Err, refl, sym, ap, subst, ◌∙◌, append_assoc, arith}
use Rattle.std.specs.Prelude.{replicate, Vec, IfOk, if◌then◌else◌}
use Rattle.std.specs.List.{All, list_all}
use Rattle.std.proofs.lemmas.Bool.{ne_eqb, lt-ltb, and_parts}
use Rattle.std.proofs.lemmas.List.{append-nil}
use Rattle.std.proofs.lemmas.List.Elements.{All-weaker}
use Rattle.ztext.specs.declared.fault.TextFault.{TextFault}
use Rattle.ztext.specs.Alphabets.{is_printable, spelling_of, spelled}
use Rattle.ztext.specs.Results.{◌>>=◌}
use Rattle.ztext.specs.Reading.{Cause, Abbreviation, Lower, Abbreviated, next, printed, reads}
use Rattle.ztext.specs.Words.{packed, missing, padded}
use Rattle.ztext.specs.Text.{has_abbreviations, abbreviation_address, read_with, refused, abbreviation, decoded}
use Rattle.ztext.specs.Text.{encoded, Holds}
use Rattle.ztext.specs.Abbreviations.{abbreviation_at, spelled_behind, encoded_with, HasAbbreviations}
use Rattle.ztext.specs.Faults.{EncodesWith}
use Rattle.ztext.proofs.Loops.{before, before_more}
use Rattle.ztext.proofs.RoundTrip.{before_none, prints, reads_one, reads_runs, lower_fives, reads_padded, padded_small}
use Rattle.ztext.proofs.RoundTrip.{read_back}
use Rattle.ztext.proofs.Longest.{spelled_cases}
use Rattle.ztext.proofs.Shortening.{printable_bytes, shortened_small, long_enough, drop_none}

-- abbreviations of two characters or more are not empty
pub some_if_two : (abbreviations : List (List ℕ)) → All (λ (a : List ℕ). 2 ≤ length a) abbreviations
    → All (λ (a : List ℕ). 0 < length a) abbreviations
some_if_two abbreviations h =
    All-weaker (λ (a : List ℕ). 2 ≤ length a) (λ (a : List ℕ). 0 < length a) (λ a le. omega arith) abbreviations h

-- a text of a story in which these stand for the abbreviations
module _ (texts : List (List ℕ)) (expand : ℕ → Result (List ℕ) Cause)
    (knows : (n : ℕ) → n < length texts → n < 96 → expand n ≡ Ok (abbreviation_at texts n))
    (some : All (λ (a : List ℕ). 0 < length a) texts) where
  -- two Z-characters are an abbreviation
  abbreviation_read : (n : ℕ) (a zs : List ℕ) → n < 96 → expand n ≡ Ok a
      → reads expand Lower ((1 + n / 32) ∷ (n % 32) ∷ zs) ≡ before a (reads expand Lower zs)
  abbreviation_read n a zs lt e =
      let row = 1 + n / 32 in
      let not_space : eqb row 0 ≡ false = ne_eqb row 0 (λ h. omega arith) in
      let few : ltb row 6 ≡ true = lt-ltb row 6 (omega arith) in
      let fewer : ltb row 4 ≡ true = lt-ltb row 4 (omega arith) in
      let nothing : printed expand Lower row ≡ Ok [] = rw (not_space, few) refl in
      let after : next Lower row ≡ Abbreviated row = rw (not_space, fewer) refl in
      let number : 32 * (row - 1) + n % 32 ≡ n = omega arith in
      let text : printed expand (Abbreviated row) (n % 32) ≡ Ok a = ap expand number ∙ e in
      reads_one expand Lower row ((n % 32) ∷ zs) [] nothing
      ∙ ap (λ s. before [] (reads expand s ((n % 32) ∷ zs))) after
      ∙ sym (before_none (reads expand (Abbreviated row) ((n % 32) ∷ zs)))
      ∙ reads_one expand (Abbreviated row) (n % 32) zs a text

  behind_read : (spelled : ℕ) (text rest : List ℕ) → list_all is_printable text ≡ true
      → reads expand Lower (spelled_behind texts spelled text ++ rest)
      ≡ before (drop spelled text) (reads expand Lower rest)
  behind_read n [] rest e = before_none (reads expand Lower rest)
      ∙ ap (λ text. before text (reads expand Lower rest)) (sym (drop_none n))
  behind_read n (c ∷ cs) rest e =
      let parts = and_parts (is_printable c) (list_all is_printable cs) e in
      let after = reads expand Lower rest in
      spelled_cases (λ zs. reads expand Lower (zs ++ rest) ≡ before (drop n (c ∷ cs)) after) texts c cs n
      (λ k is. behind_read k cs rest parts.1 ∙ ap (λ m. before (drop m (c ∷ cs)) after) (sym is))
      (λ is. ap (reads expand Lower) (append_assoc (spelling_of c) (spelled_behind texts 0 cs) rest)
      ∙ reads_runs expand Lower Lower (spelling_of c) (spelled_behind texts 0 cs ++ rest) (c ∷ [])
      (prints expand c parts.0)
      ∙ ap (before (c ∷ [])) (behind_read 0 cs rest parts.1)
      ∙ before_more (c ∷ []) cs after
      ∙ ap (λ m. before (drop m (c ∷ cs)) after) (sym is))
      (λ is x s.
      let a = abbreviation_at texts x.number in
      let long = long_enough texts (c ∷ cs) x 1 some s in
      let size : x.length ≡ suc (x.length - 1) = omega arith in
      let whole : a ++ drop (x.length - 1) cs ≡ c ∷ cs =
      sym (s.front ∙ ap (λ m. a ++ drop m (c ∷ cs)) size) in
      abbreviation_read x.number a (spelled_behind texts (x.length - 1) cs ++ rest) s.few
      (knows x.number s.within s.few)
      ∙ ap (before a) (behind_read (x.length - 1) cs rest parts.1)
      ∙ before_more a (drop (x.length - 1) cs) after
      ∙ ap (λ text. before text after) whole
      ∙ ap (λ m. before (drop m (c ∷ cs)) after) (sym is))

  shortened_read : (text : List ℕ) → list_all is_printable text ≡ true
      → reads expand Lower (padded (spelled_behind texts 0 text)) ≡ Ok text
  shortened_read text e =
      let many = missing (length (spelled_behind texts 0 text)) in
      behind_read 0 text (replicate many 5) e ∙ ap (before text) (lower_fives expand many)
      ∙ ap (λ y. Ok y) (append-nil text)

-- a text that uses abbreviations is read back where a story has them
pub round_trip_with : (abbreviations : List (List ℕ)) (text story : List ℕ) (at : ℕ)
    → All (λ (a : List ℕ). 0 < length a) abbreviations → list_all is_printable text ≡ true
    → HasAbbreviations story abbreviations → Holds story at (encoded_with abbreviations text)
    → at + length (encoded_with abbreviations text) < 2 ^ 32
    → decoded story at ≡ Ok (text, at + length (encoded_with abbreviations text))
unfolding decoded encoded_with
round_trip_with abbreviations text story at some e has held lt =
    read_back (abbreviation story) (spelled_behind abbreviations 0 text) text
    (packed (padded (spelled_behind abbreviations 0 text))) story at
    (shortened_small abbreviations text (printable_bytes text e))
    (shortened_read abbreviations (abbreviation story) has some text e) refl held lt

-- what a call answered is read back
pub read_again : {Z : Type 0} (abbreviations : List (List ℕ)) (text : List ℕ) (result : Result (Vec ℕ Z) TextFault)
    → All (λ (a : List ℕ). 0 < length a) abbreviations → EncodesWith abbreviations text result
    → IfOk result (λ v. (story : List ℕ) (at : ℕ) → HasAbbreviations story abbreviations → Holds story at v.items
    → at + length v.items < 2 ^ 32 → decoded story at ≡ Ok (text, at + length v.items))
read_again abbreviations text (Ok v) some h = λ story at has held lt.
    subst (λ bytes. Holds story at bytes → at + length bytes < 2 ^ 32
    → decoded story at ≡ Ok (text, at + length bytes)) (sym h.1)
    (round_trip_with abbreviations text story at some h.0 has) held lt
read_again abbreviations text (Err fault) some h = tt

-- an abbreviation's text, which uses none itself, is read where the table names its place
pub plain_abbreviation : (text story : List ℕ) (number address : ℕ) → has_abbreviations story ≡ true
    → abbreviation_address story number ≡ address → list_all is_printable text ≡ true
    → Holds story address (encoded text) → address + length (encoded text) < 2 ^ 32
    → abbreviation story number ≡ Ok text
unfolding abbreviation encoded
plain_abbreviation text story number address has is e held lt =
    let back = read_back refused (spelled text) text (packed (padded (spelled text))) story address
    (padded_small text (printable_bytes text e)) (reads_padded refused text e) refl held lt in
    ap (λ b. if b then (read_with refused story (abbreviation_address story number) >>= λ x. Ok x.0)
    else Err Abbreviation) has
    ∙ ap (λ at. read_with refused story at >>= λ x. Ok x.0) is
    ∙ ap (λ r. r >>= λ x. Ok x.0) back
