-- Texts that are read, a Z-character at a time.
use Rattle.std.proofs.Common.{◌≡◌, ℕ, suc, ◌+◌, ◌-◌, ◌*◌, ◌<◌, ◌≤◌, List, [], ◌∷◌, ◌++◌, length, drop, get_or}
use Rattle.std.proofs.Common.{Option, Some, None, Result, Ok, Err, refl, ap, sym, ◌∙◌, subst, arith, append_assoc, append-nil}
use Rattle.std.proofs.Common.{add-one, drop-cons, ◌⊎◌, inl, inr}
use Rattle.std.specs.Prelude.{◌==◌, nat_lt, if◌then◌else◌, Bool, true, false}
use Rattle.std.proofs.lemmas.Bool.{ne_eqb, le-ltb}
use Rattle.std.proofs.lemmas.List.{drop_all}
use Rattle.ztext.specs.declared.fault.TextFault.{TextFault}
use Rattle.ztext.specs.declared.fault.TextFault.TheVariants as faults
use Rattle.ztext.specs.Results.{◌>>=◌}
use Rattle.ztext.specs.Reading.{Cause, Abbreviation, ReadingState, Lower, Upper, Punctuation, EscapeHigh}
use Rattle.ztext.specs.Reading.{EscapeLow, Abbreviated, next}
use Rattle.ztext.specs.Text.{refused, has_abbreviations, abbreviation_address}
use Rattle.ztext.specs.Words.{unpacked_text}
use Rattle.ztext.specs.Faults.{FailsText}
use Rattle.ztext.specs.TextParts.{words_of, z_character_at}
use Rattle.ztext.proofs.Packing.{z_character-is, length-words_of}
use Rattle.zcore_standard.specs.Texts.{letter_codes, codes_of, read_codes, abbreviation_codes, codes_at}
use Rattle.machine_standard_texts.specs.declared.pieces.Piece.{Piece}
use Rattle.machine_standard_texts.specs.declared.pieces.Piece.TheVariants as pieces
use Rattle.machine_standard_texts.specs.declared.pieces.State as declared
use Rattle.machine_standard_texts.specs.declared.pieces.State.TheVariants as code
use Rattle.machine_standard_texts.specs.declared.reading.Named.{Named}
use Rattle.machine_standard_texts.specs.Pieces.{state_of, Comes, joined, ReadsPlain, IsNamedWithin}
use Rattle.machine_standard_texts.specs.Read.{rest_of}

-- codes, and then more codes
pub joined_more : (codes more : List ℕ) (r : Result (List ℕ) Cause)
    → joined codes (r >>= λ rest. Ok (more ++ rest)) ≡ joined (codes ++ more) r
joined_more codes more (Ok x) = ap (λ y. Ok y) (sym (append_assoc codes more x))
joined_more codes more (Err f) = refl

pub joined_nothing : (r : Result (List ℕ) Cause) → joined [] r ≡ r
joined_nothing (Ok x) = refl
joined_nothing (Err f) = refl

module _ (alphabets : List ℕ) (expand : ℕ → Result (List ℕ) Cause) where
  -- codes, and then those that are read from a place on
  pub read_from : List ℕ → ℕ → List ℕ → ReadingState → ℕ → Result (List ℕ) Cause
  read_from bytes words got state place =
      joined got (read_codes alphabets expand state (drop place (words_of words bytes)))

  codes_step : (s : ReadingState) (zs got more : List ℕ) (i : ℕ) → i < length zs
      → codes_of alphabets expand s (get_or zs i 0) ≡ Ok more
      → joined got (read_codes alphabets expand s (drop i zs))
      ≡ joined (got ++ more) (read_codes alphabets expand (next s (get_or zs i 0)) (drop (i + 1) zs))
  unfolding read_codes
  codes_step s zs got more i lt e = rw (drop-cons zs i 0, e, add-one)
      (joined_more got more (read_codes alphabets expand (next s (get_or zs i 0)) (drop (suc i) zs)))

  codes_named : (s : ReadingState) (zs got : List ℕ) (i : ℕ) (r : Result (List ℕ) Cause) → i < length zs
      → codes_of alphabets expand s (get_or zs i 0) ≡ r
      → joined got (read_codes alphabets expand s (drop i zs))
      ≡ joined got (r >>= λ more. joined more
      (read_codes alphabets expand (next s (get_or zs i 0)) (drop (i + 1) zs)))
  unfolding read_codes
  codes_named s zs got i r lt e = rw (drop-cons zs i 0, e, add-one) refl

  codes_end : (s : ReadingState) (zs got : List ℕ) (i : ℕ) → length zs ≤ i
      → joined got (read_codes alphabets expand s (drop i zs)) ≡ Ok got
  unfolding read_codes
  codes_end s zs got i le = rw (drop_all i zs le) (ap (λ y. Ok y) (append-nil got))

  -- a Z-character that comes to codes
  pub read_step : (bytes : List ℕ) (words z : ℕ) (got more : List ℕ) (state after : ReadingState) (place : ℕ)
      → z ≡ z_character_at bytes place → place < 3 * words → codes_of alphabets expand state z ≡ Ok more
      → after ≡ next state z
      → read_from bytes words got state place ≡ read_from bytes words (got ++ more) after (place + 1)
  unfolding read_from
  read_step bytes words z got more state after place is lt e moved =
      let zs = words_of words bytes in
      let same : z ≡ get_or zs place 0 = is ∙ z_character-is words bytes place lt in
      codes_step state zs got more place (omega (arith, length-words_of words bytes))
      (ap (codes_of alphabets expand state) (sym same) ∙ e)
      ∙ ap (λ s. joined (got ++ more) (read_codes alphabets expand s (drop (place + 1) zs)))
      (ap (next state) (sym same) ∙ sym moved)

  -- one that names an abbreviation
  pub read_named : (bytes : List ℕ) (words z number : ℕ) (got : List ℕ) (state : ReadingState) (place : ℕ)
      → z ≡ z_character_at bytes place → place < 3 * words → codes_of alphabets expand state z ≡ expand number
      → next state z ≡ Lower
      → read_from bytes words got state place
      ≡ joined got (expand number >>= λ more. joined more
      (read_codes alphabets expand Lower (drop (place + 1) (words_of words bytes))))
  unfolding read_from
  read_named bytes words z number got state place is lt e lower =
      let zs = words_of words bytes in
      let same : z ≡ get_or zs place 0 = is ∙ z_character-is words bytes place lt in
      codes_named state zs got place (expand number) (omega (arith, length-words_of words bytes))
      (ap (codes_of alphabets expand state) (sym same) ∙ e)
      ∙ ap (λ s. joined got (expand number >>= λ more. joined more
      (read_codes alphabets expand s (drop (place + 1) zs)))) (ap (next state) (sym same) ∙ lower)

  pub read_end : (bytes : List ℕ) (words : ℕ) (got : List ℕ) (state : ReadingState) (place : ℕ) → 3 * words ≤ place
      → read_from bytes words got state place ≡ Ok got
  unfolding read_from
  read_end bytes words got state place le = codes_end state (words_of words bytes) got place
      (omega (arith, length-words_of words bytes))

  pub read_begins : (bytes : List ℕ) (words place : ℕ)
      → read_from bytes words [] Lower place ≡ read_codes alphabets expand Lower (drop place (words_of words bytes))
  unfolding read_from
  read_begins bytes words place = joined_nothing (read_codes alphabets expand Lower (drop place (words_of words bytes)))

-- What a piece says

pub nothing : (expand : ℕ → Result (List ℕ) Cause) (read : Result (List ℕ) Cause) (found : Piece)
    → found ≡ pieces.Nothing → Comes expand read found → read ≡ Ok []
nothing expand read found is h = subst (λ o. Comes expand read o) is h

pub one : (expand : ℕ → Result (List ℕ) Cause) (read : Result (List ℕ) Cause) (found : Piece) (c : ℕ)
    → found ≡ pieces.Code c → Comes expand read found → read ≡ Ok (c ∷ [])
one expand read found c is h = subst (λ o. Comes expand read o) is h

pub named : (expand : ℕ → Result (List ℕ) Cause) (read : Result (List ℕ) Cause) (found : Piece) (number : ℕ)
    → found ≡ pieces.Abbreviation number → Comes expand read found → (read ≡ expand number) × (number < 96)
named expand read found number is h = subst (λ o. Comes expand read o) is h

-- an abbreviation is after its first Z-character, and no shift is left after its second

is_ok : (a b : Bool) (x y z : List ℕ) (f : Cause)
    → (if a then Ok x else (if b then Ok y else Ok z)) ≡ Err f → ⊥
is_ok true b x y z f e = cc
is_ok false true x y z f e = cc
is_ok false false x y z f e = cc

pub named_next : (alphabets : List ℕ) (state : ReadingState) (z : ℕ)
    → codes_of alphabets refused state z ≡ Err Abbreviation → next state z ≡ Lower
named_next alphabets EscapeHigh z e = absurd cc
named_next alphabets (EscapeLow high) z e = refl
named_next alphabets (Abbreviated row) z e = refl
named_next alphabets Lower z e =
    absurd (is_ok (z == 0) (nat_lt z 6) (32 ∷ []) [] (letter_codes alphabets Lower z) Abbreviation e)
named_next alphabets Upper z e =
    absurd (is_ok (z == 0) (nat_lt z 6) (32 ∷ []) [] (letter_codes alphabets Upper z) Abbreviation e)
named_next alphabets Punctuation z e =
    absurd (is_ok (z == 0) (nat_lt z 6) (32 ∷ []) [] (letter_codes alphabets Punctuation z) Abbreviation e)

-- a piece, in a state that is known

letter_from_six : (alphabets : List ℕ) (expand : ℕ → Result (List ℕ) Cause) (s : ReadingState) (z : ℕ) → 6 ≤ z
    → (s ≡ Lower) ⊎ ((s ≡ Upper) ⊎ (s ≡ Punctuation)) → codes_of alphabets expand s z ≡ Ok (letter_codes alphabets s z)
letter_from_six alphabets expand s z le (inl e) = rw (e, ne_eqb z 0 (λ h. omega arith), le-ltb z 6 le) refl
letter_from_six alphabets expand s z le (inr (inl e)) = rw (e, ne_eqb z 0 (λ h. omega arith), le-ltb z 6 le) refl
letter_from_six alphabets expand s z le (inr (inr e)) = rw (e, ne_eqb z 0 (λ h. omega arith), le-ltb z 6 le) refl

viewed : (state : declared.State) → (state ≡ code.Lower) ⊎ ((state ≡ code.Upper) ⊎ (state ≡ code.Punctuation))
    → (state_of state ≡ Lower) ⊎ ((state_of state ≡ Upper) ⊎ (state_of state ≡ Punctuation))
viewed state (inl e) = inl (ap state_of e)
viewed state (inr (inl e)) = inr (inl (ap state_of e))
viewed state (inr (inr e)) = inr (inr (ap state_of e))

pub comes_letter : (alphabets : List ℕ) (state : declared.State) (z : ℕ) (r : Piece)
    → (state ≡ code.Lower) ⊎ ((state ≡ code.Upper) ⊎ (state ≡ code.Punctuation)) → 6 ≤ z
    → ((expand : ℕ → Result (List ℕ) Cause) → Comes expand (Ok (letter_codes alphabets (state_of state) z)) r)
    → (expand : ℕ → Result (List ℕ) Cause) → Comes expand (codes_of alphabets expand (state_of state) z) r
comes_letter alphabets state z r e le h expand =
    subst (λ y. Comes expand y r) (sym (letter_from_six alphabets expand (state_of state) z le (viewed state e)))
    (h expand)

-- Abbreviations, and what is left of a text

abbrev pub left_places : ℕ → Option Named → ℕ
left_places end None = 0
left_places end (Some named) = suc (end - named.after)

pub fails_bind : {X Y : Type 0} (fault : TextFault) (read : Result X Cause) (f : X → Result Y Cause)
    → FailsText fault read → FailsText fault (read >>= f)
fails_bind faults.Character read f h = rw h refl
fails_bind faults.End read f h = rw h refl
fails_bind faults.Abbreviation read f h = rw h refl
fails_bind faults.Memory read f h = tt

abbrev pub IsNumbered : Option Named → Type 0
IsNumbered None = Unit {0}
IsNumbered (Some named) = named.number < 96

-- codes after codes
pub joined_behind : (codes more : List ℕ) (r : Result (List ℕ) Cause)
    → joined codes (joined more r) ≡ joined (codes ++ more) r
joined_behind codes more r = joined_more codes more r

module _ (alphabets story : List ℕ) (number : ℕ) where
  pub no_table : (fault : TextFault) → fault ≡ faults.Abbreviation → has_abbreviations story ≡ false
      → FailsText fault (abbreviation_codes alphabets story number)
  unfolding abbreviation_codes
  no_table fault e none = rw e (rw none refl)

  abbrev with_after : ℕ → List ℕ → Result (List ℕ × ℕ) Cause
  with_after after codes = Ok (codes, after)

  abbrev codes_alone : List ℕ × ℕ → Result (List ℕ) Cause
  codes_alone x = Ok x.0

  alone : (r : Result (List ℕ) Cause) (after : ℕ) → ((r >>= with_after after) >>= codes_alone) ≡ r
  alone (Ok x) after = refl
  alone (Err f) after = refl

  -- the text of an abbreviation
  pub text_alone : (bytes : List ℕ) (at after : ℕ) (zs : List ℕ) → has_abbreviations story ≡ true
      → at ≡ abbreviation_address story number → bytes ≡ drop at story → unpacked_text at bytes ≡ Ok (zs, after)
      → abbreviation_codes alphabets story number ≡ read_codes alphabets refused Lower zs
  unfolding abbreviation_codes
  text_alone bytes at after zs some is from found =
      let here : unpacked_text (abbreviation_address story number) (drop (abbreviation_address story number) story)
      ≡ Ok (zs, after) =
      ap (λ (k : ℕ). unpacked_text k (drop k story)) (sym is) ∙ ap (unpacked_text at) (sym from) ∙ found in
      rw (some, here) (alone (read_codes alphabets refused Lower zs) after)

  pub nowhere : (fault : TextFault) (bytes : List ℕ) (at : ℕ) → has_abbreviations story ≡ true
      → at ≡ abbreviation_address story number → bytes ≡ drop at story → FailsText fault (unpacked_text at bytes)
      → FailsText fault (abbreviation_codes alphabets story number)
  unfolding abbreviation_codes
  nowhere fault bytes at some is from h =
      let here : FailsText fault
      (unpacked_text (abbreviation_address story number) (drop (abbreviation_address story number) story)) =
      subst (λ (k : ℕ). FailsText fault (unpacked_text k (drop k story))) is
      (subst (λ l. FailsText fault (unpacked_text at l)) from h) in
      rw some (fails_bind fault _ (λ x. Ok x.0)
      (fails_bind fault _ (λ x. read_codes alphabets refused Lower x.0 >>= λ codes. Ok (codes, x.1)) here))

-- The rest of a text

module _ (alphabets : List ℕ) (expand : ℕ → Result (List ℕ) Cause) (zs : List ℕ) where
  pub plain_rest : (from : ℕ) (o : Option Named) (codes : List ℕ) → ReadsPlain alphabets zs from o codes
      → read_codes alphabets expand Lower (drop from zs) ≡ joined codes (rest_of alphabets expand zs o)
  plain_rest from None codes h = h expand ∙ ap (λ l. Ok l) (sym (append-nil codes))
  plain_rest from (Some named) codes h = h expand

  -- an abbreviation that was read, and what is after it
  pub rest_on : (named : Named) (o : Option Named) (got first second : List ℕ) (whole : Result (List ℕ) Cause)
      → joined got (rest_of alphabets expand zs (Some named)) ≡ whole → expand named.number ≡ Ok first
      → ReadsPlain alphabets zs named.after o second
      → joined (got ++ (first ++ second)) (rest_of alphabets expand zs o) ≡ whole
  rest_on named o got first second whole so_far e h =
      sym (joined_behind got (first ++ second) (rest_of alphabets expand zs o))
      ∙ sym (ap (joined got) (ap (λ r. r >>= λ more. joined more
      (read_codes alphabets expand Lower (drop named.after zs))) e
      ∙ ap (joined first) (plain_rest named.after o second h)
      ∙ joined_behind first second (rest_of alphabets expand zs o)))
      ∙ so_far

  pub rest_fails : (fault : TextFault) (named : Named) (got : List ℕ) (whole : Result (List ℕ) Cause)
      → joined got (rest_of alphabets expand zs (Some named)) ≡ whole → FailsText fault (expand named.number)
      → FailsText fault whole
  rest_fails fault named got whole so_far h = subst (FailsText fault) so_far
      (fails_bind fault _ (λ more. Ok (got ++ more))
      (fails_bind fault (expand named.number) (λ more. joined more
      (read_codes alphabets expand Lower (drop named.after zs))) h))

pub numbered : (from end : ℕ) (o : Option Named) → IsNamedWithin from end o → IsNumbered o
numbered from end None h = tt
numbered from end (Some named) h = h.0

pub left_less : (from end k : ℕ) (o : Option Named) → IsNamedWithin from end o → k ≡ suc (end - from)
    → left_places end o < k
left_less from end k None h e =
    let none : left_places end None ≡ 0 = refl in
    omega (arith, e, none)
left_less from end k (Some next_named) h e =
    let some : left_places end (Some next_named) ≡ suc (end - next_named.after) = refl in
    omega (arith, e, some, h.1, h.2)

-- The text at an address

module _ (alphabets story bytes : List ℕ) (at after : ℕ) (zs : List ℕ) (from : bytes ≡ drop at story)
    (found : unpacked_text at bytes ≡ Ok (zs, after)) where
  pub whole : codes_at alphabets story at
      ≡ (read_codes alphabets (abbreviation_codes alphabets story) Lower zs >>= λ codes. Ok (codes, after))
  unfolding codes_at
  whole = ap (λ r. r >>= λ x. read_codes alphabets (abbreviation_codes alphabets story) Lower x.0
      >>= λ codes. Ok (codes, x.1)) (ap (unpacked_text at) (sym from) ∙ found)

  pub whole_plain : (codes : List ℕ) → ReadsPlain alphabets zs 0 None codes
      → codes_at alphabets story at ≡ Ok (codes, after)
  whole_plain codes h = whole
      ∙ ap (λ r. r >>= λ codes. Ok (codes, after)) (h (abbreviation_codes alphabets story))

  pub whole_rest : (first : Named) (codes more : List ℕ) → ReadsPlain alphabets zs 0 (Some first) codes
      → rest_of alphabets (abbreviation_codes alphabets story) zs (Some first) ≡ Ok more
      → codes_at alphabets story at ≡ Ok (codes ++ more, after)
  whole_rest first codes more h e = whole
      ∙ ap (λ r. r >>= λ codes. Ok (codes, after))
      (h (abbreviation_codes alphabets story) ∙ ap (joined codes) e)

  pub whole_fails : (fault : TextFault) (first : Named) (codes : List ℕ) → ReadsPlain alphabets zs 0 (Some first) codes
      → FailsText fault (rest_of alphabets (abbreviation_codes alphabets story) zs (Some first))
      → FailsText fault (codes_at alphabets story at)
  whole_fails fault first codes h e = subst (FailsText fault) (sym whole)
      (fails_bind fault _ (λ codes. Ok (codes, after))
      (subst (FailsText fault) (sym (h (abbreviation_codes alphabets story)))
      (fails_bind fault _ (λ more. Ok (codes ++ more)) e)))

pub no_whole : (alphabets story bytes : List ℕ) (at : ℕ) (fault : TextFault) → bytes ≡ drop at story
    → FailsText fault (unpacked_text at bytes) → FailsText fault (codes_at alphabets story at)
unfolding codes_at
no_whole alphabets story bytes at fault from h = fails_bind fault _ (λ x. read_codes alphabets
    (abbreviation_codes alphabets story) Lower x.0 >>= λ codes. Ok (codes, x.1))
    (subst (λ l. FailsText fault (unpacked_text at l)) from h)
