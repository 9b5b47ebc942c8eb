-- Texts that are read, a Z-character at a time.
use Rattle.std.proofs.Common.{◌≡◌, ◌≢◌, ℕ, suc, ◌+◌, ◌-◌, ◌*◌, ◌<◌, ◌≤◌, List, [], ◌∷◌, ◌++◌, length, drop, get_or}
use Rattle.std.proofs.Common.{Option, Some, None, Result, Ok, Err, refl, ap, sym, ◌∙◌, subst, arith, append-nil}
use Rattle.std.proofs.Common.{add-one, drop-cons}
use Rattle.std.specs.Prelude.{◌&&◌, nat_le, Bool, true, false, slice_index}
use Rattle.std.proofs.lemmas.Bool.{ne_eqb, le-ltb, lt-leb}
use Rattle.std.proofs.lemmas.List.{drop_all}
use Rattle.ztext.specs.Bytes.{word_at}
use Rattle.ztext.specs.declared.fault.TextFault.{TextFault}
use Rattle.ztext.specs.declared.fault.TextFault.TheVariants as faults
use Rattle.ztext.specs.Results.{◌>>=◌}
use Rattle.ztext.specs.Reading.{Cause, Abbreviation}
use Rattle.ztext.specs.Text.{refused, abbreviation_address}
use Rattle.ztext.specs.Words.{unpacked_text}
use Rattle.ztext.specs.Faults.{FailsText}
use Rattle.ztext.specs.TextParts.{words_of, z_character_at}
use Rattle.ztext.proofs.Packing.{z_character-is, length-words_of}
use Rattle.zcore_versions.specs.LockedTexts.{Expected, Letter, High, Low, Number, alphabets_in, letter_codes, lock_after}
use Rattle.zcore_versions.specs.LockedTexts.{expected_after}
use Rattle.zcore_versions.specs.LockedTexts.{locked_codes, read_locked, has_32_abbreviations, locked_abbreviation}
use Rattle.zcore_versions.specs.LockedTexts.{locked_codes_at}
use Rattle.machine_standard_texts.specs.Pieces.{joined}
use Rattle.machine_standard_texts.proofs.Read.{joined_more, joined_nothing, fails_bind}
use Rattle.machine_locked_texts.specs.declared.letters.Piece.{Piece}
use Rattle.machine_locked_texts.specs.declared.letters.Piece.TheVariants as pieces
use Rattle.machine_locked_texts.specs.declared.reading.Named.{Named}
use Rattle.machine_locked_texts.specs.Letters.{Comes, read_with, ReadsPlain, IsNamedWithin, rest_of}

-- Z-characters one after another

module _ (version : ℕ) (expand : ℕ → Result (List ℕ) Cause) where
  -- codes, and then those that are read from a place on
  pub read_from : List ℕ → ℕ → List ℕ → ℕ → Expected → ℕ → Result (List ℕ) Cause
  read_from bytes words got lock expected place =
      joined got (read_locked version expand lock expected (drop place (words_of words bytes)))

  -- what is read after a Z-character
  after_it : ℕ → Expected → ℕ → List ℕ → Result (List ℕ) Cause
  after_it lock expected z zs = read_locked version expand (lock_after lock expected z)
      (expected_after version (lock_after lock expected z) expected z) zs

  codes_step : (lock : ℕ) (e : Expected) (zs got more : List ℕ) (i : ℕ) → i < length zs
      → locked_codes version expand e (get_or zs i 0) ≡ Ok more
      → joined got (read_locked version expand lock e (drop i zs))
      ≡ joined (got ++ more) (after_it lock e (get_or zs i 0) (drop (i + 1) zs))
  unfolding read_locked after_it
  codes_step lock e zs got more i lt is = rw (drop-cons zs i 0, is, add-one)
      (joined_more got more (after_it lock e (get_or zs i 0) (drop (suc i) zs)))

  codes_named : (lock : ℕ) (e : Expected) (zs got : List ℕ) (i : ℕ) (r : Result (List ℕ) Cause) → i < length zs
      → locked_codes version expand e (get_or zs i 0) ≡ r
      → joined got (read_locked version expand lock e (drop i zs))
      ≡ joined got (r >>= λ more. joined more (after_it lock e (get_or zs i 0) (drop (i + 1) zs)))
  unfolding read_locked after_it
  codes_named lock e zs got i r lt is = rw (drop-cons zs i 0, is, add-one) refl

  codes_end : (lock : ℕ) (e : Expected) (zs got : List ℕ) (i : ℕ) → length zs ≤ i
      → joined got (read_locked version expand lock e (drop i zs)) ≡ Ok got
  unfolding read_locked
  codes_end lock e zs got i le = rw (drop_all i zs le) (ap (λ y. Ok y) (append-nil got))

  -- a Z-character that comes to codes
  pub read_step : (bytes : List ℕ) (words z : ℕ) (got more : List ℕ) (lock new : ℕ) (e next : Expected) (place : ℕ)
      → z ≡ z_character_at bytes place → place < 3 * words → locked_codes version expand e z ≡ Ok more
      → new ≡ lock_after lock e z → next ≡ expected_after version new e z
      → read_from bytes words got lock e place ≡ read_from bytes words (got ++ more) new next (place + 1)
  unfolding read_from after_it
  read_step bytes words z got more lock new e next place is lt comes locks expects =
      let zs = words_of words bytes in
      let same : get_or zs place 0 ≡ z = sym (is ∙ z_character-is words bytes place lt) in
      codes_step lock e zs got more place (omega (arith, length-words_of words bytes))
      (ap (locked_codes version expand e) same ∙ comes)
      ∙ ap (λ (c : ℕ). joined (got ++ more) (read_locked version expand (lock_after lock e c)
      (expected_after version (lock_after lock e c) e c) (drop (place + 1) zs))) same
      ∙ ap (λ (l : ℕ). joined (got ++ more)
      (read_locked version expand l (expected_after version l e z) (drop (place + 1) zs))) (sym locks)
      ∙ ap (λ (x : Expected). joined (got ++ more) (read_locked version expand new x (drop (place + 1) zs))) (sym expects)

  -- one that names an abbreviation
  pub read_named : (bytes : List ℕ) (words z number : ℕ) (got : List ℕ) (lock new : ℕ) (e next : Expected) (place : ℕ)
      → z ≡ z_character_at bytes place → place < 3 * words → locked_codes version expand e z ≡ expand number
      → new ≡ lock_after lock e z → next ≡ expected_after version new e z → next ≡ Letter new
      → read_from bytes words got lock e place
      ≡ joined got (expand number >>= λ more. joined more
      (read_with version expand new (drop (place + 1) (words_of words bytes))))
  unfolding read_from after_it
  read_named bytes words z number got lock new e next place is lt comes locks expects letter =
      let zs = words_of words bytes in
      let same : get_or zs place 0 ≡ z = sym (is ∙ z_character-is words bytes place lt) in
      let on : (ℕ → Expected → Result (List ℕ) Cause) = λ l x. joined got (expand number >>= λ more. joined more
      (read_locked version expand l x (drop (place + 1) zs))) in
      codes_named lock e zs got place (expand number) (omega (arith, length-words_of words bytes))
      (ap (locked_codes version expand e) same ∙ comes)
      ∙ ap (λ (c : ℕ). on (lock_after lock e c) (expected_after version (lock_after lock e c) e c)) same
      ∙ ap (λ (l : ℕ). on l (expected_after version l e z)) (sym locks)
      ∙ ap (λ (x : Expected). on new x) (sym expects ∙ letter)

  pub read_end : (bytes : List ℕ) (words : ℕ) (got : List ℕ) (lock : ℕ) (e : Expected) (place : ℕ) → 3 * words ≤ place
      → read_from bytes words got lock e place ≡ Ok got
  unfolding read_from
  read_end bytes words got lock e place le = codes_end lock e (words_of words bytes) got place
      (omega (arith, length-words_of words bytes))

  pub read_begins : (bytes : List ℕ) (words lock new place : ℕ) (e : Expected) → new ≡ lock → e ≡ Letter lock
      → read_from bytes words [] new e place ≡ read_with version expand lock (drop place (words_of words bytes))
  unfolding read_from
  read_begins bytes words lock new place e is letter =
      joined_nothing (read_locked version expand new e (drop place (words_of words bytes)))
      ∙ ap (λ (l : ℕ). read_locked version expand l e (drop place (words_of words bytes))) is
      ∙ ap (λ (x : Expected). read_locked version expand lock x (drop place (words_of words bytes))) letter

-- Letters

pub sixth_letter : (version alphabet z code : ℕ) → z ≡ 6 → alphabet ≢ 2
    → code ≡ slice_index (alphabets_in version) (26 * alphabet + (z - 6))
    → letter_codes version alphabet z ≡ code ∷ []
sixth_letter version alphabet z code six other is =
    rw (six, ne_eqb alphabet 2 other) (ap (λ (c : ℕ). c ∷ []) (sym (rw six at is)))

pub later_letter : (version alphabet z code : ℕ) → 7 ≤ z
    → code ≡ slice_index (alphabets_in version) (26 * alphabet + (z - 6))
    → letter_codes version alphabet z ≡ code ∷ []
later_letter version alphabet z code le is =
    rw (
      ne_eqb z 0 (λ e. omega (arith, e, le)),
      ne_eqb z 1 (λ e. omega (arith, e, le)),
      le-ltb z 6 (omega (arith, le)),
      ne_eqb z 6 (λ e. omega (arith, e, le)),
    ) (ap (λ (c : ℕ). c ∷ []) (sym is))

-- What a piece says

pub nothing : (expand : ℕ → Result (List ℕ) Cause) (read : Result (List ℕ) Cause) (found : Piece)
    → found ≡ pieces.Nothing → Comes expand read found → read ≡ Ok []
nothing expand read found is h = subst (λ o. Comes expand read o) is h

pub one : (expand : ℕ → Result (List ℕ) Cause) (read : Result (List ℕ) Cause) (found : Piece) (c : ℕ)
    → found ≡ pieces.Code c → Comes expand read found → read ≡ Ok (c ∷ [])
one expand read found c is h = subst (λ o. Comes expand read o) is h

pub named : (expand : ℕ → Result (List ℕ) Cause) (read : Result (List ℕ) Cause) (found : Piece) (number : ℕ)
    → found ≡ pieces.Abbreviation number → Comes expand read found → (read ≡ expand number) × (number < 32)
named expand read found number is h = subst (λ o. Comes expand read o) is h

-- after the number of an abbreviation no shift is left
pub named_next : (version lock z : ℕ) (e : Expected) → locked_codes version refused e z ≡ Err Abbreviation
    → expected_after version lock e z ≡ Letter lock
named_next version lock z High e = absurd cc
named_next version lock z (Low high) e = absurd cc
named_next version lock z (Letter alphabet) e = absurd cc
named_next version lock z Number e = refl

-- Abbreviations, and what is left of a text

abbrev pub left_places : ℕ → Option Named → ℕ
left_places end None = 0
left_places end (Some named) = suc (end - named.after)

pub record IsNumber (named : Named) : Type 0 where
  pub number : named.number < 32
  pub lock : named.lock < 3

abbrev pub IsNumbered : Option Named → Type 0
IsNumbered None = Unit {0}
IsNumbered (Some named) = IsNumber named

and_false : (b : Bool) → (b && false) ≡ false
and_false true = refl
and_false false = refl

-- a story without a header has none
pub too_short : (story : List ℕ) → length story < 64 → false ≡ has_32_abbreviations story
too_short story short =
    let none : nat_le (word_at story 24 + 2 * 32) (length story) ≡ false = lt-leb _ _ (omega (arith, short)) in
    sym (rw none (and_false (nat_le 1 (word_at story 24))))

module _ (version : ℕ) (story : List ℕ) (number : ℕ) where
  pub no_table : (fault : TextFault) → fault ≡ faults.Abbreviation → has_32_abbreviations story ≡ false
      → FailsText fault (locked_abbreviation version story number)
  unfolding locked_abbreviation
  no_table fault e none = rw e (rw none refl)

  abbrev with_after : ℕ → List ℕ → Result (List ℕ × ℕ) Cause
  with_after after codes = Ok (codes, after)

  abbrev codes_alone : List ℕ × ℕ → Result (List ℕ) Cause
  codes_alone x = Ok x.0

  alone : (r : Result (List ℕ) Cause) (after : ℕ) → ((r >>= with_after after) >>= codes_alone) ≡ r
  alone (Ok x) after = refl
  alone (Err f) after = refl

  -- the text of an abbreviation
  pub text_alone : (bytes : List ℕ) (at after : ℕ) (zs : List ℕ) → has_32_abbreviations story ≡ true
      → at ≡ abbreviation_address story number → bytes ≡ drop at story → unpacked_text at bytes ≡ Ok (zs, after)
      → locked_abbreviation version story number ≡ read_with version refused 0 zs
  unfolding locked_abbreviation
  text_alone bytes at after zs some is from found =
      let here : unpacked_text (abbreviation_address story number) (drop (abbreviation_address story number) story)
      ≡ Ok (zs, after) =
      ap (λ (k : ℕ). unpacked_text k (drop k story)) (sym is) ∙ ap (unpacked_text at) (sym from) ∙ found in
      rw (some, here) (alone (read_with version refused 0 zs) after)

  pub nowhere : (fault : TextFault) (bytes : List ℕ) (at : ℕ) → has_32_abbreviations story ≡ true
      → at ≡ abbreviation_address story number → bytes ≡ drop at story → FailsText fault (unpacked_text at bytes)
      → FailsText fault (locked_abbreviation version story number)
  unfolding locked_abbreviation
  nowhere fault bytes at some is from h =
      let here : FailsText fault
      (unpacked_text (abbreviation_address story number) (drop (abbreviation_address story number) story)) =
      subst (λ (k : ℕ). FailsText fault (unpacked_text k (drop k story))) is
      (subst (λ l. FailsText fault (unpacked_text at l)) from h) in
      rw some (fails_bind fault _ (λ x. Ok x.0)
      (fails_bind fault _ (λ x. read_with version refused 0 x.0 >>= λ codes. Ok (codes, x.1)) here))

-- The rest of a text

module _ (version : ℕ) (expand : ℕ → Result (List ℕ) Cause) (zs : List ℕ) where
  pub plain_rest : (from lock : ℕ) (o : Option Named) (codes : List ℕ) → ReadsPlain version zs from lock o codes
      → read_with version expand lock (drop from zs) ≡ joined codes (rest_of version expand zs o)
  plain_rest from lock None codes h = h expand ∙ ap (λ l. Ok l) (sym (append-nil codes))
  plain_rest from lock (Some named) codes h = h expand

  -- an abbreviation that was read, and what is after it
  pub rest_on : (named : Named) (o : Option Named) (got first second : List ℕ) (whole : Result (List ℕ) Cause)
      → joined got (rest_of version expand zs (Some named)) ≡ whole → expand named.number ≡ Ok first
      → ReadsPlain version zs named.after named.lock o second
      → joined (got ++ (first ++ second)) (rest_of version expand zs o) ≡ whole
  rest_on named o got first second whole so_far e h =
      sym (joined_more got (first ++ second) (rest_of version expand zs o))
      ∙ sym (ap (joined got) (ap (λ r. r >>= λ more. joined more
      (read_with version expand named.lock (drop named.after zs))) e
      ∙ ap (joined first) (plain_rest named.after named.lock o second h)
      ∙ joined_more first second (rest_of version expand zs o)))
      ∙ so_far

  pub rest_fails : (fault : TextFault) (named : Named) (got : List ℕ) (whole : Result (List ℕ) Cause)
      → joined got (rest_of version expand zs (Some named)) ≡ whole → FailsText fault (expand named.number)
      → FailsText fault whole
  rest_fails fault named got whole so_far h = subst (FailsText fault) so_far
      (fails_bind fault _ (λ more. Ok (got ++ more))
      (fails_bind fault (expand named.number) (λ more. joined more
      (read_with version expand named.lock (drop named.after zs))) h))

pub numbered : (from end : ℕ) (o : Option Named) → IsNamedWithin from end o → IsNumbered o
numbered from end None h = tt
numbered from end (Some named) h = record { number = h.0; lock = h.1 }

pub left_less : (from end k : ℕ) (o : Option Named) → IsNamedWithin from end o → k ≡ suc (end - from)
    → left_places end o < k
left_less from end k None h e =
    let none : left_places end None ≡ 0 = refl in
    omega (arith, e, none)
left_less from end k (Some next_named) h e =
    let some : left_places end (Some next_named) ≡ suc (end - next_named.after) = refl in
    omega (arith, e, some, h.2, h.3)

-- The text at an address

module _ (version : ℕ) (story bytes : List ℕ) (at after : ℕ) (zs : List ℕ) (from : bytes ≡ drop at story)
    (found : unpacked_text at bytes ≡ Ok (zs, after)) where
  pub whole : locked_codes_at version story at
      ≡ (read_with version (locked_abbreviation version story) 0 zs >>= λ codes. Ok (codes, after))
  unfolding locked_codes_at
  whole = ap (λ r. r >>= λ x. read_with version (locked_abbreviation version story) 0 x.0
      >>= λ codes. Ok (codes, x.1)) (ap (unpacked_text at) (sym from) ∙ found)

  pub whole_plain : (codes : List ℕ) → ReadsPlain version zs 0 0 None codes
      → locked_codes_at version story at ≡ Ok (codes, after)
  whole_plain codes h = whole
      ∙ ap (λ r. r >>= λ codes. Ok (codes, after)) (h (locked_abbreviation version story))

  pub whole_rest : (first : Named) (codes more : List ℕ) → ReadsPlain version zs 0 0 (Some first) codes
      → rest_of version (locked_abbreviation version story) zs (Some first) ≡ Ok more
      → locked_codes_at version story at ≡ Ok (codes ++ more, after)
  whole_rest first codes more h e = whole
      ∙ ap (λ r. r >>= λ codes. Ok (codes, after))
      (h (locked_abbreviation version story) ∙ ap (joined codes) e)

  pub whole_fails : (fault : TextFault) (first : Named) (codes : List ℕ) → ReadsPlain version zs 0 0 (Some first) codes
      → FailsText fault (rest_of version (locked_abbreviation version story) zs (Some first))
      → FailsText fault (locked_codes_at version story at)
  whole_fails fault first codes h e = subst (FailsText fault) (sym whole)
      (fails_bind fault _ (λ codes. Ok (codes, after))
      (subst (FailsText fault) (sym (h (locked_abbreviation version story)))
      (fails_bind fault _ (λ more. Ok (codes ++ more)) e)))

pub no_whole : (version : ℕ) (story bytes : List ℕ) (at : ℕ) (fault : TextFault) → bytes ≡ drop at story
    → FailsText fault (unpacked_text at bytes) → FailsText fault (locked_codes_at version story at)
unfolding locked_codes_at
no_whole version story bytes at fault from h = fails_bind fault _ (λ x. read_with version
    (locked_abbreviation version story) 0 x.0 >>= λ codes. Ok (codes, x.1))
    (subst (λ l. FailsText fault (unpacked_text at l)) from h)
