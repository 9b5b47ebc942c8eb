-- Reading, a Z-character at a time.
use Rattle.std.proofs.Common.{◌≡◌, ℕ, suc, ◌+◌, ◌*◌, ◌/◌, ◌%◌, ◌<◌, ◌≤◌, Bool, true, false, List, [], ◌∷◌, ◌++◌, length, get_or}
use Rattle.std.proofs.Common.{if◌then◌else◌, eqb, ltb, drop, Result, Ok, Err, refl, sym, ap, subst, ◌∙◌, append_assoc, slice_index}
use Rattle.std.proofs.Common.{arith, add-one, drop-cons, ◌⊎◌, inl, inr, take}
use Rattle.std.proofs.lemmas.Bool.{ne_eqb, le-ltb}
use Rattle.std.proofs.lemmas.List.{append-nil, drop_all, take_all, length-append}
use Rattle.ztext.specs.declared.fault.TextFault.{TextFault}
use Rattle.ztext.specs.declared.fault.TextFault.TheVariants as faults
use Rattle.ztext.specs.declared.reading.State as declared
use Rattle.ztext.specs.declared.reading.State.TheVariants as code
use Rattle.ztext.specs.declared.reading.Output.{Output}
use Rattle.ztext.specs.declared.reading.Output.TheVariants as outputs
use Rattle.ztext.specs.Results.{◌>>=◌}
use Rattle.ztext.specs.Reading.{Cause, Character, End, Abbreviation, Lower, Upper, Punctuation, EscapeHigh}
use Rattle.ztext.specs.Reading.{ReadingState, EscapeLow, Abbreviated, next, letter, escaped, printed, reads}
use Rattle.ztext.specs.Text.{read_with, refused}
use Rattle.ztext.specs.Words.{unpacked_text}
use Rattle.ztext.specs.Faults.{FailsText}
use Rattle.ztext.specs.Fronts.{front_of, after_text}
use Rattle.ztext.specs.TextParts.{words_of, three_at, z_character_at, state_of, Prints, PrintsInLower, ArePrintedInLower, IsReadAtOnce}
use Rattle.ztext.specs.Expansions.{read_on, rest_of}
use Rattle.ztext.proofs.Packing.{z_character-is, length-words_of}
use Rattle.ztext.proofs.Fronts.{front, take_front}

-- characters, and then those that are still read
abbrev pub before : List ℕ → Result (List ℕ) Cause → Result (List ℕ) Cause
before text r = r >>= λ more. Ok (text ++ more)

pub before_more : (text c : List ℕ) (r : Result (List ℕ) Cause)
    → before text (r >>= λ more. Ok (c ++ more)) ≡ before (text ++ c) r
before_more text c (Ok x) = ap (λ y. Ok y) (sym (append_assoc text c x))
before_more text c (Err f) = refl

front_before : (most : ℕ) (text : List ℕ) (r : Result (List ℕ) Cause)
    → front most (before (take most text) r) ≡ front most (before text r)
front_before most text (Ok x) = ap (λ y. Ok y) (take_front most text x)
front_before most text (Err f) = refl

front_all : (most : ℕ) (text : List ℕ) (r : Result (List ℕ) Cause)
    → front most (before text r) ≡ (r >>= λ more. Ok (take most (text ++ more)))
front_all most text (Ok x) = refl
front_all most text (Err f) = refl

module _ (expand : ℕ → Result (List ℕ) Cause) where
  reads_step : (s : ReadingState) (zs text got : List ℕ) (i : ℕ) → i < length zs
      → printed expand s (get_or zs i 0) ≡ Ok got
      → before text (reads expand s (drop i zs))
      ≡ before (text ++ got) (reads expand (next s (get_or zs i 0)) (drop (i + 1) zs))
  unfolding reads
  reads_step s zs text got i lt e = rw (drop-cons zs i 0, e, add-one)
      (before_more text got (reads expand (next s (get_or zs i 0)) (drop (suc i) zs)))

  reads_err : (s : ReadingState) (zs text : List ℕ) (i : ℕ) (f : Cause) → i < length zs
      → printed expand s (get_or zs i 0) ≡ Err f → before text (reads expand s (drop i zs)) ≡ Err f
  unfolding reads
  reads_err s zs text i f lt e = rw (drop-cons zs i 0, e) refl

  reads_end : (s : ReadingState) (zs text : List ℕ) (i : ℕ) → length zs ≤ i
      → before text (reads expand s (drop i zs)) ≡ Ok text
  unfolding reads
  reads_end s zs text i le = rw (drop_all i zs le) (ap (λ y. Ok y) (append-nil text))

  -- characters, and then what the Z-characters from a place on print
  pub read_from : List ℕ → ℕ → List ℕ → ReadingState → ℕ → Result (List ℕ) Cause
  read_from bytes words text state place = before text (reads expand state (drop place (words_of words bytes)))

  pub read_step : (bytes : List ℕ) (words : ℕ) (text got : List ℕ) (state : ReadingState) (place : ℕ)
      → place < 3 * words
      → printed expand state (z_character_at bytes place) ≡ Ok got
      → read_from bytes words text state place ≡ read_from bytes words (text ++ got)
      (next state (z_character_at bytes place)) (place + 1)
  unfolding read_from
  read_step bytes words text got state place lt e =
      let is = z_character-is words bytes place lt in
      let step = reads_step state (words_of words bytes) text got place (omega (arith, length-words_of words bytes))
      (ap (printed expand state) (sym is) ∙ e) in
      step ∙ ap (λ z. before (text ++ got) (reads expand (next state z) (drop (place + 1) (words_of words bytes))))
      (sym is)

  pub read_err : (bytes : List ℕ) (words : ℕ) (text : List ℕ) (state : ReadingState) (place : ℕ) (f : Cause)
      → place < 3 * words → printed expand state (z_character_at bytes place) ≡ Err f
      → read_from bytes words text state place ≡ Err f
  unfolding read_from
  read_err bytes words text state place f lt e =
      reads_err state (words_of words bytes) text place f (omega (arith, length-words_of words bytes))
      (ap (printed expand state) (sym (z_character-is words bytes place lt)) ∙ e)

  pub read_end : (bytes : List ℕ) (words : ℕ) (text : List ℕ) (state : ReadingState) (place : ℕ) → 3 * words ≤ place
      → read_from bytes words text state place ≡ Ok text
  unfolding read_from
  read_end bytes words text state place le = reads_end state (words_of words bytes) text place
      (omega (arith, length-words_of words bytes))

  pub read_on_is : (most : ℕ) (bytes : List ℕ) (words : ℕ) (text : List ℕ) (place : ℕ)
      → front most (read_from bytes words text Lower place)
      ≡ read_on expand most text (drop place (words_of words bytes))
  unfolding read_from
  read_on_is most bytes words text place = front_all most text (reads expand Lower (drop place (words_of words bytes)))

pub printed_escape : (state : declared.State) (high z number : ℕ) (r : Result Output TextFault)
    → state ≡ code.EscapeLow high → number ≡ 32 * high + z
    → ((expand : ℕ → Result (List ℕ) Cause) → Prints expand (escaped number) r)
    → (expand : ℕ → Result (List ℕ) Cause) → Prints expand (printed expand (state_of state) z) r
printed_escape state high z number r e f h expand =
    subst (λ s. Prints expand (printed expand (state_of s) z) r) (sym e)
    (subst (λ k. Prints expand (escaped k) r) f (h expand))

-- what is printed in a state that is known
pub printed_in : (state is : declared.State) (z : ℕ) (r : Result Output TextFault) → state ≡ is
    → ((expand : ℕ → Result (List ℕ) Cause) → Prints expand (printed expand (state_of is) z) r)
    → (expand : ℕ → Result (List ℕ) Cause) → Prints expand (printed expand (state_of state) z) r
printed_in state is z r e h expand = subst (λ s. Prints expand (printed expand (state_of s) z) r) (sym e) (h expand)

printed_from_six : (expand : ℕ → Result (List ℕ) Cause) (s : ReadingState) (z : ℕ) → 6 ≤ z
    → (s ≡ Lower) ⊎ ((s ≡ Upper) ⊎ (s ≡ Punctuation)) → printed expand s z ≡ Ok (letter s z)
printed_from_six expand s z le (inl e) = rw (e, ne_eqb z 0 (λ h. omega arith), le-ltb z 6 le) refl
printed_from_six expand s z le (inr (inl e)) = rw (e, ne_eqb z 0 (λ h. omega arith), le-ltb z 6 le) refl
printed_from_six expand s z le (inr (inr e)) = rw (e, ne_eqb z 0 (λ h. omega arith), le-ltb z 6 le) refl

viewed : (state : declared.State) → (state ≡ code.Lower) ⊎ ((state ≡ code.Upper) ⊎ (state ≡ code.Punctuation))
    → (state_of state ≡ Lower) ⊎ ((state_of state ≡ Upper) ⊎ (state_of state ≡ Punctuation))
viewed state (inl e) = inl (ap state_of e)
viewed state (inr (inl e)) = inr (inl (ap state_of e))
viewed state (inr (inr e)) = inr (inr (ap state_of e))

pub printed_letter : (state : declared.State) (z : ℕ) (r : Result Output TextFault)
    → (state ≡ code.Lower) ⊎ ((state ≡ code.Upper) ⊎ (state ≡ code.Punctuation)) → 6 ≤ z
    → ((expand : ℕ → Result (List ℕ) Cause) → Prints expand (Ok (letter (state_of state) z)) r)
    → (expand : ℕ → Result (List ℕ) Cause) → Prints expand (printed expand (state_of state) z) r
printed_letter state z r e le h expand =
    subst (λ y. Prints expand y r) (sym (printed_from_six expand (state_of state) z le (viewed state e))) (h expand)

-- ---- the exits

pub printed_fails : (expand : ℕ → Result (List ℕ) Cause) (read : Result (List ℕ) Cause) (fault : TextFault)
    → Prints expand read (Err fault) → FailsText fault read
printed_fails expand read faults.Character h = h
printed_fails expand read faults.End h = absurd h
printed_fails expand read faults.Abbreviation h = absurd h
printed_fails expand read faults.Memory h = absurd h

pub fails_bind : {X Y : Type 0} (fault : TextFault) (read : Result X Cause) (f : X → Result Y Cause)
    → FailsText fault read → FailsText fault (read >>= f)
fails_bind faults.Character read f h = rw h refl
fails_bind faults.End read f h = rw h refl
fails_bind faults.Abbreviation read f h = rw h refl
fails_bind faults.Memory read f h = tt

module _ (expand : ℕ → Result (List ℕ) Cause) where
  fails_from : (fault : TextFault) (bytes : List ℕ) (words : ℕ) (text : List ℕ) (state : ReadingState) (place : ℕ)
      → place < 3 * words → FailsText fault (printed expand state (z_character_at bytes place))
      → FailsText fault (read_from expand bytes words text state place)
  fails_from faults.Character bytes words text state place lt h = read_err expand bytes words text state place
      Character lt h
  fails_from faults.End bytes words text state place lt h = read_err expand bytes words text state place End lt h
  fails_from faults.Abbreviation bytes words text state place lt h = read_err expand bytes words text state place
      Abbreviation lt h
  fails_from faults.Memory bytes words text state place lt h = tt

  named_from : (most : ℕ) (bytes : List ℕ) (words : ℕ) (text : List ℕ) (state : ReadingState) (place : ℕ)
      (read : Result (List ℕ) Cause) → place < 3 * words
      → printed expand state (z_character_at bytes place) ≡ read → next state (z_character_at bytes place) ≡ Lower
      → front most (read_from expand bytes words text state place)
      ≡ (read >>= λ more. read_on expand most (text ++ more) (drop (place + 1) (words_of words bytes)))
  unfolding read_from
  named_from most bytes words text state place (Ok more) lt e lower =
      ap (front most) (read_step expand bytes words text more state place lt e)
      ∙ ap (λ s. front most (read_from expand bytes words (text ++ more) s (place + 1))) lower
      ∙ read_on_is expand most bytes words (text ++ more) (place + 1)
  named_from most bytes words text state place (Err f) lt e lower =
      ap (front most) (read_err expand bytes words text state place f lt e)

  -- a Z-character that cannot be read
  pub fault_at : (most : ℕ) (fault : TextFault) (bytes : List ℕ) (words z : ℕ) (text : List ℕ) (state : ReadingState)
      (place : ℕ) (whole : Result (List ℕ) Cause) → z ≡ z_character_at bytes place → place < 3 * words
      → front most (read_from expand bytes words text state place) ≡ whole → FailsText fault (printed expand state z)
      → FailsText fault whole
  fault_at most fault bytes words z text state place whole is lt so_far h =
      let here = fails_from fault bytes words text state place lt
      (subst (λ y. FailsText fault (printed expand state y)) is h) in
      subst (FailsText fault) so_far
      (fails_bind fault (read_from expand bytes words text state place) (λ got. Ok (take most got)) here)

  -- the end of the text
  pub done_at : (most : ℕ) (bytes : List ℕ) (words : ℕ) (text : List ℕ) (state : ReadingState) (place : ℕ)
      (whole : Result (List ℕ) Cause) → 3 * words ≤ place → length text ≤ most
      → front most (read_from expand bytes words text state place) ≡ whole → whole ≡ Ok text
  done_at most bytes words text state place whole le room so_far =
      sym so_far ∙ ap (front most) (read_end expand bytes words text state place le)
      ∙ ap (λ got. Ok got) (take_all most text room)

  -- a Z-character that names an abbreviation
  pub named_at : (most : ℕ) (bytes : List ℕ) (words z number : ℕ) (text : List ℕ) (state : ReadingState) (place : ℕ)
      (whole : Result (List ℕ) Cause) → z ≡ z_character_at bytes place → place < 3 * words
      → front most (read_from expand bytes words text state place) ≡ whole
      → printed expand state z ≡ expand number → next state z ≡ Lower
      → whole ≡ rest_of expand most text (words_of words bytes) (record { number = number; after = place + 1 })
  named_at most bytes words z number text state place whole is lt so_far e lower =
      sym so_far
      ∙ named_from most bytes words text state place (expand number) lt (ap (printed expand state) (sym is) ∙ e)
      (ap (next state) (sym is) ∙ lower)

  front_from : (most : ℕ) (bytes : List ℕ) (words : ℕ) (text : List ℕ) (state : ReadingState) (place : ℕ)
      → front most (read_from expand bytes words (take most text) state place)
      ≡ front most (read_from expand bytes words text state place)
  unfolding read_from
  front_from most bytes words text state place =
      front_before most text (reads expand state (drop place (words_of words bytes)))

  -- a Z-character that prints
  pub turn_at : (most : ℕ) (bytes : List ℕ) (words z : ℕ) (text got now : List ℕ) (state after : ReadingState)
      (place : ℕ) (whole : Result (List ℕ) Cause) → z ≡ z_character_at bytes place → place < 3 * words
      → front most (read_from expand bytes words text state place) ≡ whole
      → printed expand state z ≡ Ok got → now ≡ take most (text ++ got) → after ≡ next state z
      → front most (read_from expand bytes words now after (place + 1)) ≡ whole
  turn_at most bytes words z text got now state after place whole is lt so_far e grown moved =
      ap (λ ts. front most (read_from expand bytes words ts after (place + 1))) grown
      ∙ front_from most bytes words (text ++ got) after (place + 1)
      ∙ ap (λ s. front most (read_from expand bytes words (text ++ got) s (place + 1))) moved
      ∙ ap (λ y. front most (read_from expand bytes words (text ++ got) (next state y) (place + 1))) is
      ∙ ap (front most)
      (sym (read_step expand bytes words text got state place lt (ap (printed expand state) (sym is) ∙ e))) ∙ so_far

-- ---- a word whose Z-characters are letters of alphabet A0 and spaces

z_in_word : (bytes : List ℕ) (place k at : ℕ) → place % 3 ≡ 0 → k < 3 → at ≡ place + k
    → slice_index (three_at bytes (place / 3)) k ≡ z_character_at bytes at
z_in_word bytes place k at begins lt is =
    let d : at / 3 ≡ place / 3 = omega (arith, begins, lt, is) in
    let m : at % 3 ≡ k = omega (arith, begins, lt, is) in
    rw (d, m) refl

-- the Z-character in a column of a word
pub z_here : (bytes characters : List ℕ) (place column z : ℕ) → z ≡ slice_index characters column
    → characters ≡ three_at bytes (place / 3) → column ≡ place % 3 → z ≡ z_character_at bytes place
z_here bytes characters place column z e f g = e ∙ ap (λ l. slice_index l column) f
    ∙ ap (λ k. slice_index (three_at bytes (place / 3)) k) g

pub small_many : (zs cs : List ℕ) → ArePrintedInLower zs cs → length cs ≡ length zs
small_many [] [] h = refl
small_many (z ∷ zs) (c ∷ cs) h = omega (arith, small_many zs cs h.1)
small_many [] (c ∷ cs) h = absurd h
small_many (z ∷ zs) [] h = absurd h

module _ (expand : ℕ → Result (List ℕ) Cause) (most : ℕ) (bytes : List ℕ) (words place : ℕ)
    (whole : Result (List ℕ) Cause) where
  small_at : (text now : List ℕ) (k at c : ℕ) → place % 3 ≡ 0 → k < 3 → at ≡ place + k → at < 3 * words
      → PrintsInLower (slice_index (three_at bytes (place / 3)) k) c → now ≡ take most (text ++ c ∷ [])
      → front most (read_from expand bytes words text Lower at) ≡ whole
      → front most (read_from expand bytes words now Lower (at + 1)) ≡ whole
  small_at text now k at c begins lt is within prints grown so_far =
      turn_at expand most bytes words (slice_index (three_at bytes (place / 3)) k) text (c ∷ []) now Lower Lower
      at whole (z_in_word bytes place k at begins lt is) within so_far (prints.0 expand) grown (sym prints.1)

  three_read : (text now : List ℕ) (a b c : ℕ) → place % 3 ≡ 0 → place < 3 * words
      → length text + 3 ≤ most → ArePrintedInLower (three_at bytes (place / 3)) (a ∷ b ∷ c ∷ [])
      → now ≡ text ++ a ∷ b ∷ c ∷ []
      → front most (read_from expand bytes words text Lower place) ≡ whole
      → front most (read_from expand bytes words now Lower (place + 3)) ≡ whole
  three_read text now a b c begins lt room prints grown so_far =
      let one = text ++ a ∷ [] in
      let two = one ++ b ∷ [] in
      let three = two ++ c ∷ [] in
      let n1 : length one ≡ length text + 1 = length-append text (a ∷ []) in
      let n2 : length two ≡ length text + 2 = omega (arith, length-append one (b ∷ []), n1) in
      let n3 : length three ≡ length text + 3 = omega (arith, length-append two (c ∷ []), n2) in
      let is : now ≡ three = grown ∙ sym (append_assoc text (a ∷ []) (b ∷ c ∷ []))
      ∙ sym (append_assoc one (b ∷ []) (c ∷ [])) in
      let first = small_at text one 0 place a begins (omega arith) (omega arith) lt prints.0
      (sym (take_all most one (omega (arith, n1, room)))) so_far in
      let second = small_at one two 1 (place + 1) b begins (omega arith) (omega arith) (omega (arith, lt, begins))
      prints.1.0 (sym (take_all most two (omega (arith, n2, room)))) first in
      let third = small_at two three 2 (place + 1 + 1) c begins (omega arith) (omega arith)
      (omega (arith, lt, begins)) prints.1.1.0 (sym (take_all most three (omega (arith, n3, room)))) second in
      let end : place + 3 ≡ place + 1 + 1 + 1 = omega arith in
      ap (λ t. front most (read_from expand bytes words t Lower (place + 3))) is
      ∙ ap (λ p. front most (read_from expand bytes words three Lower p)) end ∙ third

  threes_read : (text now three : List ℕ) → place % 3 ≡ 0 → place < 3 * words → length text + 3 ≤ most
      → ArePrintedInLower (three_at bytes (place / 3)) three → now ≡ text ++ three
      → front most (read_from expand bytes words text Lower place) ≡ whole
      → front most (read_from expand bytes words now Lower (place + 3)) ≡ whole
  threes_read text now (a ∷ b ∷ c ∷ []) begins lt room prints grown so_far =
      three_read text now a b c begins lt room prints grown so_far
  threes_read text now [] begins lt room prints grown so_far = absurd prints
  threes_read text now (a ∷ []) begins lt room prints grown so_far = absurd prints.1
  threes_read text now (a ∷ b ∷ []) begins lt room prints grown so_far = absurd prints.1.1
  threes_read text now (a ∷ b ∷ c ∷ d ∷ cs) begins lt room prints grown so_far = absurd prints.1.1.1

  pub word_read : (text now characters three : List ℕ) (column : ℕ) (state : ReadingState)
      → IsReadAtOnce characters column state most text three → column ≡ place % 3
      → characters ≡ three_at bytes (place / 3) → place < 3 * words → now ≡ text ++ three
      → front most (read_from expand bytes words text state place) ≡ whole
      → front most (read_from expand bytes words now state (place + 3)) ≡ whole
  word_read text now characters three column state h at is lt grown so_far = rw h.lower
      (threes_read text now three (sym at ∙ h.begins) lt h.room
      (subst (λ zs. ArePrintedInLower zs three) is h.printed) grown
      (ap (λ s. front most (read_from expand bytes words text s place)) (sym h.lower) ∙ so_far))

-- ---- what a Z-character prints, by the code's answer

pub nothing : (expand : ℕ → Result (List ℕ) Cause) (read : Result (List ℕ) Cause) (output : Output)
    → output ≡ outputs.Nothing → Prints expand read (Ok output) → read ≡ Ok []
nothing expand read output is h = subst (λ o. Prints expand read (Ok o)) is h

pub one : (expand : ℕ → Result (List ℕ) Cause) (read : Result (List ℕ) Cause) (output : Output) (c : ℕ)
    → output ≡ outputs.Character c → Prints expand read (Ok output) → read ≡ Ok (c ∷ [])
one expand read output c is h = subst (λ o. Prints expand read (Ok o)) is h

pub named : (expand : ℕ → Result (List ℕ) Cause) (read : Result (List ℕ) Cause) (output : Output) (number : ℕ)
    → output ≡ outputs.Abbreviation number → Prints expand read (Ok output)
    → (read ≡ expand number) × (number < 96)
named expand read output number is h = subst (λ o. Prints expand read (Ok o)) is h

-- an abbreviation stands behind its first Z-character, and no shift is left behind its second

is_ok : (a b : Bool) (x y z : List ℕ) (f : Cause)
    → (if a then Ok x else (if b then Ok y else Ok z)) ≡ Err f → ⊥
is_ok true b x y z f e = cc
is_ok false true x y z f e = cc
is_ok false false x y z f e = cc

pub named_next : (state : ReadingState) (z : ℕ) → printed refused state z ≡ Err Abbreviation → next state z ≡ Lower
named_next EscapeHigh z e = absurd cc
named_next (EscapeLow high) z e = refl
named_next (Abbreviated row) z e = refl
named_next Lower z e = absurd (is_ok (eqb z 0) (ltb z 6) (32 ∷ []) [] (letter Lower z) Abbreviation e)
named_next Upper z e = absurd (is_ok (eqb z 0) (ltb z 6) (32 ∷ []) [] (letter Upper z) Abbreviation e)
named_next Punctuation z e = absurd (is_ok (eqb z 0) (ltb z 6) (32 ∷ []) [] (letter Punctuation z) Abbreviation e)

-- ---- the text at an address, by what its Z-characters print

joined : (most : ℕ) (old : List ℕ) (after : ℕ) (r : Result (List ℕ) Cause)
    → front_of most (after_text old (r >>= λ text. Ok (text, after)))
    ≡ ((r >>= λ more. Ok (take most (old ++ more))) >>= λ text. Ok (text, after))
joined most old after (Ok x) = refl
joined most old after (Err f) = refl

pub whole : (expand : ℕ → Result (List ℕ) Cause) (most : ℕ) (story bytes : List ℕ) (at after : ℕ) (zs old : List ℕ)
    → bytes ≡ drop at story → unpacked_text at bytes ≡ Ok (zs, after)
    → front_of most (after_text old (read_with expand story at))
    ≡ (read_on expand most old zs >>= λ text. Ok (text, after))
whole expand most story bytes at after zs old from found =
    ap (λ r. front_of most (after_text old (r >>= λ x. reads expand Lower x.0 >>= λ text. Ok (text, x.1))))
    (ap (unpacked_text at) (sym from) ∙ found)
    ∙ joined most old after (reads expand Lower zs)

pub fails_whole : (expand : ℕ → Result (List ℕ) Cause) (most : ℕ) (fault : TextFault) (story bytes : List ℕ)
    (at after : ℕ) (zs old : List ℕ) → bytes ≡ drop at story → unpacked_text at bytes ≡ Ok (zs, after)
    → FailsText fault (read_on expand most old zs)
    → FailsText fault (front_of most (after_text old (read_with expand story at)))
fails_whole expand most fault story bytes at after zs old from found h =
    subst (FailsText fault) (sym (whole expand most story bytes at after zs old from found))
    (fails_bind fault (read_on expand most old zs) (λ text. Ok (text, after)) h)
