-- The words of a text as slots of a parse buffer.
use Rattle.std.proofs.Common.{◌≡◌, ◌≢◌, ◌==◌, true, nat_le, ℕ, suc, ◌+◌, ◌-◌, ◌*◌, ◌<◌, ◌≤◌, List, [], ◌∷◌, ◌++◌, length, take, ap, sym, ◌∙◌}
use Rattle.std.proofs.Common.{append_assoc, arith, drop, drop-cons, slice_index}
use Rattle.std.specs.Prelude.{slice_range}
use Rattle.std.proofs.lemmas.Bool.{eq-eqb, le-leb}
use Rattle.std.proofs.lemmas.List.{append-nil}
use Rattle.zcore.specs.Cutting.{Word, words_of}
use Rattle.zcore.specs.Parsing.{separators_of, first_words}
use Rattle.zcore_standard.specs.Words.{entry_with_form, slot_bytes, slots_bytes}

module _ (memory : List ℕ) (dictionary : ℕ) (letters : List ℕ) (most : ℕ) where
  -- the words so far and those of the words that are left for which there is room are as many as all
  abbrev pub Counts : ℕ → List Word → Type 0
  Counts count words =
      count + length (take (most - count) words) ≡ length (first_words memory dictionary letters most)

  pub count_begins : (words : List Word) → words ≡ words_of (separators_of memory dictionary) letters → Counts 0 words
  unfolding first_words
  count_begins words e =
      let z : most - 0 ≡ most = omega arith in
      let n : (k : ℕ) → 0 + k ≡ k = λ k. omega arith in
      n (length (take (most - 0) words)) ∙ ap (λ k. length (take k words)) z ∙ ap (λ ws. length (take most ws)) e

  pub count_goes_on : (count : ℕ) (words rest : List Word) (w : Word) → Counts count words → count < most
      → words ≡ w ∷ rest → Counts (count + 1) rest
  count_goes_on count words rest w h lt e =
      let left : most - count ≡ suc (most - (count + 1)) = omega (arith, lt) in
      let those : take (most - count) words ≡ w ∷ take (most - (count + 1)) rest = ap (λ k. take k words) left
      ∙ ap (take (suc (most - (count + 1)))) e in
      omega (arith, ap length those, h)

  pub count_ends : (count : ℕ) (words : List Word) → Counts count words → take (most - count) words ≡ []
      → count ≡ length (first_words memory dictionary letters most)
  count_ends count words h none = omega (arith, ap length none, h)

module _ (alphabets : List ℕ) (memory : List ℕ) (dictionary flag : ℕ) (letters : List ℕ) (most at : ℕ) where
  abbrev slots_from : ℕ → List Word → List ℕ
  slots_from count words = slots_bytes alphabets memory dictionary flag (at + 4 * count) (take (most - count) words)

  -- the slots so far and those of the words that are left are those of all
  abbrev pub Parses : List ℕ → ℕ → List Word → Type 0
  Parses bytes count words =
      (take (4 * count) bytes ++ slots_from count words
      ≡ slots_bytes alphabets memory dictionary flag at (first_words memory dictionary letters most))
      × Counts memory dictionary letters most count words

  pub parse_begins : (bytes : List ℕ) (words : List Word) → words ≡ words_of (separators_of memory dictionary) letters
      → Parses bytes 0 words
  unfolding first_words
  parse_begins bytes words e =
      let z : most - 0 ≡ most = omega arith in
      let here : at + 4 * 0 ≡ at = omega arith in (
        ap (λ a. slots_bytes alphabets memory dictionary flag a (take (most - 0) words)) here
            ∙ ap (λ k. slots_bytes alphabets memory dictionary flag at (take k words)) z
            ∙ ap (λ ws. slots_bytes alphabets memory dictionary flag at (take most ws)) e,
        count_begins memory dictionary letters most words e,
      )

  pub parse_goes_on : (bytes new : List ℕ) (count : ℕ) (words rest : List Word) (w : Word) → Parses bytes count words
      → count < most → words ≡ w ∷ rest
      → take (4 * count + 4) new ≡ take (4 * count) bytes ++ slot_bytes alphabets memory dictionary flag (at + 4 * count) w
      → Parses new (count + 1) rest
  parse_goes_on bytes new count words rest w h lt e written =
      let place : 4 * (count + 1) ≡ 4 * count + 4 = omega arith in
      let next : at + 4 * (count + 1) ≡ at + 4 * count + 4 = omega arith in
      let left : most - count ≡ suc (most - (count + 1)) = omega (arith, lt) in
      let more : List Word = take (most - (count + 1)) rest in
      let those : take (most - count) words ≡ w ∷ more = ap (λ k. take k words) left
      ∙ ap (take (suc (most - (count + 1)))) e in (
        ap (λ k. take k new ++ slots_bytes alphabets memory dictionary flag (at + 4 * (count + 1)) more) place
            ∙ ap (λ a. take (4 * count + 4) new ++ slots_bytes alphabets memory dictionary flag a more) next
            ∙ ap (λ l. l ++ slots_bytes alphabets memory dictionary flag (at + 4 * count + 4) more) written
            ∙ append_assoc (take (4 * count) bytes) (slot_bytes alphabets memory dictionary flag (at + 4 * count) w)
            (slots_bytes alphabets memory dictionary flag (at + 4 * count + 4) more)
            ∙ ap (λ ws. take (4 * count) bytes ++ slots_bytes alphabets memory dictionary flag (at + 4 * count) ws) (sym those)
            ∙ h.0,
        count_goes_on memory dictionary letters most count words rest w h.1 lt e,
      )

  -- there is no room for more, or no word is left
  pub parse_ends : (bytes : List ℕ) (count : ℕ) (words : List Word) → Parses bytes count words
      → take (most - count) words ≡ [] → (count ≡ length (first_words memory dictionary letters most))
      × (take (4 * count) bytes ≡ slots_bytes alphabets memory dictionary flag at (first_words memory dictionary letters most))
  parse_ends bytes count words h none = (
    count_ends memory dictionary letters most count words h.1 none,
    sym (append-nil (take (4 * count) bytes))
        ∙ ap (λ ws. take (4 * count) bytes ++ slots_bytes alphabets memory dictionary flag (at + 4 * count) ws) (sym none) ∙ h.0,
  )

-- four bytes of memory
four_read : (memory : List ℕ) (at : ℕ) → at + 4 ≤ length memory → slice_range memory at (at + 4)
    ≡ slice_index memory at ∷ slice_index memory (at + 1) ∷ slice_index memory (at + 2) ∷ slice_index memory (at + 3)
    ∷ []
four_read memory at within =
    let four : at + 4 - at ≡ 4 = omega arith in
    let next : suc at ≡ at + 1 = omega arith in
    let second : suc (at + 1) ≡ at + 2 = omega arith in
    let third : suc (at + 2) ≡ at + 3 = omega arith in
    ap (λ n. take n (drop at memory)) four
    ∙ ap (take 4) (drop-cons memory at 0 (omega (arith, within)))
    ∙ ap (λ i. slice_index memory at ∷ take 3 (drop i memory)) next
    ∙ ap (λ l. slice_index memory at ∷ take 3 l) (drop-cons memory (at + 1) 0 (omega (arith, within)))
    ∙ ap (λ i. slice_index memory at ∷ slice_index memory (at + 1) ∷ take 2 (drop i memory)) second
    ∙ ap (λ l. slice_index memory at ∷ slice_index memory (at + 1) ∷ take 2 l)
    (drop-cons memory (at + 2) 0 (omega (arith, within)))
    ∙ ap (λ i. slice_index memory at ∷ slice_index memory (at + 1) ∷ slice_index memory (at + 2)
    ∷ take 1 (drop i memory)) third
    ∙ ap (λ l. slice_index memory at ∷ slice_index memory (at + 1) ∷ slice_index memory (at + 2) ∷ take 1 l)
    (drop-cons memory (at + 3) 0 (omega (arith, within)))

-- a word is not found, and the flag leaves its slot
pub slot_left : (alphabets : List ℕ) (memory : List ℕ) (dictionary flag at entry : ℕ) (w : Word) → at + 4 ≤ length memory
    → entry ≡ entry_with_form alphabets memory dictionary w.bytes → entry ≡ 0 → flag ≢ 0
    → slice_index memory at ∷ slice_index memory (at + 1) ∷ slice_index memory (at + 2) ∷ slice_index memory (at + 3)
    ∷ [] ≡ slot_bytes alphabets memory dictionary flag at w
slot_left alphabets memory dictionary flag at entry w within is none set =
    let zero : (entry_with_form alphabets memory dictionary w.bytes == 0) ≡ true = eq-eqb _ 0 (sym is ∙ none) in
    let some : nat_le 1 flag ≡ true = le-leb 1 flag (omega (arith, set)) in
    rw (zero, some) (sym (four_read memory at within))
