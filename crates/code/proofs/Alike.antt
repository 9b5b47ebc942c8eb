-- The machine reads a line into the region of arrays as `read` does into arrays.
use Rattle.std.proofs.Common.{◌≡◌, ◌==◌, ℕ, ◌+◌, ◌*◌, ◌/◌, ◌%◌, ◌<◌, ◌≤◌, true, false, List, [], ◌∷◌, ◌++◌, length}
use Rattle.std.proofs.Common.{take, set, slice_index, refl, ap, sym, ◌∙◌, subst, arith}
use Rattle.std.specs.Prelude.{nat_le, map, ◌≢◌}
use Rattle.std.specs.List.{concat, flat_map}
use Rattle.std.proofs.lemmas.Bool.{and_parts, and_from, or_right, leb-true, le-leb, eq-eqb, ne_eqb}
use Rattle.std.proofs.lemmas.List.{length-map, length-take, length-set, get_or-set_other, get_or-set_same, set-set}
use Rattle.zcore.specs.Cutting.{Word, words_of}
use Rattle.zcore.specs.Dictionary.{number_of_key, entry_of}
use Rattle.zcore.specs.Header.{dictionary_of, static_base_of}
use Rattle.zcore.specs.Parsing.{separators_of, first_words, entry_for, parsed}
use Rattle.zcore.specs.Parsing as machine
use Rattle.zcore.specs.Parts.{is_text_buffer, is_parse_buffer}
use Rattle.ztext.specs.Text.{lower_case, key_of}
use Rattle.zcore.specs.Turn.{with_bytes, with_letters, letters_for}
use Rattle.zcore.specs.Turn as turn
use Rattle.meaning.specs.World.{array_at}
use Rattle.meaning.specs.Reading.{holds_letters, holds_words, separators, words_for, word_bytes, words_bytes, with_line}
use Rattle.code.specs.HeldProgram.{offset_in}
use Rattle.code.proofs.Flat.{array_within, byte_at, bytes_set, length_bytes, offset_same}
use Rattle.code.proofs.Regions.{stands_bytes, KeepsOutside, keeps_then, keeps_bytes, StandsIn}

-- One array

pub first_byte_is : (memory : List ℕ) (base : ℕ) (arrays : List (List ℕ)) (k : ℕ) → StandsIn memory base (concat arrays)
    → k < length arrays → 0 < length (array_at arrays k)
    → slice_index memory (base + offset_in arrays k) ≡ slice_index (array_at arrays k) 0
first_byte_is memory base arrays k s lt some =
    let z : base + offset_in arrays k ≡ base + (offset_in arrays k + 0) = omega arith in
    let within = array_within arrays k lt in
    ap (slice_index memory) z ∙ s.each (offset_in arrays k + 0) (omega (arith, within, some))
    ∙ byte_at arrays k 0 lt some

-- bytes that are written to it from byte 1 on
record WritesArray (memory : List ℕ) (base to : ℕ) (arrays : List (List ℕ)) (k : ℕ) (bytes : List ℕ) : Type 0 where
  stands : StandsIn (with_bytes memory (base + offset_in arrays k + 1) bytes) base
      (concat (set arrays k (with_bytes (array_at arrays k) 1 bytes)))
  kept : KeepsOutside base to memory (with_bytes memory (base + offset_in arrays k + 1) bytes)
  size : length (concat (set arrays k (with_bytes (array_at arrays k) 1 bytes))) ≡ length (concat arrays)

writes_array : (memory : List ℕ) (base to : ℕ) (arrays : List (List ℕ)) (k : ℕ) (bytes : List ℕ)
    → StandsIn memory base (concat arrays) → base + length (concat arrays) ≤ to → k < length arrays
    → 1 + length bytes ≤ length (array_at arrays k) → WritesArray memory base to arrays k bytes
writes_array memory base to arrays k bytes s below lt room =
    let z : base + (offset_in arrays k + 1) ≡ base + offset_in arrays k + 1 = omega arith in
    let within = array_within arrays k lt in
    let fits : offset_in arrays k + 1 + length bytes ≤ length (concat arrays) = omega (arith, within, room) in
    let e = bytes_set arrays k 1 bytes lt room in
    record {
      stands = subst (λ n. StandsIn (with_bytes memory n bytes) base
          (concat (set arrays k (with_bytes (array_at arrays k) 1 bytes)))) z
          (subst (StandsIn (with_bytes memory (base + (offset_in arrays k + 1)) bytes) base) e
          (stands_bytes memory base (concat arrays) (offset_in arrays k + 1) bytes s fits));
      kept = keeps_bytes base to (base + offset_in arrays k + 1) bytes memory (omega arith)
          (omega (arith, fits, below));
      size = ap length (sym e) ∙ length_bytes (concat arrays) (offset_in arrays k + 1) bytes;
    }

-- Words

bytes_same : (number : ℕ → ℕ) (memory : List ℕ) (dictionary : ℕ) (words : List Word)
    → ((key : ℕ) → entry_of memory dictionary key ≡ number key)
    → flat_map (machine.word_bytes memory dictionary) words ≡ flat_map (word_bytes number) words
unfolding entry_for
bytes_same number memory dictionary [] h = refl
bytes_same number memory dictionary (w ∷ ws) h =
    ap (λ n. ((n / 256) ∷ (n % 256) ∷ length w.bytes ∷ ((w.place + 2) % 256) ∷ [])
    ++ flat_map (machine.word_bytes memory dictionary) ws) (h (number_of_key (key_of w.bytes)))
    ∙ ap (λ bs. word_bytes number w ++ bs) (bytes_same number memory dictionary ws h)

length_words : (number : ℕ → ℕ) (words : List Word) → length (flat_map (word_bytes number) words) ≡ 4 * length words
length_words number [] = refl
length_words number (w ∷ ws) = omega (arith, length_words number ws)

few_words : (parse letters : List ℕ) → length (words_for parse letters) ≤ slice_index parse 0
unfolding words_for
few_words parse letters = omega (arith, length-take (slice_index parse 0) (words_of separators letters))

few_letters : (text line : List ℕ) → length (letters_for text 0 line) ≤ slice_index text 0
few_letters text line = omega (
  arith,
  length-map (take (slice_index text 0) line) lower_case,
  length-take (slice_index text 0) line,
)

-- two arrays in memory, and a dictionary by which the story numbers keys
pub record AreBuffers (number : ℕ → ℕ) (memory : List ℕ) (base : ℕ) (arrays : List (List ℕ)) (t p : ℕ) : Type 0 where
  pub stands : StandsIn memory base (concat arrays)
  pub behind_header : 64 ≤ base
  pub dynamic : base + length (concat arrays) ≤ static_base_of memory
  pub text : t < length arrays
  pub parse : p < length arrays
  pub apart : p ≢ t
  pub letters : holds_letters (array_at arrays t) ≡ true
  pub words : holds_words (array_at arrays p) ≡ true
  pub separated : separators_of memory (dictionary_of memory) ≡ separators
  pub numbers : (key : ℕ) → entry_of memory (dictionary_of memory) key ≡ number key

-- the arrays in memory with a line
pub record ReadsAlike (number : ℕ → ℕ) (memory : List ℕ) (base : ℕ) (arrays : List (List ℕ)) (t p : ℕ) (line : List ℕ)
    : Type 0
  where
    pub stands : StandsIn
        (turn.with_line memory (base + offset_in arrays t) (base + offset_in arrays p)
        (letters_for memory (base + offset_in arrays t) line)) base (concat (with_line number t p line arrays))
    pub kept : KeepsOutside base (base + length (concat arrays)) memory
        (turn.with_line memory (base + offset_in arrays t) (base + offset_in arrays p)
        (letters_for memory (base + offset_in arrays t) line))

module _ (number : ℕ → ℕ) (memory : List ℕ) (base : ℕ) (arrays : List (List ℕ)) (t p : ℕ)
    (b : AreBuffers number memory base arrays t p) where
  text_some : 1 ≤ slice_index (array_at arrays t) 0
  text_some = leb-true _ _ (and_parts (nat_le 1 (slice_index (array_at arrays t) 0)) _ b.letters).0

  text_room : slice_index (array_at arrays t) 0 + 2 ≤ length (array_at arrays t)
  text_room = leb-true _ _ (and_parts (nat_le 1 (slice_index (array_at arrays t) 0)) _ b.letters).1

  parse_some : 1 ≤ slice_index (array_at arrays p) 0
  parse_some = leb-true _ _ (and_parts (nat_le 1 (slice_index (array_at arrays p) 0)) _ b.words).0

  parse_room : 4 * slice_index (array_at arrays p) 0 + 2 ≤ length (array_at arrays p)
  parse_room = leb-true _ _ (and_parts (nat_le 1 (slice_index (array_at arrays p) 0)) _ b.words).1

  first_text : slice_index memory (base + offset_in arrays t) ≡ slice_index (array_at arrays t) 0
  first_text = first_byte_is memory base arrays t b.stands b.text (omega (arith, text_room))

  first_parse : slice_index memory (base + offset_in arrays p) ≡ slice_index (array_at arrays p) 0
  first_parse = first_byte_is memory base arrays p b.stands b.parse (omega (arith, parse_room))

  words_same : (letters : List ℕ)
      → parsed memory (dictionary_of memory)
      (first_words memory (dictionary_of memory) letters (slice_index memory (base + offset_in arrays p)))
      ≡ words_bytes number (words_for (array_at arrays p) letters)
  unfolding first_words words_for
  words_same letters =
      let count = slice_index (array_at arrays p) 0 in
      let dictionary = dictionary_of memory in
      let words : take (slice_index memory (base + offset_in arrays p)) (words_of (separators_of memory dictionary)
      letters) ≡ take count (words_of separators letters) =
      ap (λ n. take n (words_of (separators_of memory dictionary) letters)) first_parse
      ∙ ap (λ s. take count (words_of s letters)) b.separated in
      ap (parsed memory dictionary) words
      ∙ ap (λ bs. length (take count (words_of separators letters)) ∷ bs)
      (bytes_same number memory dictionary (take count (words_of separators letters)) b.numbers)

  pub read_alike : (line : List ℕ) → ReadsAlike number memory base arrays t p line
  read_alike line =
      let text = array_at arrays t in
      let parse = array_at arrays p in
      let to = base + length (concat arrays) in
      let letters = letters_for text 0 line in
      let bytes = words_bytes number (words_for parse letters) in
      let first = writes_array memory base to arrays t (length letters ∷ letters) b.stands (omega arith) b.text
      (omega (arith, few_letters text line, text_room)) in
      let after = with_bytes text 1 (length letters ∷ letters) in
      let next = set arrays t after in
      let same : array_at next p ≡ parse = get_or-set_other arrays t p after [] b.apart in
      let place : offset_in next p ≡ offset_in arrays p =
      offset_same arrays t p after (length_bytes text 1 (length letters ∷ letters)) in
      let middle = with_letters memory (base + offset_in arrays t) letters in
      let second = writes_array middle base to next p bytes first.stands (omega (arith, first.size))
      (omega (arith, b.parse, length-set arrays t after))
      (omega (
        arith,
        ap length same,
        length_words number (words_for parse letters),
        few_words parse letters,
        parse_room,
      )) in
      let none : (base + offset_in arrays p == 0) ≡ false = ne_eqb _ 0 (λ e. omega (arith, e, b.behind_header)) in
      let line_is : turn.with_line memory (base + offset_in arrays t) (base + offset_in arrays p)
      (letters_for memory (base + offset_in arrays t) line) ≡ with_bytes middle (base + offset_in next p + 1) bytes =
      ap (λ n. turn.with_line memory (base + offset_in arrays t) (base + offset_in arrays p)
      (map lower_case (take n line))) first_text
      ∙ rw none (ap (with_bytes middle (base + offset_in arrays p + 1)) (words_same letters))
      ∙ ap (λ n. with_bytes middle (base + n + 1) bytes) (sym place) in
      record {
        stands = subst (λ m. StandsIn m base (concat (with_line number t p line arrays))) (sym line_is)
            (subst (λ x. StandsIn (with_bytes middle (base + offset_in next p + 1) bytes) base
            (concat (set next p (with_bytes x 1 bytes)))) same second.stands);
        kept = subst (KeepsOutside base to memory) (sym line_is)
            (keeps_then base to memory middle _ first.kept second.kept);
      }

  -- the machine takes both
  pub text_taken : slice_index memory (base + offset_in arrays t + 1) ≡ 0
      → is_text_buffer memory (base + offset_in arrays t) ≡ true
  text_taken empty =
      let at = base + offset_in arrays t in
      let within = array_within arrays t b.text in
      and_from _ _ (and_from _ _ (and_from _ _ (le-leb 64 at (omega (arith, b.behind_header)))
      (le-leb _ _ (omega (arith, first_text, within, text_room, b.dynamic))))
      (le-leb _ _ (omega (arith, first_text, text_some)))) (eq-eqb _ 0 empty)

  pub parse_taken : is_parse_buffer memory (base + offset_in arrays p) ≡ true
  parse_taken =
      let at = base + offset_in arrays p in
      let within = array_within arrays p b.parse in
      or_right _ _ (and_from _ _ (and_from _ _ (le-leb 64 at (omega (arith, b.behind_header)))
      (le-leb _ _ (omega (arith, first_parse, within, parse_room, b.dynamic))))
      (le-leb _ _ (omega (arith, first_parse, parse_some))))

-- Byte 1 of the text array is cleared, which no line tells

module _ (number : ℕ → ℕ) (arrays : List (List ℕ)) (t p : ℕ) (text : t < length arrays) (apart : p ≢ t) where
  abbrev old : List ℕ
  old = array_at arrays t

  abbrev pub cleared : List (List ℕ)
  cleared = set arrays t (set old 1 0)

  here : array_at cleared t ≡ set old 1 0
  here = get_or-set_same arrays t (set old 1 0) [] text

  there : array_at cleared p ≡ array_at arrays p
  there = get_or-set_other arrays t p (set old 1 0) [] apart

  first_same : slice_index (set old 1 0) 0 ≡ slice_index old 0
  first_same = get_or-set_other old 1 0 0 0 (λ e. omega (arith, e))

  pub letters_cleared : holds_letters old ≡ true → holds_letters (array_at cleared t) ≡ true
  letters_cleared h = ap holds_letters here ∙ rw (first_same, length-set old 1 0) h

  pub words_cleared : holds_words (array_at arrays p) ≡ true → holds_words (array_at cleared p) ≡ true
  words_cleared h = ap holds_words there ∙ h

  pub line_cleared : (line : List ℕ) → with_line number t p line cleared ≡ with_line number t p line arrays
  line_cleared line =
      let parse = array_at arrays p in
      let letters = letters_for old 0 line in
      let bytes = words_bytes number (words_for parse letters) in
      let new = set old 1 0 in
      ap (λ x. set (set cleared t (with_letters x 0 (letters_for x 0 line))) p
      (with_bytes (array_at cleared p) 1 (words_bytes number (words_for (array_at cleared p) (letters_for x 0 line)))))
      here
      ∙ ap (λ y. set (set cleared t (with_letters new 0 (letters_for new 0 line))) p
      (with_bytes y 1 (words_bytes number (words_for y (letters_for new 0 line))))) there
      ∙ ap (λ (n : ℕ). set (set cleared t (with_letters new 0 (map lower_case (take n line)))) p
      (with_bytes parse 1 (words_bytes number (words_for parse (map lower_case (take n line)))))) first_same
      ∙ ap (λ x. set (set cleared t (with_bytes x 2 letters)) p (with_bytes parse 1 bytes))
      (set-set old 1 0 (length letters))
      ∙ ap (λ xs. set xs p (with_bytes parse 1 bytes)) (set-set arrays t new (with_letters old 0 letters))
