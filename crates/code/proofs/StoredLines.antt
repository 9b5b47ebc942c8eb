-- A line that the machine reads, in the memory of a story that runs.
use Rattle.std.proofs.Common.{◌≡◌, ◌≢◌, ℕ, ◌+◌, ◌*◌, ◌%◌, ◌<◌, ◌≤◌, List, [], ◌∷◌, length, set, slice_index, true, sym}
use Rattle.std.proofs.Common.{ap, ◌∙◌, subst, arith}
use Rattle.std.specs.Prelude.{map}
use Rattle.std.proofs.lemmas.List.{get_or-set_other}
use Rattle.std.proofs.Math.Nat.{mod-eq_of_lt}
use Rattle.zcore.specs.Dictionary.{entry_of}
use Rattle.zcore.specs.Header.{defaults_of, dictionary_of, static_base_of}
use Rattle.meaning.specs.Objects.{Objects}
use Rattle.zcore.specs.Parsing.{separators_of}
use Rattle.zcore.specs.Parts.{is_text_buffer, is_parse_buffer}
use Rattle.zcore.specs.Turn.{with_bytes, with_letters, letters_for}
use Rattle.zcore.specs.Turn as turn
use Rattle.tables.specs.KeyNumbers.{key_number}
use Rattle.meaning.specs.Resolved.{ProgramOf}
use Rattle.meaning.specs.Places.{number_in}
use Rattle.meaning.specs.World.{array_at}
use Rattle.meaning.specs.Reading.{holds_letters, holds_words, words_for, words_bytes, with_line}
use Rattle.code_drafts.specs.Addresses.{Addresses}
use Rattle.code.specs.HeldProgram.{offset_in, HoldsProgram}
use Rattle.code.proofs.Flat.{length_bytes, sizes_same}
use Rattle.code.proofs.Regions.{keeps_wider}
use Rattle.std.specs.List.{concat}
use Rattle.code.proofs.Play.{Stored}
use Rattle.code.proofs.StoredEntries.{stored_other}
use Rattle.code.proofs.Dictionaries.{entry_word, entry_same, separators_same}
use Rattle.code.proofs.Alike.{AreBuffers, read_alike, text_taken, parse_taken}

-- a line leaves the sizes of arrays
pub line_sizes : (number : ℕ → ℕ) (arrays : List (List ℕ)) (t p : ℕ) (line : List ℕ) → p ≢ t
    → map length (with_line number t p line arrays) ≡ map length arrays
line_sizes number arrays t p line apart =
    let text = array_at arrays t in
    let parse = array_at arrays p in
    let letters = letters_for text 0 line in
    let new = with_letters text 0 letters in
    let next = set arrays t new in
    let bytes = words_bytes number (words_for parse letters) in
    let same : array_at next p ≡ parse = get_or-set_other arrays t p new [] apart in
    sizes_same next p (with_bytes parse 1 bytes) (length_bytes parse 1 bytes ∙ ap length (sym same))
    ∙ sizes_same arrays t new (length_bytes text 1 (length letters ∷ letters))

module _ (story : List ℕ) (a : Addresses) (p : ProgramOf) (holds : HoldsProgram story a p) (globals : List ℕ)
    (arrays : List (List ℕ)) (objects : Objects) (memory : List ℕ)
    (stored : Stored story a p globals arrays objects memory)
    (few : length globals ≤ 232) (t q : ℕ) (text : t < length arrays) (parse : q < length arrays) (apart : q ≢ t)
    (letters : holds_letters (array_at arrays t) ≡ true) (words : holds_words (array_at arrays q) ≡ true) where
  abbrev base : ℕ
  base = static_base_of story

  abbrev first : ℕ
  first = stored.regions.first

  static_same : static_base_of memory ≡ base
  static_same =
      ap (λ x. x * 256 + slice_index memory 15) (stored.header 14 (omega arith))
      ∙ ap (λ x. slice_index story 14 * 256 + x) (stored.header 15 (omega arith))

  defaults_same : defaults_of memory ≡ defaults_of story
  defaults_same =
      ap (λ x. x * 256 + slice_index memory 11) (stored.header 10 (omega arith))
      ∙ ap (λ x. slice_index story 10 * 256 + x) (stored.header 11 (omega arith))

  dictionary_same : dictionary_of memory ≡ dictionary_of story
  dictionary_same =
      ap (λ x. x * 256 + slice_index memory 9) (stored.header 8 (omega arith))
      ∙ ap (λ x. slice_index story 8 * 256 + x) (stored.header 9 (omega arith))

  buffers : AreBuffers (number_in p) memory first arrays t q
  buffers = record {
    stands = stored.regions.stands;
    behind_header = omega (arith, stored.regions.above, holds.globals_above);
    dynamic = omega (arith, stored.regions.below, static_same, defaults_same, stored.has.entries.below);
    text = text;
    parse = parse;
    apart = apart;
    letters = letters;
    words = words;
    separated = ap (separators_of memory) dictionary_same
        ∙ separators_same base story memory stored.kept (dictionary_of story) holds.dictionary_above
        ∙ holds.keys.separators;
    numbers = λ key. ap (λ d. entry_of memory d key) dictionary_same
        ∙ entry_same base story memory stored.kept (dictionary_of story) key holds.dictionary_above
        holds.keys.dictionary
        ∙ sym (mod-eq_of_lt (entry_word story (dictionary_of story) key holds.keys.dictionary))
        ∙ ap (λ (n : ℕ). n % 65536)
        (holds.keys.numbers key ∙ ap (λ d. key_number d p.keys key) holds.dictionary_there);
  }

  abbrev text_place : ℕ
  text_place = slice_index a.arrays t

  abbrev parse_place : ℕ
  parse_place = slice_index a.arrays q

  pub text_passes : slice_index memory (text_place + 1) ≡ 0 → is_text_buffer memory text_place ≡ true
  text_passes empty =
      let e = stored.regions.places t text in
      ap (is_text_buffer memory) e
      ∙ text_taken (number_in p) memory first arrays t q buffers (ap (λ n. slice_index memory (n + 1)) (sym e) ∙ empty)

  pub parse_passes : is_parse_buffer memory parse_place ≡ true
  parse_passes = ap (is_parse_buffer memory) (stored.regions.places q parse)
      ∙ parse_taken (number_in p) memory first arrays t q buffers

  abbrev pub memory_with_line : List ℕ → List ℕ
  memory_with_line line = turn.with_line memory text_place parse_place (letters_for memory text_place line)

  pub stored_line : (line : List ℕ)
      → Stored story a p globals (with_line (number_in p) t q line arrays) objects (memory_with_line line)
  stored_line line =
      let alike = read_alike (number_in p) memory first arrays t q buffers line in
      let there = turn.with_line memory (first + offset_in arrays t) (first + offset_in arrays q)
      (letters_for memory (first + offset_in arrays t) line) in
      let is : memory_with_line line ≡ there =
      ap (λ x. turn.with_line memory x parse_place (letters_for memory x line)) (stored.regions.places t text)
      ∙ ap (λ y. turn.with_line memory (first + offset_in arrays t) y
      (letters_for memory (first + offset_in arrays t) line)) (stored.regions.places q parse) in
      subst (Stored story a p globals (with_line (number_in p) t q line arrays) objects) (sym is)
      (stored_other story a p globals arrays (with_line (number_in p) t q line arrays) objects memory there stored
      (keeps_wider first (first + length (concat arrays)) (defaults_of story) memory there stored.regions.below
      alike.kept) alike.stands
      (line_sizes (number_in p) arrays t q line apart) holds.globals_above few)
