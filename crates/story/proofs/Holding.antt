-- Stories hold their programs.
use Rattle.std.proofs.Common.{◌≡◌, ℕ, suc, ◌+◌, ◌*◌, ◌/◌, ◌<◌, ◌≤◌, List, [], ◌++◌, length, drop, sym, ap, ◌∙◌, subst}
use Rattle.std.proofs.Common.{arith}
use Rattle.std.specs.Prelude.{map, slice_index, slice_index_or}
use Rattle.std.specs.List.{All}
use Rattle.std.proofs.lemmas.List.{length-map, get_or-drop}
use Rattle.ztext.specs.Bytes.{word_at}
use Rattle.ztext.specs.Abbreviations.{abbreviation_at}
use Rattle.ztext.specs.Text.{Holds, encoded}
use Rattle.ztext.specs.Words.{packed}
use Rattle.zcore.specs.declared.header.Version.{Version}
use Rattle.zcore.specs.Header.{abbreviations_of, scale_of}
use Rattle.zcore.specs.Parts.{unpacked}
use Rattle.tables.specs.Dictionary.{ReadsKeys}
use Rattle.meaning.specs.Resolved.{ProgramOf}
use Rattle.meaning.specs.Accepted.{IsAccepted}
use Rattle.meaning.specs.Places.{arrays_place, start_place, routines_place, texts_place}
use Rattle.meaning.specs.Sizes.{greatest_routine_weight}
use Rattle.meaning.specs.Meaning.{routine_at}
use Rattle.meaning.specs.World.{words_of}
use Rattle.code_items.specs.Statements.{routine_items}
use Rattle.code.specs.TableLaws.{HoldsRows}
use Rattle.code.specs.Rows.{rows_of, rows_bytes}
use Rattle.code_drafts.specs.Addresses.{Addresses, number_of}
use Rattle.code.specs.Bytes.{code_size}
use Rattle.code.specs.HeldProgram.{HoldsProgram, HoldsAbbreviation, HoldsRoutine, HoldsText, fault_line, start_code}
use Rattle.code.specs.HeldProgram.{sizes_of}
use Rattle.code.specs.Sizes.{routine_size}
use Rattle.story_file.specs.Layout.{addresses_in, fault_texts, packed_addresses, parts_from, addresses_from}
use Rattle.story_file.specs.Layout.{low_bytes, routine_bytes, story_of, text_places}
use Rattle.zcore.specs.Layout.{greatest_word}
use Rattle.story_file.proofs.Parts.{HasPartAt, holds_first, parts_rise, parts_stand, addresses_count}
use Rattle.story_file.proofs.Lengths.{routine_length, sizes_are}
use Rattle.story_file.proofs.AbbreviationTables.{texts_above, texts_below}
use Rattle.story_file.proofs.Low.{global_stands, arrays_hold, objects_hold, high_stands, start_stands, place_stands}
use Rattle.story_file.proofs.Low.{abbreviation_stands}
use Rattle.story_file.proofs.ObjectTables.{rows_sized}
use Rattle.story.specs.Laws.{StoriesHold, IsShortRoutine}
use Rattle.story.proofs.Reading.{behind_header, says, header_read, laid_length, laid_out, laid_read, laid_keys}
use Rattle.story.proofs.Reading.{SaysInHeader}
use Rattle.story.proofs.PackedParts.{packed_is, scale_is, is_packed, size_at, routine_is, few_causes, text_of, parts_of}
use Rattle.story.proofs.PackedParts.{parts_count, routine_part, text_part, part_long, array_found}

-- Programs

abbrev addresses_at : Version → ProgramOf → List ℕ
addresses_at version p =
    addresses_from (scale_of version) (routines_place p) (map (routine_size (sizes_of p)) p.routines
    ++ map length fault_texts)

abbrev parts_in : Version → ProgramOf → List (List ℕ)
parts_in version p = parts_of (sizes_of p) (addresses_in (scale_of version) p) p.routines

abbrev packed_in : Version → ProgramOf → List ℕ
packed_in version p = packed_addresses (scale_of version) p

-- a part that stands in a story at its packed address
record Lies (at : ℕ) (version : Version) (story : List ℕ) (packed : ℕ) (part : List ℕ) : Type 0 where
  bytes : Holds story (unpacked story packed) part
  within : unpacked story packed + length part ≤ length story
  above : at ≤ unpacked story packed
  named : 0 < packed
  word : packed < 65536

module _ (version : Version) (p : ProgramOf) (story : List ℕ)
    (said : SaysInHeader version p story) (long : routines_place p ≤ length story)
    (short : length story ≤ 65535 * scale_of version)
    (high : drop (routines_place p) story ≡ parts_from (scale_of version) (routines_place p) (parts_in version p)) where
  sizes_same : map length (parts_in version p) ≡ map (routine_size (sizes_of p)) p.routines ++ map length fault_texts
  sizes_same = sizes_are (sizes_of p) (addresses_in (scale_of version) p) p.routines

  part_stands : (k : ℕ) → k < length (parts_in version p)
      → HasPartAt version story (routines_place p) (slice_index (addresses_at version p) k)
      (slice_index_or (parts_in version p) k [])
  part_stands k within =
      subst (λ sizes. HasPartAt version story (routines_place p)
      (slice_index (addresses_from (scale_of version) (routines_place p) sizes) k)
      (slice_index_or (parts_in version p) k []))
      sizes_same (parts_stand version story (routines_place p) (parts_in version p) long high k within)

  count_is : length (addresses_at version p) ≡ length (parts_in version p)
  count_is =
      addresses_count version (routines_place p) (map (routine_size (sizes_of p)) p.routines
      ++ map length fault_texts)
      ∙ ap length (sym sizes_same) ∙ length-map (parts_in version p) length

  unpacked_is : (k : ℕ) → k < length (parts_in version p)
      → unpacked story (slice_index (packed_in version p) k) ≡ slice_index (addresses_at version p) k
  unpacked_is k within =
      let stands = part_stands k within in
      let fits = is_packed version (slice_index (addresses_at version p) k) (length story) stands.multiple
      (omega (arith, stands.above)) (omega (arith, stands.within)) short in
      ap (λ n. n * slice_index (packed_in version p) k) (scale_is version story said.version_byte)
      ∙ ap (λ n. scale_of version * n)
      (packed_is version (addresses_at version p) k (omega (arith, within, count_is)))
      ∙ fits.back

  part_lies : (k : ℕ) → k < length (parts_in version p)
      → Lies (routines_place p) version story
      (slice_index (packed_in version p) k) (slice_index_or (parts_in version p) k [])
  part_lies k within =
      let stands = part_stands k within in
      let e : unpacked story (slice_index (packed_in version p) k) ≡ slice_index (addresses_at version p) k =
      unpacked_is k within in
      let f : slice_index (packed_in version p) k ≡ slice_index (addresses_at version p) k / scale_of version =
      packed_is version (addresses_at version p) k (omega (arith, within, count_is)) in
      let fits = is_packed version (slice_index (addresses_at version p) k) (length story) stands.multiple
      (omega (arith, stands.above)) (omega (arith, stands.within)) short in
      record {
        bytes = subst (λ at. Holds story at (slice_index_or (parts_in version p) k [])) (sym e) stands.bytes;
        within = omega (arith, stands.within, e);
        above = omega (arith, stands.above, e);
        named = subst (λ n. 0 < n) (sym f) fits.named;
        word = subst (λ n. n < 65536) (sym f) fits.word;
      }

  -- bytes of another part follow
  followed : (k : ℕ) → suc k < length (parts_in version p)
      → unpacked story (slice_index (packed_in version p) k) + length (slice_index_or (parts_in version p) k [])
      < length story
  followed k within =
      let here : k < length (parts_in version p) = omega (arith, within) in
      let next = part_stands (suc k) within in
      let rises : slice_index (addresses_at version p) k + slice_index (map length (parts_in version p)) k
      ≤ slice_index (addresses_at version p) (suc k) =
      subst (λ sizes. slice_index (addresses_from (scale_of version) (routines_place p) sizes) k
      + slice_index (map length (parts_in version p)) k
      ≤ slice_index (addresses_from (scale_of version) (routines_place p) sizes) (suc k))
      sizes_same (parts_rise version (routines_place p) (map length (parts_in version p)) k
      (omega (arith, within, length-map (parts_in version p) length))) in
      let size : slice_index (map length (parts_in version p)) k ≡ length (slice_index_or (parts_in version p) k []) =
      size_at (parts_in version p) k here in
      let size_next : slice_index (map length (parts_in version p)) (suc k)
      ≡ length (slice_index_or (parts_in version p) (suc k) []) = size_at (parts_in version p) (suc k) within in
      let full : 0 < slice_index (map length (parts_in version p)) (suc k) =
      part_long (sizes_of p) (addresses_in (scale_of version) p) p.routines (suc k) within in
      omega (arith, next.within, rises, size, size_next, full, unpacked_is k here)

  text_lies : (n : ℕ) (text : List ℕ) → n < 8 → slice_index_or fault_texts n [] ≡ encoded text
      → HoldsText story (slice_index (packed_in version p) (length p.routines + n)) text
  text_lies n text few e =
      let count : length (parts_in version p) ≡ length p.routines + 8 =
      parts_count (sizes_of p) (addresses_in (scale_of version) p) p.routines in
      let lies = part_lies (length p.routines + n) (omega (arith, few, count)) in
      let part : slice_index_or (parts_in version p) (length p.routines + n) [] ≡ encoded text =
      text_part (sizes_of p) (addresses_in (scale_of version) p) p.routines n ∙ e in
      record {
        bytes = subst (Holds story (unpacked story (slice_index (packed_in version p) (length p.routines + n)))) part
            lies.bytes;
        word = lies.word;
        above = omega (arith, lies.above, said.static_base);
      }

  routine_lies : (k : ℕ) → k < length p.routines
      → code_size (sizes_of p) (routine_items (routine_at p.routines k)) ≤ greatest_routine_weight
      → HoldsRoutine story (sizes_of p) (addresses_in (scale_of version) p) (slice_index (packed_in version p) k)
      (routine_at p.routines k)
  routine_lies k within small =
      let count : length (parts_in version p) ≡ length p.routines + 8 =
      parts_count (sizes_of p) (addresses_in (scale_of version) p) p.routines in
      let lies = part_lies k (omega (arith, within, count)) in
      let part : slice_index_or (parts_in version p) k []
      ≡ routine_bytes (sizes_of p) (addresses_in (scale_of version) p)
      (routine_at p.routines k) =
      routine_part (sizes_of p) (addresses_in (scale_of version) p) p.routines k within in
      let size : length (slice_index_or (parts_in version p) k [])
      ≡ routine_size (sizes_of p) (routine_at p.routines k) =
      ap length part ∙ routine_length (sizes_of p) (addresses_in (scale_of version) p) (routine_at p.routines k) in
      record {
        bytes = subst (Holds story (unpacked story (slice_index (packed_in version p) k))) part lies.bytes;
        followed = omega (arith, followed k (omega (arith, within, count)), size);
        above = omega (arith, lies.above, said.static_base);
        named = lies.named;
        word = lies.word;
        short = small;
      }

module _ (version : Version) (p : ProgramOf) (accepted : IsAccepted p) where
  abbrev a : Addresses
  a = addresses_in (scale_of version) p

  abbrev main : ℕ
  main = slice_index (packed_in version p) p.main

  abbrev high : List ℕ
  high = parts_from (scale_of version) (routines_place p) (parts_in version p)

  abbrev story : List ℕ
  story = laid_out version p main (parts_in version p)

  body_stands : drop 64 story ≡ low_bytes p main ++ high
  body_stands = behind_header version p (low_bytes p main ++ high)

  words : length p.defaults ≡ 63
  words = accepted.defaults.0

  said : SaysInHeader version p story
  said = says version p (low_bytes p main ++ high)

  long : routines_place p ≤ length story
  long = omega (arith, laid_length version p main (parts_in version p) words)

  -- the object table, between the arrays and static memory
  objects : HoldsRows story p.objects p.defaults
  objects = record {
    stand = subst (λ at. Holds story at (rows_bytes (rows_of p.objects) p.defaults at)) (sym said.defaults)
        (objects_hold story p high main words body_stands);
    above = omega (arith, said.defaults);
    below = omega (arith, said.defaults, said.static_base, rows_sized p.objects);
  }

  abbreviation_lies : routines_place p ≤ greatest_word → (n : ℕ) → n < length p.abbreviations
      → HoldsAbbreviation story n (abbreviation_at p.abbreviations n)
  abbreviation_lies placed n within =
      let place : ℕ = slice_index (text_places (texts_place p) p.abbreviations) n in
      let named : 2 * word_at story (abbreviations_of story + 2 * n) ≡ place =
      ap (λ at. 2 * word_at story (at + 2 * n)) said.abbreviations
      ∙ place_stands story p high main words body_stands n within accepted.few_abbreviations in
      record {
        bytes = subst (λ at. Holds story at (encoded (abbreviation_at p.abbreviations n))) (sym named)
            (abbreviation_stands story p high main words body_stands n within);
        above = omega (
          arith,
          named,
          said.static_base,
          texts_above (texts_place p) p.abbreviations n within,
        );
        low = omega (arith, named, texts_below (texts_place p) p.abbreviations n within, placed);
      }

  holds : routines_place p ≤ greatest_word → All (IsShortRoutine (sizes_of p)) p.routines
      → length story ≤ 65535 * scale_of version → All (λ b. b < 256) story → HoldsProgram story a p
  holds placed small short bytes =
      let high_is : drop (routines_place p) story ≡ high = high_stands story p high main words body_stands in
      record {
        byte_each = bytes;
        routines = λ r within. routine_lies version p story said long short high_is r within
            (subst (IsShortRoutine (sizes_of p)) (routine_is p.routines r (routine_at p.routines r) within)
            (small r (routine_at p.routines r) within));
        faults = λ cause. subst (λ at. HoldsText story at (fault_line (words_of cause)))
            (sym (get_or-drop (length p.routines) (packed_in version p) (number_of cause) 0))
            (text_lies version p story said long short high_is (number_of cause) (fault_line (words_of cause))
            (few_causes cause) (text_of cause));
        start = subst (λ at. Holds story at (start_code main)) (sym said.first_instruction)
            (holds_first (start_place p) story (start_code main) high
            (start_stands story p high main words body_stands));
        start_above = omega (arith, said.first_instruction, said.static_base);
        globals_above = omega (arith, said.globals);
        globals_below = omega (arith, said.globals, said.static_base);
        static_below = omega (arith, said.static_base, long);
        globals = λ g within. ap (λ at. word_at story (at + 2 * g)) said.globals
            ∙ global_stands story p high main words body_stands g within (omega (arith, accepted.globals));
        table_above = omega (arith, said.abbreviations);
        table_below = omega (arith, said.abbreviations, said.globals);
        abbreviations = λ n within. abbreviation_lies placed n within;
        first_array = arrays_place;
        arrays = arrays_hold story p high main words body_stands;
        arrays_each = array_found arrays_place p.arrays;
        arrays_above = omega (arith, said.globals);
        objects_above = omega (arith, said.defaults);
        objects = objects;
        dictionary_above = omega (arith, said.dictionary, said.static_base);
        dictionary_there = said.dictionary;
        keys = subst (λ at. ReadsKeys story at p.keys) (sym said.dictionary)
            (laid_keys version p main (parts_in version p) placed accepted);
      }

pub stories_hold : StoriesHold
unfolding story_of
stories_hold version p is = (
  (
    header_read version p,
    laid_read version p (slice_index (packed_addresses (scale_of version) p) p.main) (parts_in version p) is.placed
        is.accepted,
  ),
  holds version p is.accepted is.placed is.short is.within is.bytes,
)
