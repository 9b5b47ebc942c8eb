-- Stories are read.
use Rattle.std.proofs.Common.{◌≡◌, inr, ℕ, ◌+◌, ◌*◌, ◌/◌, ◌%◌, ◌^◌, ◌<◌, ◌≤◌, List, ◌++◌, length, drop, Ok, true, refl, sym}
use Rattle.std.proofs.Common.{ap, ◌∙◌, subst, arith}
use Rattle.std.specs.Prelude.{map, slice_index, sum}
use Rattle.std.specs.List.{All}
use Rattle.std.specs.List.Sorted.{IsStrictlyIncreasing}
use Rattle.std.proofs.lemmas.List.{length-append, length-map, drop_at}
use Rattle.ztext.specs.Bytes.{word_at}
use Rattle.zcore.specs.declared.header.Version.{Version}
use Rattle.zcore.specs.declared.header.Header.{Header}
use Rattle.zcore.specs.Header.{IsDictionary, IsDictionaryOf, IsOfVersion, IsPlaced, Reads, StatesSum, abbreviations_of, defaults_of}
use Rattle.zcore.specs.Header.{dictionary_of, first_instruction_of, globals_of, high_memory_of, scale_of}
use Rattle.zcore.specs.Header.{separator_count, entry_length_of, entry_count, static_base_of, version_number}
use Rattle.tables.specs.Dictionary.{ReadsKeys}
use Rattle.meaning.specs.Accepted.{IsAccepted}
use Rattle.meaning.specs.Places.{defaults_place, dictionary_place, start_place, routines_place, places_of}
use Rattle.meaning.specs.Resolved.{ProgramOf}
use Rattle.code.specs.HeldProgram.{start_code}
use Rattle.story_file.specs.Layout.{abbreviation_texts, header_of, low_bytes, key_bytes, story_of}
use Rattle.zcore.specs.Layout.{greatest_word}
use Rattle.story_file.specs.Layout.{dictionary_bytes, parts_from}
use Rattle.story_file.proofs.Parts.{whole, holds_first, parts_end}
use Rattle.story_file.proofs.Entries.{keys_read}
use Rattle.story_file.proofs.Low.{word_is, byte_behind, word_behind, low_length, dictionary_stands}

-- what the header of a program's story says
pub record SaysInHeader (version : Version) (p : ProgramOf) (story : List ℕ) : Type 0 where
  pub version_byte : slice_index story 0 ≡ version_number version
  pub high_memory : high_memory_of story ≡ start_place p
  pub first_instruction : first_instruction_of story ≡ start_place p
  pub dictionary : dictionary_of story ≡ dictionary_place p
  pub defaults : defaults_of story ≡ defaults_place p
  pub globals : globals_of story ≡ 258
  pub static_base : static_base_of story ≡ dictionary_place p
  pub abbreviations : abbreviations_of story ≡ 64
  pub stated_length : word_at story 0x1A ≡ length story / scale_of version
  pub stated_sum : StatesSum story

module _ (version : Version) (p : ProgramOf) (body : List ℕ) where
  whole_length : length (header_of version (places_of p) body ++ body) ≡ 64 + length body
  whole_length = length-append (header_of version (places_of p) body) body

  pub behind_header : drop 64 (header_of version (places_of p) body ++ body) ≡ body
  behind_header = drop_at (header_of version (places_of p) body) body 64 refl

  pub says : SaysInHeader version p (header_of version (places_of p) body ++ body)
  says = record {
    version_byte = refl;
    high_memory = word_is (start_place p);
    first_instruction = word_is (start_place p);
    dictionary = word_is (dictionary_place p);
    defaults = word_is (defaults_place p);
    globals = refl;
    static_base = word_is (dictionary_place p);
    abbreviations = refl;
    stated_length = word_is ((64 + length body) / scale_of version)
        ∙ ap (λ n. n / scale_of version) (sym whole_length);
    stated_sum = word_is (sum body % 65536) ∙ ap (λ bytes. sum bytes % 65536) (sym behind_header);
  }

-- The dictionary

module _ (story rest keys : List ℕ) (at : ℕ) (stands : drop at story ≡ dictionary_bytes keys ++ rest) where
  separators_are : separator_count story at ≡ 3
  separators_are =
      let e : at ≡ at + 0 = omega arith in
      ap (slice_index story) e ∙ byte_behind at 0 story (dictionary_bytes keys ++ rest) stands

  entry_length_is : entry_length_of story at ≡ 9
  entry_length_is =
      let e : at + 1 + 3 ≡ at + 4 = omega arith in
      ap (λ n. slice_index story (at + 1 + n)) separators_are ∙ ap (slice_index story) e
      ∙ byte_behind at 4 story (dictionary_bytes keys ++ rest) stands

  entries_are : entry_count story at ≡ length keys
  entries_are =
      let e : at + 2 + 3 ≡ at + 5 = omega arith in
      ap (λ n. word_at story (at + 2 + n)) separators_are ∙ ap (word_at story) e
      ∙ word_behind at 5 story (dictionary_bytes keys ++ rest) stands
      ∙ word_is (length (map key_bytes keys)) ∙ length-map keys key_bytes

  pub keys_stand : All (λ k. k < 2 ^ 48) keys → IsStrictlyIncreasing keys
      → at + (7 + 9 * length keys) ≤ length story → at + (7 + 9 * length keys) ≤ 65536 → ReadsKeys story at keys
  keys_stand small ascending long low =
      keys_read story at keys small ascending (omega (arith, low))
      (holds_first at story (dictionary_bytes keys) rest stands) (omega (arith, long, low))

pub version_told : (version : Version) (p : ProgramOf) → IsOfVersion (story_of version p) version
unfolding story_of
version_told version p = refl

-- Reading

abbrev pub header_read : Version → ProgramOf → Header
header_read version p = record {
  version = version;
  static_base = dictionary_place p;
  globals = 258;
  defaults = defaults_place p;
  abbreviations = 64;
  high_memory = start_place p;
  first_instruction = start_place p;
  dictionary = record {
    address = dictionary_place p;
    separators = 3;
    entry_length = 9;
    entries = length p.keys;
    is_ordered = true;
  };
}

module _ (version : Version) (p : ProgramOf) (story rest : List ℕ) (said : SaysInHeader version p story)
    (multiple : whole version (length story)) (placed : routines_place p ≤ greatest_word)
    (long : routines_place p ≤ length story)
    (small : All (λ k. k < 2 ^ 48) p.keys) (ascending : IsStrictlyIncreasing p.keys)
    (stands : drop (dictionary_place p) story ≡ dictionary_bytes p.keys ++ rest) where
  is_placed : IsPlaced story
  is_placed = record {
    static_base = (omega (arith, said.static_base), omega (arith, said.static_base, long));
    globals = (omega (arith, said.globals), omega (arith, said.globals, said.static_base));
    defaults = (omega (arith, said.defaults), omega (arith, said.defaults, said.static_base));
    abbreviations = inr (omega (arith, said.abbreviations), omega (arith, said.abbreviations, long));
    high_memory = (
      omega (arith, said.high_memory, said.static_base),
      omega (arith, said.high_memory, long),
    );
    first_instruction = (omega (arith, said.first_instruction), omega (arith, said.first_instruction, long));
    dictionary = omega (arith, said.dictionary, said.static_base);
  }

  pub are_keys_read : ReadsKeys story (dictionary_place p) p.keys
  are_keys_read =
      keys_stand story rest p.keys (dictionary_place p) stands small ascending (omega (arith, long))
      (omega (arith, placed))

  is_dictionary_read : IsDictionaryOf story (dictionary_place p) (header_read version p).dictionary
  is_dictionary_read = record {
    address = refl;
    separators = sym (separators_are story rest p.keys (dictionary_place p) stands);
    entry_length = sym (entry_length_is story rest p.keys (dictionary_place p) stands);
    entries = sym (entries_are story rest p.keys (dictionary_place p) stands);
    ordered = (λ h. are_keys_read.dictionary, λ d. refl);
  }

  pub is_read : Reads story (Ok (header_read version p))
  is_read = (
    omega (arith, long),
    ap (λ n. n * scale_of version) said.stated_length ∙ multiple,
    said.stated_sum,
    is_placed,
    subst (IsDictionary story) (sym said.dictionary) are_keys_read.dictionary,
    record {
      version = said.version_byte;
      static_base = sym said.static_base;
      globals = sym said.globals;
      defaults = sym said.defaults;
      abbreviations = sym said.abbreviations;
      high_memory = sym said.high_memory;
      first_instruction = sym said.first_instruction;
      dictionary = subst (λ at. IsDictionaryOf story at (header_read version p).dictionary) (sym said.dictionary)
          is_dictionary_read;
    },
  )

-- Parts after what stands below them

module _ (version : Version) (p : ProgramOf) (main : ℕ) (parts : List (List ℕ)) where
  abbrev high : List ℕ
  high = parts_from (scale_of version) (routines_place p) parts

  abbrev body : List ℕ
  body = low_bytes p main ++ high

  abbrev pub laid_out : List ℕ
  laid_out = header_of version (places_of p) body ++ body

  pub laid_length : length p.defaults ≡ 63 → length laid_out ≡ routines_place p + length high
  laid_length words =
      omega (arith, whole_length version p body, length-append (low_bytes p main) high, low_length p main words)

  pub laid_multiple : length p.defaults ≡ 63 → whole version (length laid_out)
  laid_multiple words = subst (whole version) (sym (laid_length words)) (parts_end version (routines_place p) parts)

  -- what stands after the dictionary
  abbrev behind : List ℕ
  behind = abbreviation_texts p ++ (start_code main ++ high)

  pub laid_read : routines_place p ≤ greatest_word → IsAccepted p → Reads laid_out (Ok (header_read version p))
  laid_read placed accepted =
      is_read version p laid_out behind (says version p body)
      (laid_multiple accepted.defaults.0) placed (omega (arith, laid_length accepted.defaults.0))
      accepted.keys accepted.ascending
      (dictionary_stands laid_out p high main accepted.defaults.0 (behind_header version p body))

  -- the keys of the program
  pub laid_keys : routines_place p ≤ greatest_word → IsAccepted p → ReadsKeys laid_out (dictionary_place p) p.keys
  laid_keys placed accepted =
      are_keys_read version p laid_out behind (says version p body)
      (laid_multiple accepted.defaults.0) placed (omega (arith, laid_length accepted.defaults.0))
      accepted.keys accepted.ascending
      (dictionary_stands laid_out p high main accepted.defaults.0 (behind_header version p body))
