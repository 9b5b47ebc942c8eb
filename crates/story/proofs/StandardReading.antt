-- A compiled story is read by the Standard's player, and the memory that it loads holds the story's program.
use Rattle.std.proofs.Common.{◌≡◌, inl, inr, ℕ, ◌+◌, ◌<◌, ◌≤◌, List, [], ◌∷◌, ◌++◌, length, drop, set, refl, sym, ap}
use Rattle.std.proofs.Common.{◌∙◌, subst, arith, Bool, true, false, None, Ok, Err}
use Rattle.std.specs.Prelude.{◌==◌, ◌||◌, ◌⊎◌, min, slice_index, if◌then◌else◌}
use Rattle.std.specs.List.{All, AllByRecursion}
use Rattle.std.proofs.lemmas.List.{length-append}
use Rattle.std.proofs.lemmas.List.Elements.{All-set}
use Rattle.ztext.specs.Bytes.{word_at}
use Rattle.zcore.specs.declared.header.Dictionary.{Dictionary}
use Rattle.zcore.specs.declared.header.Header.{Header}
use Rattle.zcore.specs.declared.header.HeaderFault.{HeaderFault}
use Rattle.zcore.specs.declared.header.HeaderFault.TheVariants as causes
use Rattle.zcore.specs.declared.header.Version.{Version}
use Rattle.zcore.specs.declared.header.Version.TheVariants.{V5, V8}
use Rattle.zcore.specs.Header.{IsDictionary, IsDictionaryOf, IsWithin, Reads, scale_of, version_number, dictionary_of}
use Rattle.zcore.specs.Header.{first_entry, separator_count, static_end}
use Rattle.zcore.specs.Header as profile
use Rattle.zcore.specs.Layout.{longest_story}
use Rattle.zcore.specs.Turn.{with_bytes}
use Rattle.zcore_standard_loading.specs.Capabilities.{HasByteSize}
use Rattle.zcore_standard_loading.specs.declared.loading.LoadedStory.{LoadedStory}
use Rattle.zcore_standard_loading.specs.declared.options.Capabilities.{Capabilities}
use Rattle.zcore_standard_loading.specs.Loading.{HasStory, IsHeadOf, IsPlaced, IsPlayable, IsWhole, ReadsFile}
use Rattle.zcore_standard_loading.specs.Loading.{flags_1, is_played, is_sum_right, own_alphabets_of, story_in}
use Rattle.zcore_standard_loading.specs.Loading.{story_length}
use Rattle.zcore_versions.specs.ReadVersions.{version_in}
use Rattle.tables.specs.Dictionary.{ReadsKeys}
use Rattle.meaning.specs.declared.places.Places.{Places}
use Rattle.meaning.specs.Places.{dictionary_place, places_of, routines_place}
use Rattle.meaning.specs.Resolved.{ProgramOf}
use Rattle.code.specs.HeldProgram.{HoldsProgram, start_code}
use Rattle.story_file.specs.Layout.{abbreviation_texts, addresses_in, body_of, dictionary_bytes}
use Rattle.story_file.specs.Layout.{greatest_length, header_of, high_bytes, low_bytes, story_of}
use Rattle.story_file.proofs.Entries.{keys_read}
use Rattle.story_file.proofs.Low.{dictionary_stands, low_length, word_is}
use Rattle.story_file.proofs.Parts.{holds_first}
use Rattle.story.specs.Laws.{IsStory}
use Rattle.story.proofs.StandardHolding.{IsSameBehind, byte_same, holds_too, word_same}
use Rattle.story.proofs.Loading.{behind_loaded, behind_story, is_loaded, length_loaded, length_story, loaded}
use Rattle.story.proofs.Loading.{set_header, stated}

-- Bytes

abbrev IsByte : ℕ → Type 0
IsByte b = b < 256

written_small : (memory : List ℕ) (at : ℕ) (bytes : List ℕ) → AllByRecursion IsByte bytes → All IsByte memory
    → All IsByte (with_bytes memory at bytes)
written_small memory at [] small h = h
written_small memory at (b ∷ bs) small h =
    written_small (set memory at b) (at + 1) bs small.1 (All-set IsByte memory at b small.0 h)

abbrev flags : Bool → Version → List ℕ → List ℕ
flags styles version story =
    with_bytes (with_bytes story 0x01 (flags_1 styles (version_number version) 0 ∷ [])) 0x10 (0 ∷ 0 ∷ [])

abbrev size : Capabilities → List ℕ
size shown = 1 ∷ 70 ∷ shown.rows ∷ shown.columns ∷ 0 ∷ shown.columns ∷ 0 ∷ shown.rows ∷ 1 ∷ 1 ∷ []

abbrev screen : Capabilities → List ℕ → List ℕ
screen shown story = with_bytes (with_bytes (with_bytes story 0x1E (size shown)) 0x2C (2 ∷ 9 ∷ [])) 0x32 (1 ∷ 1 ∷ [])

set_bytes : (shown : Capabilities) (version : Version) (at : Places) (body : List ℕ)
    → screen shown (flags shown.has_styles version (header_of version at body ++ body))
    ≡ set_header shown version at body ++ body
set_bytes shown V5 at body = refl
set_bytes shown V8 at body = refl

flags_small : (styles : Bool) (version : Version) → IsByte (flags_1 styles (version_number version) 0)
flags_small true V5 = omega arith
flags_small true V8 = omega arith
flags_small false V5 = omega arith
flags_small false V8 = omega arith

units_small : (shown : Capabilities) → HasByteSize shown
    → AllByRecursion IsByte (0 ∷ shown.columns ∷ 0 ∷ shown.rows ∷ 1 ∷ 1 ∷ [])
units_small shown h = (omega arith, (h.0, (omega arith, (h.1, (omega arith, (omega arith, tt))))))

size_small : (shown : Capabilities) → HasByteSize shown → AllByRecursion IsByte (size shown)
size_small shown h = (omega arith, (omega arith, (h.1, (h.0, units_small shown h))))

all_small : (shown : Capabilities) → HasByteSize shown → (version : Version) (story : List ℕ) → All IsByte story
    → All IsByte (screen shown (flags shown.has_styles version story))
all_small shown size_is version story h =
    written_small _ 0x32 (1 ∷ 1 ∷ []) (omega arith, (omega arith, tt))
    (written_small _ 0x2C (2 ∷ 9 ∷ []) (omega arith, (omega arith, tt))
    (written_small _ 0x1E (size shown) (size_small shown size_is)
    (written_small _ 0x10 (0 ∷ 0 ∷ []) (omega arith, (omega arith, tt))
    (written_small _ 0x01 (flags_1 shown.has_styles (version_number version) 0 ∷ []) (flags_small shown.has_styles version, tt) h))))

-- Versions

played_number : (version : Version) → is_played (version_number version) ≡ true
played_number V5 = refl
played_number V8 = refl

longest : (version : Version) → greatest_length version ≤ longest_story
longest V5 = omega arith
longest V8 = omega arith

no_offset : (version : Version) (eights : ℕ) → (if version_number version == 7 then eights else 0) ≤ longest_story
no_offset V5 eights = omega arith
no_offset V8 eights = omega arith

scale_is : (read version : Version) → version_number read ≡ version_number version
    → scale_of read ≡ (if version_number version == 8 then 8 else 4)
scale_is V5 version e = ap (λ n. if n == 8 then 8 else 4) e
scale_is V8 version e = ap (λ n. if n == 8 then 8 else 4) e

pub late_number : (version : Version) → ((version_number version == 5) || (version_number version == 8)) ≡ true
late_number V5 = refl
late_number V8 = refl

pub no_alphabets : (version : Version) (p : ProgramOf) (shown : Capabilities) → own_alphabets_of (loaded version p shown) ≡ None
no_alphabets V5 p shown = refl
no_alphabets V8 p shown = refl

placed_too : (version : Version) (p : ProgramOf) (shown : Capabilities) → profile.IsPlaced (loaded version p shown)
    → IsPlaced (loaded version p shown)
placed_too V5 p shown h = record {
  static_base = h.static_base;
  globals = h.globals;
  defaults = h.defaults;
  abbreviations = h.abbreviations;
  first_instruction = h.first_instruction;
  dictionary = h.dictionary;
  extension = record { count = inl refl; words = inl refl };
  characters = record { unicode = record { count = inl refl; words = inl refl }; alphabets = inl refl };
}
placed_too V8 p shown h = record {
  static_base = h.static_base;
  globals = h.globals;
  defaults = h.defaults;
  abbreviations = h.abbreviations;
  first_instruction = h.first_instruction;
  dictionary = h.dictionary;
  extension = record { count = inl refl; words = inl refl };
  characters = record { unicode = record { count = inl refl; words = inl refl }; alphabets = inl refl };
}

-- What is read of a story's header is read of its loaded memory

less : (a b c : ℕ) → a + b ≤ c → a ≤ c
less a b c h = omega (arith, h)

moved : (start end ends at there bytes : ℕ) → ends ≡ end → there ≡ at → IsWithin start end at bytes
    → IsWithin start ends there bytes
moved start end ends at there bytes e f h = (omega (arith, f, h.0), omega (arith, e, f, h.1))

table_moved : (end ends at there bytes : ℕ) → ends ≡ end → there ≡ at → (at ≡ 0) ⊎ IsWithin 64 end at bytes
    → (there ≡ 0) ⊎ IsWithin 64 ends there bytes
table_moved end ends at there bytes e f (inl z) = inl (f ∙ z)
table_moved end ends at there bytes e f (inr h) = inr (moved 64 end ends at there bytes e f h)

module _ (story memory : List ℕ) (same : IsSameBehind story memory) where
  same_end : static_end memory ≡ static_end story
  same_end = ap (λ n. min n 65536) same.long

  placed_in : profile.IsPlaced story → profile.IsPlaced memory
  placed_in h = record {
    static_base = moved 64 _ _ _ _ 0 same.long same.static_base h.static_base;
    globals = moved 64 _ _ _ _ 480 same.static_base same.globals h.globals;
    defaults = moved 64 _ _ _ _ 126 same.static_base same.defaults h.defaults;
    abbreviations = table_moved _ _ _ _ 192 same_end same.abbreviations h.abbreviations;
    high_memory = (
      omega (arith, same.high_memory, same.static_base, h.high_memory.0),
      omega (arith, same.high_memory, same.long, h.high_memory.1),
    );
    first_instruction = moved 64 _ _ _ _ 1 same.long same.start h.first_instruction;
    dictionary = omega (arith, same.static_base, same.dictionary, h.dictionary);
  }

  dictionary_in : (at : ℕ) (d : Dictionary) → 64 ≤ at → IsDictionary story at → IsDictionary memory at
      → IsDictionaryOf story at d → IsDictionaryOf memory at d
  dictionary_in at d after old new h = record {
    address = h.address;
    separators = h.separators ∙ sym (byte_same story memory same at after);
    entry_length = h.entry_length
        ∙ sym (ap (λ n. slice_index memory (at + 1 + n)) (byte_same story memory same at after)
        ∙ byte_same story memory same (at + 1 + separator_count story at) (omega (arith, after)));
    entries = h.entries
        ∙ sym (ap (λ n. word_at memory (at + 2 + n)) (byte_same story memory same at after)
        ∙ word_same story memory same (at + 2 + separator_count story at) (omega (arith, after)));
    ordered = (λ t. new, λ n. h.ordered.1 old);
  }

module _ (version : Version) (p : ProgramOf) (is : IsStory version p) (shown : Capabilities)
    (size_is : HasByteSize shown) where
  abbrev words : length p.defaults ≡ 63
  words = is.accepted.defaults.0

  abbrev main : ℕ
  main = slice_index (addresses_in (scale_of version) p).routines p.main

  abbrev high : List ℕ
  high = high_bytes (scale_of version) (addresses_in (scale_of version) p) p

  abbrev memory : List ℕ
  memory = loaded version p shown

  abbrev behind : List ℕ
  behind = abbreviation_texts p ++ (start_code main ++ high)

  long : routines_place p ≤ length memory
  long = omega (arith, length_loaded version p shown, length-append (low_bytes p main) high, low_length p main words)

  stands : drop (dictionary_place p) memory ≡ dictionary_bytes p.keys ++ behind
  stands = dictionary_stands memory p high main words (behind_loaded version p shown)

  keys : ReadsKeys memory (dictionary_place p) p.keys
  keys =
      let placed : routines_place p ≤ 65535 = is.placed in
      keys_read memory (dictionary_place p) p.keys is.accepted.keys is.accepted.ascending (omega (arith, placed))
      (holds_first (dictionary_place p) memory (dictionary_bytes p.keys) behind stands) (omega (arith, placed, long))

  same : IsSameBehind (story_of version p) memory
  unfolding story_of
  same = record {
    long = length_loaded version p shown ∙ sym (length_story version p);
    behind = behind_loaded version p shown ∙ sym (behind_story version p);
    first = refl;
    start = refl;
    static_base = refl;
    globals = refl;
    defaults = refl;
    dictionary = refl;
    abbreviations = refl;
    high_memory = refl;
  }

  there : dictionary_of (story_of version p) ≡ dictionary_place p
  unfolding story_of
  there = word_is (dictionary_place p)

  small : All IsByte memory
  unfolding story_of
  small = subst (All IsByte) (set_bytes shown version (places_of p) (body_of version p))
      (all_small shown size_is version (story_of version p) is.bytes)

  pub holds_loaded : HoldsProgram (story_of version p) (addresses_in (scale_of version) p) p
      → HoldsProgram memory (addresses_in (scale_of version) p) p
  holds_loaded h =
      holds_too (story_of version p) memory same (addresses_in (scale_of version) p) p h small
      (subst (λ at. ReadsKeys memory at p.keys) (sym there) keys)

  module _ (h : Header) (reads : Reads (story_of version p) (Ok h)) where
    is_dictionary : IsDictionary memory (dictionary_of (story_of version p))
    is_dictionary = subst (IsDictionary memory) (sym there) keys.dictionary

    head : IsHeadOf memory h
    head = record {
      scale = scale_is h.version version (sym reads.5.version ∙ sym same.first);
      static_base = reads.5.static_base ∙ sym same.static_base;
      globals = reads.5.globals ∙ sym same.globals;
      defaults = reads.5.defaults ∙ sym same.defaults;
      abbreviations = reads.5.abbreviations ∙ sym same.abbreviations;
      high_memory = reads.5.high_memory ∙ sym same.high_memory;
      first_instruction = reads.5.first_instruction ∙ sym same.start;
      dictionary = subst (λ at. IsDictionaryOf memory at h.dictionary) (sym same.dictionary)
          (dictionary_in (story_of version p) memory same (dictionary_of (story_of version p)) h.dictionary
          (omega (arith, there)) reads.4 is_dictionary reads.5.dictionary);
    }

    head_there : first_entry memory (dictionary_of memory) ≤ static_end memory
    head_there =
        subst (λ at. first_entry memory at ≤ static_end memory) (sym same.dictionary)
        (less _ _ _ is_dictionary.whole)

    playable : IsPlayable memory h (version_in memory)
    playable = record {
      version_read = refl;
      played = played_number version;
      near = (no_offset version _, no_offset version _);
      read = head;
      placed = placed_too version p shown (placed_in (story_of version p) memory same reads.3);
      dictionary = head_there;
    }

    has_story : HasStory (story_of version p)
    has_story =
        let e : story_length (story_of version p) ≡ length (story_of version p) = stated (story_of version p) h reads in
        record {
          least = omega (arith, e, length_story version p);
          there = omega (arith, e);
          most = omega (arith, e, is.within, longest version);
        }

    is_whole : IsWhole (story_of version p)
    is_whole = record {
      header = omega (arith, length_story version p);
      version = ap is_played (sym same.first) ∙ played_number version;
      story = has_story;
    }

    pub loaded_story : LoadedStory
    loaded_story = record {
      header = h;
      version = version_in memory;
      is_sum_right = is_sum_right (story_in (story_of version p));
    }

    pub file_read : ReadsFile shown (story_of version p) (Ok loaded_story)
    unfolding loaded_story
    file_read = (
      is_whole,
      subst (λ m. IsPlayable m h (version_in memory)) (sym (is_loaded version p shown h reads)) playable,
      refl,
    )

-- a file that is read is not refused
pub read_not_refused : (shown : Capabilities) (file : List ℕ) (story : LoadedStory) (cause : HeaderFault)
    → ReadsFile shown file (Ok story) → ReadsFile shown file (Err cause) → ⊥
read_not_refused shown file story causes.TooShort p q = q p.0.header
read_not_refused shown file story causes.UnknownVersion p q = let a = p.0.version in let b = q.1 in cc
read_not_refused shown file story causes.WrongLength p q = q.2 p.0.story
read_not_refused shown file story causes.WrongSum p q = q
read_not_refused shown file story causes.WrongAddress p q = q.1 (p.1.placed, p.1.dictionary)
