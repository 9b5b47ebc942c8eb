-- How a file is loaded: which files are refused, what memory holds then, and what loading fixes (Z-Machine Standards
-- Document 1.1, sections 1.1, 3.8.5, 11.1 and 15, `verify`).
use Rattle.std.specs.Prelude.{◌≡◌, ◌==◌, ◌&&◌, ◌||◌, ◌+◌, ◌*◌, ◌/◌, ◌%◌, ◌≤◌, ◌⊎◌, ℕ, zero, suc, nat_le, min, sum}
use Rattle.std.specs.Prelude.{Bool, true, false, if◌then◌else◌, List, [], ◌∷◌, length, slice_index, slice_range, take, drop}
use Rattle.std.specs.Prelude.{Option, Some, None, Result, Ok, Err}
use Rattle.ztext.specs.Bytes.{word_at, most_abbreviations}
use Rattle.zcore.specs.declared.header.Header.{Header}
use Rattle.zcore.specs.declared.header.HeaderFault.{HeaderFault}
use Rattle.zcore.specs.declared.header.HeaderFault.TheVariants as causes
use Rattle.zcore.specs.Header.{HasHeader, IsWithin, HasDictionaryHead, IsDictionaryOf, static_end, scale_of}
use Rattle.zcore.specs.Header.{static_base_of, globals_of, defaults_of, abbreviations_of, dictionary_of, first_instruction_of}
use Rattle.zcore.specs.Header.{high_memory_of}
use Rattle.zcore.specs.Layout.{header_size, globals_size, defaults_size, longest_story}
use Rattle.zcore.specs.Parts.{scale_in, with_word}
use Rattle.zcore.specs.Turn.{with_bytes}
use Rattle.zcore_standard_loading.specs.declared.loading.LoadedStory.{LoadedStory}
use Rattle.zcore_standard.specs.Extension.{extension_of, extension_place, has_dynamic_word, late_word, number_of}
use Rattle.zcore_standard.specs.Loaded.{Loaded, seeded}
use Rattle.zcore_standard_loading.specs.declared.options.Capabilities.{Capabilities}
use Rattle.zcore_standard_loading.specs.declared.options.StandardOptions.{StandardOptions}
use Rattle.zcore_standard.specs.Unicode.{default_characters}
use Rattle.zcore_versions.specs.declared.version.StoryVersion.{StoryVersion}
use Rattle.zcore_versions.specs.SmallObjects.{small_defaults_size}
use Rattle.zcore_versions.specs.ReadVersions.{version_in}
use Rattle.zcore_versions.specs.Versions.{Story}

-- The version (11.1)

-- Version 6 is not played.
abbrev pub is_played : ℕ → Bool
is_played number = (nat_le 1 number && nat_le number 5) || (nat_le 7 number && nat_le number 8)

-- The story in its file (11.1.6)

-- by how many bytes the header of a version states a length
abbrev pub length_unit : ℕ → ℕ
length_unit number = if nat_le number 3 then 2 else (if nat_le number 5 then 4 else 8)

-- how many bytes of a file are the story: as many as its header states, or all where it states 0
abbrev pub story_length : List ℕ → ℕ
story_length file =
    if word_at file 0x1A == 0 then length file else word_at file 0x1A * length_unit (number_of file)

-- the story, without the bytes that follow it
abbrev pub story_in : List ℕ → List ℕ
story_in file = take (story_length file) file

-- the file has them all, and they are neither fewer than a header nor more than a story can have
pub record HasStory (file : List ℕ) : Type 0 where
  pub least : header_size ≤ story_length file
  pub there : story_length file ≤ length file
  pub most : story_length file ≤ longest_story

-- Addresses

-- a table at address 0, or one that lies after the header in memory which instructions can read
abbrev pub IsTable : List ℕ → ℕ → ℕ → Type 0
IsTable story table bytes = (table ≡ 0) ⊎ IsWithin header_size (static_end story) table bytes

-- how many bytes the defaults of properties have: 31 words up to version 3, then 63 (12.2)
abbrev pub defaults_size_in : List ℕ → ℕ
defaults_size_in story = if nat_le (number_of story) 3 then small_defaults_size else defaults_size

-- how many bytes the addresses of abbreviations have: version 1 has none, version 2 has 32, then there are 96 (3.3)
abbrev pub abbreviations_size : ℕ → ℕ
abbreviations_size number = if nat_le number 2 then 64 else 2 * most_abbreviations

-- the table of abbreviations, or 0
abbrev pub abbreviation_table_of : List ℕ → ℕ
abbreviation_table_of story = if number_of story == 1 then 0 else abbreviations_of story

-- the extension has a word of a number; its word 0 tells how many follow
abbrev pub has_extension_word : List ℕ → ℕ → Bool
has_extension_word story number =
    nat_le 1 (extension_of story) && nat_le number (word_at story (extension_of story))

-- the Unicode table of the story (3.8.5.2), or 0
abbrev pub unicode_table_of : List ℕ → ℕ
unicode_table_of story = if has_extension_word story 3 then word_at story (extension_place story 3) else 0

-- the table of the story's own alphabets (3.5.5), or 0
abbrev pub alphabet_table_of : List ℕ → ℕ
alphabet_table_of story = late_word story 0x34

-- how many bytes it has
abbrev pub alphabet_table_size : ℕ
alphabet_table_size = 78

-- the table of abbreviations
abbrev pub HasAbbreviations : List ℕ → Type 0
HasAbbreviations story = IsTable story (abbreviation_table_of story) (abbreviations_size (number_of story))

-- the extension is whole: the word that counts, and the words
pub record IsExtension (story : List ℕ) : Type 0 where
  pub count : IsTable story (extension_of story) 2
  pub words : IsTable story (extension_of story) (2 + 2 * word_at story (extension_of story))

-- and so is the Unicode table: the byte that counts, and a word for each character
pub record IsUnicode (story : List ℕ) : Type 0 where
  pub count : IsTable story (unicode_table_of story) 1
  pub words : IsTable story (unicode_table_of story) (1 + 2 * slice_index story (unicode_table_of story))

-- the tables of characters: the Unicode table, and the story's own alphabets
pub record HasCharacters (story : List ℕ) : Type 0 where
  pub unicode : IsUnicode story
  pub alphabets : IsTable story (alphabet_table_of story) alphabet_table_size

-- Each address lies where it has to (1.1). High memory may begin anywhere.
pub record IsPlaced (story : List ℕ) : Type 0 where
  pub static_base : IsWithin header_size (length story) (static_base_of story) 0
  pub globals : IsWithin header_size (static_base_of story) (globals_of story) globals_size
  pub defaults : IsWithin header_size (static_base_of story) (defaults_of story) (defaults_size_in story)
  pub abbreviations : HasAbbreviations story
  pub first_instruction : IsWithin header_size (length story) (first_instruction_of story) 1
  pub dictionary : static_base_of story ≤ dictionary_of story
  pub extension : IsExtension story
  pub characters : HasCharacters story

-- What the player writes into the header (11.1)

-- Flags 1. From version 4 on: a fixed-space style is there (bit 4), a bold and an italic one (bits 2 and 3) where the
-- player shows text styles, and nothing else. Bit 1 stays as the file has it: by it games tell that they show the time.
-- Before: the status line is there (bit 4 would say that it is not), in version 3 the screen can be split (bit 5), the
-- pitch is not variable (bit 6).
abbrev pub flags_1 : Bool → ℕ → ℕ → ℕ
flags_1 styles number byte =
    if nat_le 4 number then (if styles then 0x1C else 0x10) + byte / 2 % 2 * 2
    else byte / 128 * 128 + (if number == 3 then 0x20 else 0) + byte % 16

-- bit 4 of Flags 2, by which a story of version 5 on asks for undo, which is there
abbrev pub undo_flag : ℕ → ℕ → ℕ
undo_flag number byte = if nat_le 5 number then byte / 16 % 2 * 16 else 0

-- Flags 2: bits 3 and 5 to 8 are cleared, which ask for pictures, a mouse, colours, sounds and menus
abbrev pub flags_2 : ℕ → List ℕ → List ℕ
flags_2 number story =
    (slice_index story 0x10 / 2 * 2) ∷ (slice_index story 0x11 % 8 + undo_flag number (slice_index story 0x11)) ∷ []

-- From $1E on, in version 4: interpreter number 1 and version F; the screen's rows, of which 255 mean no end, and its
-- columns. From version 5 on besides: the same size in units, first the width; a font is one unit wide and one high
-- (8.4, 11.1.3)
abbrev pub screen : Capabilities → ℕ → List ℕ
screen shown number =
    if nat_le number 3 then []
    else (if nat_le number 4 then 1 ∷ 70 ∷ shown.rows ∷ shown.columns ∷ []
    else 1 ∷ 70 ∷ shown.rows ∷ shown.columns ∷ 0 ∷ shown.columns ∷ 0 ∷ shown.rows ∷ 1 ∷ 1 ∷ [])

-- from $2C on, from version 5 on: a black background, a white foreground (8.3.1)
abbrev pub colours : ℕ → List ℕ
colours number = if nat_le number 4 then [] else 2 ∷ 9 ∷ []

-- from $32 on: Standard 1.1 (11.1.5)
abbrev pub revision : List ℕ
revision = 1 ∷ 1 ∷ []

abbrev pub with_extension_word : ℕ → ℕ → List ℕ → List ℕ
with_extension_word number word story =
    if has_dynamic_word story number then with_word story (extension_place story number) word else story

-- Flags 3, the default foreground and the default background (11.1.7.3)
abbrev pub with_extension : List ℕ → List ℕ
with_extension story = with_extension_word 6 0 (with_extension_word 5 0x7FFF (with_extension_word 4 0 story))

-- the story with its header set, by a player that shows so much
unfoldable pub with_header : Capabilities → List ℕ → List ℕ
with_header shown story =
    with_extension
    (with_bytes (with_bytes (with_bytes (with_bytes (with_bytes story
    0x01 (flags_1 shown.has_styles (number_of story) (slice_index story 1) ∷ []))
    0x10 (flags_2 (number_of story) story))
    0x1E (screen shown (number_of story)))
    0x2C (colours (number_of story)))
    0x32 revision)

-- memory when the opening begins
abbrev pub memory_for : Capabilities → List ℕ → List ℕ
memory_for shown file = with_header shown (story_in file)

-- What is read

-- the sum of the bytes after the header is the one that the header states (15, `verify`)
abbrev pub is_sum_right : List ℕ → Bool
is_sum_right story = word_at story 0x1C == sum (drop header_size story) % 65536

-- What is read of a header. Its version tells by how many bytes a machine of versions 5 and 8 would count packed
-- addresses.
pub record IsHeadOf (story : List ℕ) (header : Header) : Type 0 where
  pub scale : scale_of header.version ≡ scale_in story
  pub static_base : header.static_base ≡ static_base_of story
  pub globals : header.globals ≡ globals_of story
  pub defaults : header.defaults ≡ defaults_of story
  pub abbreviations : header.abbreviations ≡ abbreviations_of story
  pub high_memory : header.high_memory ≡ high_memory_of story
  pub first_instruction : header.first_instruction ≡ first_instruction_of story
  pub dictionary : IsDictionaryOf story (dictionary_of story) header.dictionary

-- The memory of a story with this header and of this version, which can be played. The order and the number of the
-- dictionary's entries refuse nothing.
pub record IsPlayable (memory : List ℕ) (header : Header) (version : StoryVersion) : Type 0 where
  pub version_read : version ≡ version_in memory
  pub played : is_played version.number ≡ true
  -- 8 times a word
  pub near : (version.routine_offset ≤ longest_story) × (version.text_offset ≤ longest_story)
  pub read : IsHeadOf memory header
  pub placed : IsPlaced memory
  pub dictionary : HasDictionaryHead memory (dictionary_of memory)

-- the story of a file is whole, and of a version that is played
pub record IsWhole (file : List ℕ) : Type 0 where
  pub header : HasHeader file
  pub version : is_played (number_of file) ≡ true
  pub story : HasStory file

-- the first fact that does not hold of a file
abbrev pub IsNotWhole : List ℕ → HeaderFault → Type 0
IsNotWhole file causes.TooShort = ¬ HasHeader file
IsNotWhole file causes.UnknownVersion = HasHeader file × (is_played (number_of file) ≡ false)
IsNotWhole file causes.WrongLength = HasHeader file × (is_played (number_of file) ≡ true) × ¬ HasStory file
IsNotWhole file _ = ⊥

-- the header and the version of a memory, or that an address is wrong
abbrev pub ReadsMemory : List ℕ → Result (Header × StoryVersion) HeaderFault → Type 0
ReadsMemory memory (Ok x) = IsPlayable memory x.0 x.1
ReadsMemory memory (Err causes.WrongAddress) =
    ¬ (IsPlaced memory × HasDictionaryHead memory (dictionary_of memory))
ReadsMemory memory (Err _) = ⊥

-- what a file is read as, by a player that shows so much
abbrev pub ReadsFile : Capabilities → List ℕ → Result LoadedStory HeaderFault → Type 0
ReadsFile shown file (Ok story) =
    IsWhole file × IsPlayable (memory_for shown file) story.header story.version
    × (story.is_sum_right ≡ is_sum_right (story_in file))
ReadsFile shown file (Err causes.WrongAddress) =
    IsWhole file × ReadsMemory (memory_for shown file) (Err causes.WrongAddress)
ReadsFile shown file (Err cause) = IsNotWhole file cause

-- What loading fixes

-- so many words from an address on
abbrev pub words_from : List ℕ → ℕ → ℕ → List ℕ
words_from story at zero = []
words_from story at (suc count) = word_at story at ∷ words_from story (at + 2) count

-- the ZSCII codes from 155 on for which a table gives characters are at most 97 (3.8.5.1)
abbrev pub most_characters : ℕ
most_characters = 97

-- the characters of the ZSCII codes from 155 on (3.8.5)
abbrev pub characters_of : List ℕ → List ℕ
characters_of story =
    if unicode_table_of story == 0 then default_characters
    else words_from story (unicode_table_of story + 1)
    (min (slice_index story (unicode_table_of story)) most_characters)

-- the three alphabets of the story's own, if it has them (3.5.5)
abbrev pub own_alphabets_of : List ℕ → Option (List ℕ)
own_alphabets_of story =
    if alphabet_table_of story == 0 then None
    else Some (slice_range story (alphabet_table_of story) (alphabet_table_of story + alphabet_table_size))

-- dynamic memory as a file has it, where the player has save files
abbrev pub saves_for : List ℕ → StandardOptions → Option (List ℕ)
saves_for file options = if options.has_saves then Some (take (static_base_of file) file) else None

abbrev pub loaded_of : List ℕ → StandardOptions → Loaded
loaded_of file options = record {
  dynamic = take (static_base_of (memory_for options.capabilities file)) (memory_for options.capabilities file);
  dice = seeded options.seed;
  is_sum_right = is_sum_right (story_in file);
  characters = characters_of (memory_for options.capabilities file);
  own_alphabets = own_alphabets_of (memory_for options.capabilities file);
  saves = saves_for file options;
  has_transcript = options.has_transcript;
}

abbrev pub story_of : List ℕ → StandardOptions → Story
story_of file options = record {
  loaded = loaded_of file options;
  version = version_in (memory_for options.capabilities file);
}
