-- Where the parts of a story stand that come before its routines, one after another:
--
--     header; table of 96 abbreviations; empty text, which those name that the source has not; 240 words of globals;
--     arrays; 63 words of property defaults; objects; property tables; dictionary, with which static memory begins; the
--     texts of abbreviations; and the code that begins the story, with which high memory begins.
use Rattle.std.specs.Prelude.{◌+◌, ◌*◌, ◌/◌, ◌%◌, ◌==◌, ℕ, nat_lt, if◌then◌else◌, List, [], ◌∷◌, length, map}
use Rattle.std.specs.List.{concat}
use Rattle.tables.specs.KeyNumbers.{key_number, head_size, entry_size}
use Rattle.ztext.specs.Bytes.{most_abbreviations}
use Rattle.ztext.specs.Text.{encoded}
use Rattle.zcore.specs.Layout.{defaults_size, globals_size, header_size, object_entry_size}
use Rattle.meaning.specs.Objects.{ObjectOf}
use Rattle.meaning.specs.Resolved.{ProgramOf}
use Rattle.meaning.specs.declared.places.Places.{Places}

-- Nothing bounds how much a source lists, so sums of sizes are folded: up to 65,535 a size is itself; what a greater
-- one becomes is as well above 65,535, and has the same remainder by 65,536.
unfoldable pub folded : ℕ → ℕ
folded n = if nat_lt n 65536 then n else 65536 + n % 65536

-- How much there is of each part

abbrev pub empty_text_size : ℕ
empty_text_size = 2

abbrev pub arrays_size : ProgramOf → ℕ
arrays_size p = length (concat p.arrays)

abbrev pub object_count : ProgramOf → ℕ
object_count p = length p.objects

-- the character of the machine for a byte of a text: `^` is a new line, 13, and `~` a double quote
abbrev pub machine_character : ℕ → ℕ
machine_character byte =
    if byte == 94 then 13
    else (if byte == 126 then 34
    else byte)

-- the words of a short name; an empty one has none
abbrev pub name_words : List ℕ → ℕ
name_words [] = 0
name_words (c ∷ cs) = length (encoded (map machine_character (c ∷ cs))) / 2

abbrev pub total : List ℕ → ℕ
total [] = 0
total (n ∷ ns) = n + total ns

-- a size byte, and another one before a property of more than one word
abbrev pub property_size : ℕ × List ℕ → ℕ
property_size x = (if length x.1 == 1 then 1 else 2) + 2 * length x.1

-- the number of the name's words, the name, the properties, and a byte after them
abbrev pub table_size : ObjectOf → ℕ
table_size o = 1 + 2 * name_words o.name + total (map property_size o.properties) + 1

-- the entries of objects, and their property tables
abbrev pub objects_size : List ObjectOf → ℕ
objects_size os = object_entry_size * length os + total (map table_size os)

abbrev pub properties_size : ProgramOf → ℕ
properties_size p = total (map table_size p.objects)

abbrev pub key_count : ProgramOf → ℕ
key_count p = length p.keys

abbrev pub text_size : List ℕ → ℕ
text_size text = length (encoded text)

-- the texts of abbreviations, which use none
abbrev pub abbreviations_size : ProgramOf → ℕ
abbreviations_size p = total (map text_size p.abbreviations)

-- the code that begins a story, with which high memory begins; the routines follow it
abbrev pub start_size : ℕ
start_size = 4

-- The address of each part

abbrev pub abbreviations_place : ℕ
abbreviations_place = header_size

abbrev pub empty_text_place : ℕ
empty_text_place = abbreviations_place + 2 * most_abbreviations

abbrev pub globals_place : ℕ
globals_place = empty_text_place + empty_text_size

abbrev pub arrays_place : ℕ
arrays_place = globals_place + globals_size

abbrev pub defaults_place : ProgramOf → ℕ
defaults_place p = arrays_place + arrays_size p

abbrev pub properties_place : ProgramOf → ℕ
properties_place p = defaults_place p + defaults_size + object_entry_size * object_count p

abbrev pub dictionary_place : ProgramOf → ℕ
dictionary_place p = properties_place p + properties_size p

abbrev pub dictionary_end : ProgramOf → ℕ
dictionary_end p = dictionary_place p + (head_size + entry_size * key_count p)

-- the table of abbreviations holds addresses halved (Z-Machine Standards Document 1.1, section 3.3), so a byte stands
-- before the texts where the dictionary ends at an odd one
abbrev pub filling_before : List (List ℕ) → ℕ → ℕ
filling_before [] end = 0
filling_before (a ∷ rest) end = end % 2

abbrev pub texts_place : ProgramOf → ℕ
texts_place p = dictionary_end p + filling_before p.abbreviations (dictionary_end p)

abbrev pub start_place : ProgramOf → ℕ
start_place p = texts_place p + abbreviations_size p

-- the end of these parts, where the routines begin: the sum of their sizes
abbrev pub routines_place : ProgramOf → ℕ
routines_place p = start_place p + start_size

-- The number of a key: the address of its entry in the dictionary, and 0 where it has none. Modulo 65,536 it is a word
-- also where the parts are too large for a story.
abbrev pub number_in : ProgramOf → ℕ → ℕ
number_in p key = key_number (dictionary_place p) p.keys key % 65536

abbrev pub places_of : ProgramOf → Places
places_of p = record {
  globals = globals_place;
  defaults = defaults_place p;
  dictionary = dictionary_place p;
  texts = texts_place p;
  start = start_place p;
  routines = routines_place p;
}
