-- How a story is laid out (Z-Machine Standards Document 1.1, sections 1.1 and 11): first the parts of `Places` of
-- `meaning`, then the routines in order of definition, and then the texts of faults, each at the next packed address.
-- Zero bytes fill what stands between them, and the end up to a multiple of the scale by which packed addresses
-- count.
use Rattle.std.specs.Prelude.{◌+◌, ◌-◌, ◌*◌, ◌/◌, ◌%◌, ℕ, List, [], ◌∷◌, ◌++◌, codes, length, map, replicate, take}
use Rattle.std.specs.Prelude.{drop, slice_index, sum}
use Rattle.std.specs.List.{flat_map, concat}
use Rattle.byteorder.specs.Endian.{big_bytes}
use Rattle.ztext.specs.Bytes.{most_abbreviations}
use Rattle.ztext.specs.Text.{encoded}
use Rattle.zcore.specs.declared.header.Version.{Version}
use Rattle.zcore.specs.Header.{version_number, scale_of}
use Rattle.zcore.specs.Layout.{greatest_word, key_size, global_count, header_size}
use Rattle.tables.specs.Dictionary as tables
use Rattle.meaning.specs.declared.places.Places.{Places}
use Rattle.meaning.specs.Places.{abbreviations_place, empty_text_place, arrays_place}
use Rattle.meaning.specs.Places.{defaults_place, dictionary_end, filling_before, texts_place, routines_place, places_of}
use Rattle.meaning.specs.Resolved.{RoutineOf, ProgramOf}
use Rattle.meaning.specs.World.{words_of}
use Rattle.code_items.specs.Statements.{routine_items}
use Rattle.code.specs.Rows.{rows_of, rows_bytes}
use Rattle.code_drafts.specs.Addresses.{Addresses, Sizes, all_causes}
use Rattle.code.specs.Bytes.{code_bytes}
use Rattle.code.specs.Sizes.{routine_size}
use Rattle.code.specs.HeldProgram.{start_code, fault_line, sizes_of}

-- how long a story can be whose packed addresses are words
abbrev pub greatest_length : Version → ℕ
greatest_length version = greatest_word * scale_of version

abbrev pub word : ℕ → List ℕ
word n = (n / 256) ∷ (n % 256) ∷ []

-- Memory below the routines

-- where each of some texts stands, which follow one another from an address on
abbrev pub text_places : ℕ → List (List ℕ) → List ℕ
text_places at [] = []
text_places at (a ∷ rest) = at ∷ text_places (at + length (encoded a)) rest

-- the table holds addresses halved (3.3); what the source has not is the empty text
abbrev pub abbreviation_bytes : ProgramOf → List ℕ
abbreviation_bytes p = flat_map word (map (λ (at : ℕ). at / 2) (take most_abbreviations
    (text_places (texts_place p) p.abbreviations ++ replicate most_abbreviations empty_text_place)))

-- a zero byte where the dictionary ends at an odd address, and the texts of abbreviations
abbrev pub abbreviation_texts : ProgramOf → List ℕ
abbreviation_texts p =
    replicate (filling_before p.abbreviations (dictionary_end p)) 0 ++ flat_map encoded p.abbreviations

abbrev pub global_bytes : List ℕ → List ℕ
global_bytes globals = flat_map word (take global_count (globals ++ replicate global_count 0))

-- the six bytes of a key, the highest first
abbrev pub key_bytes : ℕ → List ℕ
key_bytes key = big_bytes key_size key

-- the entries of keys, one after another (13.2)
abbrev pub entries_bytes : List ℕ → List ℕ
entries_bytes keys = flat_map tables.entry_bytes (map key_bytes keys)

-- the dictionary of keys
abbrev pub dictionary_bytes : List ℕ → List ℕ
dictionary_bytes keys = tables.dictionary_bytes (map key_bytes keys)

-- property defaults, the entries of objects, and their property tables (12.2 to 12.4)
abbrev pub object_bytes : ProgramOf → List ℕ
object_bytes p = rows_bytes (rows_of p.objects) p.defaults (defaults_place p)

-- the arrays stand one after another
abbrev pub low_bytes : ProgramOf → ℕ → List ℕ
low_bytes p main =
    abbreviation_bytes p ++ encoded [] ++ global_bytes p.globals ++ concat p.arrays ++ object_bytes p
    ++ dictionary_bytes p.keys ++ abbreviation_texts p ++ start_code main

-- Parts at packed addresses

-- the first multiple at an address or after it
abbrev pub aligned : ℕ → ℕ → ℕ
aligned scale at = (at + scale - 1) / scale * scale

-- where parts of these sizes stand
abbrev pub addresses_from : ℕ → ℕ → List ℕ → List ℕ
addresses_from scale at [] = []
addresses_from scale at (size ∷ sizes) = aligned scale at ∷ addresses_from scale (aligned scale at + size) sizes

-- the bytes of parts from an address on, up to a multiple
abbrev pub parts_from : ℕ → ℕ → List (List ℕ) → List ℕ
parts_from scale at [] = replicate (aligned scale at - at) 0
parts_from scale at (part ∷ parts) =
    replicate (aligned scale at - at) 0 ++ part ++ parts_from scale (aligned scale at + length part) parts

-- the texts that faults of the source print
abbrev pub fault_texts : List (List ℕ)
fault_texts = map (λ cause. encoded (fault_line (words_of cause))) all_causes

-- a byte with the number of locals, and the code (5.2), of a program of these sizes
abbrev pub routine_bytes : Sizes → Addresses → RoutineOf → List ℕ
routine_bytes sizes a r = r.locals ∷ code_bytes sizes a (routine_items r)

abbrev pub packed_addresses : ℕ → ProgramOf → List ℕ
packed_addresses scale p =
    map (λ address. address / scale)
    (addresses_from scale (routines_place p)
    (map (routine_size (sizes_of p)) p.routines ++ map length fault_texts))

-- an array may stand at every address
abbrev pub array_addresses : ProgramOf → List ℕ
array_addresses p = addresses_from 1 arrays_place (map length p.arrays)

abbrev pub addresses_in : ℕ → ProgramOf → Addresses
addresses_in scale p = record {
  routines = packed_addresses scale p;
  arrays = array_addresses p;
  faults = drop (length p.routines) (packed_addresses scale p);
}

abbrev pub high_bytes : ℕ → Addresses → ProgramOf → List ℕ
high_bytes scale a p =
    parts_from scale (routines_place p) (map (routine_bytes (sizes_of p) a) p.routines ++ fault_texts)

-- The story

-- all bytes after the header, with these addresses
abbrev pub body_with : ℕ → Addresses → ProgramOf → List ℕ
body_with scale a p = low_bytes p (slice_index a.routines p.main) ++ high_bytes scale a p

-- the header of the bytes after it, whose parts stand at these places (11.1): release 1 and serial number 000000
abbrev pub header_of : Version → Places → List ℕ → List ℕ
header_of version at body =
    version_number version ∷ 0 ∷ word 1 ++ word at.start ++ word at.start ++ word at.dictionary
    ++ word at.defaults ++ word at.globals ++ word at.dictionary ++ word 0 ++ codes "000000"
    ++ word abbreviations_place ++ word ((header_size + length body) / scale_of version) ++ word (sum body % 65536)
    ++ replicate 34 0

abbrev pub body_of : Version → ProgramOf → List ℕ
body_of version p = body_with (scale_of version) (addresses_in (scale_of version) p) p

-- the story of a program
unfoldable pub story_of : Version → ProgramOf → List ℕ
story_of version p = header_of version (places_of p) (body_of version p) ++ body_of version p
