-- Where each part that a header names has to lie (Z-Machine Standards Document 1.1, section 1.1), and the first part
-- that does not.
use Rattle.std.specs.Prelude.{◌==◌, ◌&&◌, ◌+◌, ◌*◌, ℕ, nat_le, nat_lt, Bool, if◌then◌else◌, List, [], ◌∷◌, length}
use Rattle.std.specs.Prelude.{Option, Some, None}
use Rattle.ztext.specs.Bytes.{most_abbreviations}
use Rattle.zcore.specs.Header.{static_base_of, globals_of, defaults_of, abbreviations_of, high_memory_of}
use Rattle.zcore.specs.Header.{first_instruction_of, dictionary_of, static_end}
use Rattle.zcore.specs.Layout.{defaults_size, globals_size, header_size}
use Rattle.survey.specs.declared.misplaced.Misplaced.{Misplaced}
use Rattle.survey.specs.declared.misplaced.Table.{Table}
use Rattle.survey.specs.declared.misplaced.Table.TheVariants as parts

-- so many bytes at an address have to lie from a start to an end
abbrev pub placed : Table → ℕ → ℕ → ℕ → ℕ → Misplaced
placed table address bytes start end =
    record { table = table; address = address; bytes = bytes; start = start; end = end }

-- where the abbreviations have to lie: at address 0 there are none
abbrev pub abbreviations_place : List ℕ → ℕ → Misplaced
abbreviations_place story address =
    if address == 0 then placed parts.Abbreviations address 0 0 (static_end story)
    else placed parts.Abbreviations address (2 * most_abbreviations) header_size (static_end story)

-- where a part has to lie
abbrev pub place_of : List ℕ → Table → Misplaced
place_of story parts.StaticBase = placed parts.StaticBase (static_base_of story) 0 header_size (length story)
place_of story parts.Globals = placed parts.Globals (globals_of story) globals_size header_size (static_base_of story)
place_of story parts.Objects = placed parts.Objects (defaults_of story) defaults_size header_size (static_base_of story)
place_of story parts.Abbreviations = abbreviations_place story (abbreviations_of story)
place_of story parts.HighMemory =
    placed parts.HighMemory (high_memory_of story) 0 (static_base_of story) (length story)
place_of story parts.FirstInstruction =
    placed parts.FirstInstruction (first_instruction_of story) 1 header_size (length story)
place_of story parts.Dictionary =
    placed parts.Dictionary (dictionary_of story) 1 (static_base_of story) (static_end story)

-- the bytes lie where they have to
abbrev pub lies : Misplaced → Bool
lies place = nat_le place.start place.address && nat_le (place.address + place.bytes) place.end

-- the first part of several that does not lie where it has to
abbrev pub first_in : List ℕ → List Table → Option Misplaced
first_in story [] = None
first_in story (part ∷ others) =
    if lies (place_of story part) then first_in story others else Some (place_of story part)

-- the parts in the order in which they are tested
abbrev pub all_parts : List Table
all_parts =
    parts.StaticBase ∷ parts.Globals ∷ parts.Objects ∷ parts.Abbreviations ∷ parts.HighMemory ∷ parts.FirstInstruction
    ∷ parts.Dictionary ∷ []

-- that of a file, which has a header
abbrev pub first_misplaced : List ℕ → Option Misplaced
first_misplaced file = if nat_lt (length file) header_size then None else first_in file all_parts
