-- Which programs are too large where the length of the story is limited in place of the weight of the source: what
-- weighs too much may have a story that packed addresses reach.
use Rattle.std.specs.Prelude.{◌≡◌, ◌≤◌, ℕ, nat_lt, if◌then◌else◌, length, Option, Some, None, Result, Ok, Err}
use Rattle.std.specs.Global.{Vec}
use Rattle.std.specs.Option.{option_or}
use Rattle.zcore.specs.declared.header.Version.{Version}
use Rattle.zcore.specs.Layout.{greatest_word}
use Rattle.syntax_lexer.specs.declared.fault.SourceFault.{SourceFault}
use Rattle.syntax_lexer.specs.declared.fault.PlacedFault.{PlacedFault}
use Rattle.syntax_lexer.specs.declared.token.Position.{Position}
use Rattle.syntax_lexer.specs.FaultNumbers.{story_too_large, tables_too_large}
use Rattle.meaning.specs.Places.{routines_place}
use Rattle.meaning.specs.Resolved.{ProgramOf}
use Rattle.meaning.specs.Sizes.{fault, heavy_fault}
use Rattle.meaning.specs.Views.{CheckedProgram, program_of}
use Rattle.meaning.specs.CheckedSizes.{checked_size_fault, StandsBySize}
use Rattle.meaning.specs.CheckedSizes as checked
use Rattle.checker.specs.Programs.{resolve_program}
use Rattle.story_file.specs.Layout.{greatest_length, story_of}
use Rattle.story.specs.declared.sized.Limit.{Limit}
use Rattle.story.specs.declared.sized.Limit.TheVariants as limit
use Rattle.story.specs.FaultPlaces.{heavy_place}
use Rattle.story.specs.Refused.{Limits, tree_size_fault}

-- Of a program whose first routine that is too heavy stands at a position: E30 where the parts before the routines are
-- too large, else E32, else E31 where its story is longer than packed addresses reach.
abbrev pub length_fault : Version → ProgramOf → Option Position → Option SourceFault
length_fault version p heavy =
    if nat_lt greatest_word (routines_place p) then Some (fault tables_too_large 0)
    else option_or (heavy_fault heavy)
    (if nat_lt (greatest_length version) (length (story_of version p)) then Some (fault story_too_large 0) else None)

abbrev pub tree_length_fault : Limits
tree_length_fault version p = length_fault version (resolve_program p) (heavy_place p)

-- the limits of a source as a whole: its weight, or the length of its story
abbrev pub limits_by : Limit → Limits
limits_by limit.Weight = tree_size_fault
limits_by limit.Length = tree_length_fault

-- the same of a checked program
abbrev pub checked_fault_by : Limit → Version → CheckedProgram → Option SourceFault
checked_fault_by limit.Weight version c = checked_size_fault c version
checked_fault_by limit.Length version c = length_fault version (program_of c) (checked.heavy_place c)

-- the story of a checked program that is not too large; else why it is, and where that stands
abbrev pub IsStoryWithin : Limit → Version → CheckedProgram → Result (Vec ℕ) PlacedFault → Type 0
IsStoryWithin by version c (Ok story) =
    (checked_fault_by by version c ≡ None) × (story.items ≡ story_of version (program_of c))
    × (length (story_of version (program_of c)) ≤ greatest_length version)
IsStoryWithin by version c (Err e) = (checked_fault_by by version c ≡ Some e.fault) × StandsBySize e c
