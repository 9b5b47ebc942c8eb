-- Which checked programs are too large.
use Rattle.std.specs.Prelude.{◌≡◌, ◌⊎◌, ℕ, Option, Some, None, Result, Ok, Err}
use Rattle.syntax_lexer.specs.declared.token.Position.{Position}
use Rattle.syntax_lexer.specs.declared.fault.SourceFault.{SourceFault}
use Rattle.syntax_lexer.specs.declared.fault.PlacedFault.{PlacedFault}
use Rattle.syntax_lexer.specs.FaultNumbers.{routine_too_large, story_too_large, tables_too_large}
use Rattle.zcore.specs.declared.header.Version.{Version}
use Rattle.meaning.specs.declared.checked.CheckedRoutine.{CheckedRoutine}
use Rattle.meaning.specs.Places.{routines_place}
use Rattle.meaning.specs.Views.{CheckedProgram, program_of}
use Rattle.meaning.specs.Sizes.{fault, first_heavy, size_fault}

abbrev pub routine_weight : CheckedRoutine → ℕ
routine_weight r = r.weight

abbrev pub name_place_of : CheckedRoutine → Position
name_place_of r = r.name.position

-- the position of the name of the first routine that weighs too much
abbrev pub heavy_place : CheckedProgram → Option Position
heavy_place c = first_heavy routine_weight name_place_of c.routines

abbrev pub checked_size_fault : CheckedProgram → Version → Option SourceFault
checked_size_fault c version = size_fault version (routines_place (program_of c)) c.weight (heavy_place c)

abbrev pub fault_of : {X : Type 0} → Result X SourceFault → Option SourceFault
fault_of (Ok x) = None
fault_of (Err f) = Some f

-- E30 or E31: the program as a whole is too large
abbrev pub IsOfWhole : ℕ → Type 0
IsOfWhole number = (number ≡ tables_too_large) ⊎ (number ≡ story_too_large)

-- where the fault of a program that is too large stands: that of a routine at its name, any other nowhere
abbrev pub StandsBySize : PlacedFault → CheckedProgram → Type 0
StandsBySize e c =
    (IsOfWhole e.fault.number × (e.offset ≡ None))
    ⊎ ((place : Position) × (heavy_place c ≡ Some place) × (e.fault ≡ fault routine_too_large place.line)
    × (e.offset ≡ Some place.offset))
