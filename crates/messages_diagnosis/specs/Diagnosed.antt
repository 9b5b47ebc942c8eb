-- What a source is compiled to, or why and where it is refused.
use Rattle.std.specs.Prelude.{◌≡◌, ◌↔◌, ℕ, List, None, Result, Ok, Err}
use Rattle.std.specs.Option.{option_map}
use Rattle.zcore.specs.declared.header.Version.{Version}
use Rattle.syntax_lexer.specs.declared.fault.PlacedFault.{PlacedFault}
use Rattle.story.specs.Compiled.{CompilesBy}
use Rattle.story.specs.FaultPlaces.{IsUnplaced, Stands}
use Rattle.story.specs.Refused.{Limits}
use Rattle.messages_parts.specs.declared.diagnosis.Diagnosis.{Diagnosis}
use Rattle.messages_parts.specs.Lines.{IsLocatedIn}

-- the fault, with the offset at which its place begins
abbrev pub placed_of : Diagnosis → PlacedFault
placed_of d = record { fault = d.fault; offset = option_map (λ place. place.offset) d.place }

-- no place is named of E30, E31 and E99, and of each other fault one is
abbrev pub IsToldExactly : Diagnosis → Type 0
IsToldExactly d = (d.place ≡ None) ↔ IsUnplaced d.fault.number

-- what the compiler answers by some limits, and a place in the line that the fault names, at which the fault stands
abbrev pub Diagnoses : Limits → Version → List ℕ → Result (List ℕ) Diagnosis → Type 0
Diagnoses limits version source (Ok bytes) = CompilesBy limits version source (Ok bytes)
Diagnoses limits version source (Err d) =
    CompilesBy limits version source (Err d.fault) × IsLocatedIn source d × Stands source (placed_of d)
    × IsToldExactly d
