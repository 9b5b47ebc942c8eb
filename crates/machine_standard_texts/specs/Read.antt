-- What reading a text, or a part of one, adds to the text of a turn.
use Rattle.std.specs.Prelude.{◌≡◌, ℕ, Bool, true, false, List, [], drop, Option, Some, None, Result, Ok, Err}
use Rattle.journal.specs.Recording.{Recording}
use Rattle.ztext.specs.Reading.{Cause, Lower}
use Rattle.ztext.specs.Results.{◌>>=◌}
use Rattle.ztext.specs.Faults.{FailsText}
use Rattle.ztext.specs.declared.fault.TextFault.{TextFault}
use Rattle.zcore.specs.State.{State, Out}
use Rattle.zcore_standard.specs.Texts.{read_codes}
use Rattle.machine_frames.specs.Contents.{Contents}
use Rattle.machine_frames.specs.Went.{Went}
use Rattle.machine_frames.specs.declared.end.End.{End}
use Rattle.machine_frames.specs.declared.end.End.TheVariants as ends
use Rattle.zcore.specs.declared.place.Fault.TheVariants as faults
use Rattle.zcore.specs.declared.place.Place.TheVariants as places
use Rattle.machine_standard_texts.specs.declared.characters.Halt.{Halt}
use Rattle.machine_standard_texts.specs.declared.reading.Named.{Named}
use Rattle.machine_standard_texts.specs.Pieces.{joined}
use Rattle.machine_standard_texts.specs.Put.{PrintsOn}

-- codes were read and printed, or reading fails as the definition does
abbrev pub GivesCodes : {X : Type 0} → List ℕ → Option Halt → Option Halt → List ℕ → List ℕ → Result X TextFault
    → Result (List ℕ) Cause → Type 0
GivesCodes characters before after was now (Ok x) read = (codes : List ℕ) × (read ≡ Ok codes)
    × PrintsOn characters before after was now codes
GivesCodes characters before after was now (Err fault) read = FailsText fault read

-- what is left of a text: an abbreviation, and what is after it
abbrev pub rest_of : List ℕ → (ℕ → Result (List ℕ) Cause) → List ℕ → Option Named → Result (List ℕ) Cause
rest_of alphabets expand zs None = Ok []
rest_of alphabets expand zs (Some named) = expand named.number
    >>= λ more. joined more (read_codes alphabets expand Lower (drop named.after zs))

-- a text was read and printed, and the address after it is answered; or it could not be read, and nothing stays
abbrev pub GivesText : List ℕ → ℕ → List ℕ → List ℕ → Result (ℕ × Option Halt) TextFault
    → Result (List ℕ × ℕ) Cause → Type 0
GivesText characters start was now (Ok x) read = (codes : List ℕ) × (read ≡ Ok (codes, x.0))
    × PrintsOn characters None x.1 (drop start was) (drop start now) codes
GivesText characters start was now (Err fault) read = FailsText fault read × (now ≡ was)

-- the same of a part of an instruction
abbrev pub AddsText : List ℕ → ℕ → List ℕ → List ℕ → Result (ℕ × Option Halt) End → Recording Contents
    → Recording Contents → (State → Out (List ℕ × ℕ)) → Type 0
AddsText characters start was now (Ok x) old new f = (codes : List ℕ) × Went (Ok (codes, x.0)) old new f
    × PrintsOn characters None x.1 (drop start was) (drop start now) codes
AddsText characters start was now (Err end) old new f = Went (Err end) old new f × (now ≡ was)

-- a turn ended by M10
abbrev pub ends_refused : {A : Type 0} → Result A End → Bool
ends_refused (Err (ends.Stop (places.Fault faults.Character))) = true
ends_refused _ = false
