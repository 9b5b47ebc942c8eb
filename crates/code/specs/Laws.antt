-- The law of code that a function of `laws` carries as its contract.
use Rattle.std.specs.Prelude.{ℕ, List}
use Rattle.meaning.specs.Resolved.{ProgramOf}
use Rattle.meaning.specs.Accepted.{IsAccepted}
use Rattle.meaning.specs.Printable.{HasPrintableTexts}
use Rattle.meaning.specs.Plays.{Plays}
use Rattle.code_drafts.specs.Addresses.{Addresses}
use Rattle.code.specs.HeldProgram.{HoldsProgram}

-- a story that holds an accepted program plays it, with any fuel and on any lines
abbrev pub CodePlays : Type 0
CodePlays =
    (story : List ℕ) (a : Addresses) (p : ProgramOf) → IsAccepted p → HasPrintableTexts p → HoldsProgram story a p
    → (full : ℕ) (lines : List (List ℕ)) → Plays story p full lines
