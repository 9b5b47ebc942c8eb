-- What is kept of the lines of play.
use Rattle.std.specs.Prelude.{◌≡◌, ℕ, Bool, false, List, ◌++◌, Some}
use Rattle.session_keeping.specs.Answers.{answers_of}
use Rattle.session_keeping.specs.Entries.{AreEntries, Entry, given_after, kept_of, taken, typed_of}
use Rattle.session_keeping.specs.Kept.{kept_lines, taken_text}
use Rattle.session_keeping.specs.Lines.{is_begun_after, marked, unmarked}

abbrev pub ReadsBack : Type 0
ReadsBack = (typed : List ℕ) → unmarked false (marked false typed) ≡ Some typed

abbrev pub KeepsPieces : Type 0
KeepsPieces = (begun : Bool) (first second : List ℕ)
    → marked begun (first ++ second) ≡ marked begun first ++ marked (is_begun_after begun first) second

-- of a whole file the lines that were taken read back, and what the story was given for them
abbrev pub TakenReadBack : Type 0
TakenReadBack = (entries : List Entry) → AreEntries entries
    → (unmarked false (taken_text (kept_of entries)) ≡ Some (typed_of (taken entries)))
    × (answers_of 0 (kept_lines (taken_text (kept_of entries))) ≡ Some (given_after 0 (taken entries)))
