-- What was played in the lines of a session's file.
use Rattle.std.specs.Prelude.{◌≡◌, ℕ, false, List, Some}
use Rattle.session_keeping.specs.Answers.{answers_of, told}
use Rattle.session_keeping.specs.Kept.{kept_lines, taken_text}
use Rattle.session_keeping.specs.Lines.{unmarked}
use Rattle.session_keeping.specs.declared.answers.Answer.{Answer}

-- what was typed, and what the story was given for names, in the lines that were taken
abbrev pub ArePlayed : List ℕ → List ℕ → List Answer → Type 0
ArePlayed kept typed answers =
    (unmarked false (taken_text kept) ≡ Some typed)
    × (answers_of 0 (kept_lines (taken_text kept)) ≡ Some (told answers))
