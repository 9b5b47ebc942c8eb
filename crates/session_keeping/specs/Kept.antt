-- The lines of a session's file, and those of them that were taken.
use Rattle.std.specs.Prelude.{◌≡◌, ℕ, Bool, true, false, List, [], ◌∷◌, ◌++◌, ◌≤◌, length, take, drop}
use Rattle.std.specs.Prelude.{◌==◌, if◌then◌else◌, Option, Some, None}
use Rattle.std.specs.Borrow.{Bor}
use Rattle.session_keeping.specs.Heading.{ended}
use Rattle.session_keeping.specs.Lines.{typed_mark}

-- the whole lines of a text, each without its end; of the first this is there before the text
abbrev pub lines_from : List ℕ → List ℕ → List (List ℕ)
lines_from begun [] = []
lines_from begun (b ∷ bs) = if b == 10 then begun ∷ lines_from [] bs else lines_from (begun ++ b ∷ []) bs

abbrev pub kept_lines : List ℕ → List (List ℕ)
kept_lines text = lines_from [] text

-- the text of lines
abbrev pub text_of : List (List ℕ) → List ℕ
text_of [] = []
text_of (line ∷ lines) = ended line ++ text_of lines

-- the first line was cut from a text; or it has no whole line
abbrev pub CutsLine : List ℕ → Option (Bor (List ℕ) × Bor (List ℕ)) → Type 0
CutsLine text (Some cut) = (text ≡ cut.0.now ++ 10 ∷ cut.1.now) × (kept_lines text ≡ cut.0.now ∷ kept_lines cut.1.now)
CutsLine text None = kept_lines text ≡ []

-- a line has this mark
abbrev pub has_mark : ℕ → List ℕ → Bool
has_mark mark [] = false
has_mark mark (b ∷ bs) = b == mark

-- the mark of a line that was not taken for want of memory, alone on the line after it: !
abbrev pub passed_mark : ℕ
passed_mark = 0x21

abbrev pub passed_line : List ℕ
passed_line = passed_mark ∷ 10 ∷ []

-- that mark stands before any other line that was typed
abbrev pub is_passed : List (List ℕ) → Bool
is_passed [] = false
is_passed (line ∷ lines) =
    if has_mark passed_mark line then true else (if has_mark typed_mark line then false else is_passed lines)

-- The lines that were taken, and what the story was given for them: each line is left out after which that mark
-- stands, and the mark.
abbrev pub taken_lines : List (List ℕ) → List (List ℕ)
taken_lines [] = []
taken_lines (line ∷ lines) =
    if has_mark passed_mark line then taken_lines lines
    else (if is_passed lines then taken_lines lines else line ∷ taken_lines lines)

abbrev pub taken_text : List ℕ → List ℕ
taken_text kept = text_of (taken_lines (kept_lines kept))

-- what was taken in all, if the line that was typed last begins at a place of the text, and these lines follow
abbrev pub aside_text : ℕ → List ℕ → List (List ℕ) → List ℕ
aside_text aside text lines =
    take aside text ++ ((if is_passed lines then [] else drop aside text) ++ text_of (taken_lines lines))

-- A line was added to the text of those that were taken, or the line that was typed last was dropped with what
-- follows it: that line begins at a place of the text before, and at another after.
pub record IsAside (line : List ℕ) (aside : ℕ) (before after : List ℕ) (begins : ℕ) : Type 0 where
  pub within : begins ≤ length after
  pub same : (lines : List (List ℕ)) → aside_text aside before (line ∷ lines) ≡ aside_text begins after lines
