-- The entries of a session's file, and what they say.
use Rattle.std.specs.Prelude.{◌≡◌, ℕ, ◌+◌, Bool, true, false, not, List, [], ◌∷◌, ◌++◌, ◌==◌, ◌&&◌, if◌then◌else◌, ⊤}
use Rattle.base64.specs.GeneralPurpose.{IsBytes}
use Rattle.session_keeping.specs.Answers.{Told, answer_text}
use Rattle.session_keeping.specs.Heading.{ended}
use Rattle.session_keeping.specs.Kept.{passed_mark, text_of}
use Rattle.session_keeping.specs.Lines.{answer_mark, typed_mark}

-- a line that was typed, what the story was given for it, or that it was not taken
pub data Entry : Type 0 where
  typed : List ℕ → Entry
  given : List ℕ → Entry
  passed : Entry

-- the text of entries, each a line with its mark
abbrev pub entry_line : Entry → List ℕ
entry_line (typed line) = typed_mark ∷ line
entry_line (given bytes) = answer_mark ∷ answer_text bytes
entry_line passed = passed_mark ∷ []

abbrev pub entry_lines : List Entry → List (List ℕ)
entry_lines [] = []
entry_lines (entry ∷ entries) = entry_line entry ∷ entry_lines entries

abbrev pub kept_of : List Entry → List ℕ
kept_of entries = text_of (entry_lines entries)

-- lines have no end within them, and what is given is bytes
abbrev pub lacks : ℕ → List ℕ → Bool
lacks byte [] = true
lacks byte (b ∷ bs) = not (b == byte) && lacks byte bs

abbrev pub IsEntry : Entry → Type 0
IsEntry (typed line) = lacks 10 line ≡ true
IsEntry (given bytes) = IsBytes bytes
IsEntry passed = ⊤

abbrev pub AreEntries : List Entry → Type 0
AreEntries [] = ⊤
AreEntries (entry ∷ entries) = IsEntry entry × AreEntries entries

-- the entries of the lines that were taken
abbrev pub is_left_out : List Entry → Bool
is_left_out [] = false
is_left_out (typed line ∷ entries) = false
is_left_out (given bytes ∷ entries) = is_left_out entries
is_left_out (passed ∷ entries) = true

abbrev pub taken : List Entry → List Entry
taken [] = []
taken (typed line ∷ entries) = if is_left_out entries then taken entries else typed line ∷ taken entries
taken (given bytes ∷ entries) = if is_left_out entries then taken entries else given bytes ∷ taken entries
taken (passed ∷ entries) = taken entries

-- what was typed in them, and what was given for it, after so many lines
abbrev pub typed_of : List Entry → List ℕ
typed_of [] = []
typed_of (typed line ∷ entries) = ended line ++ typed_of entries
typed_of (given bytes ∷ entries) = typed_of entries
typed_of (passed ∷ entries) = typed_of entries

abbrev pub given_after : ℕ → List Entry → List Told
given_after lines [] = []
given_after lines (typed line ∷ entries) = given_after (lines + 1) entries
given_after lines (given bytes ∷ entries) = record { line = lines; given = bytes } ∷ given_after lines entries
given_after lines (passed ∷ entries) = given_after lines entries
