-- What is written for a reply. The prompt is in the last row but one, so that the line end that the user types moves
-- nothing; no mode of the terminal is left changed while the user types, so that a player that is killed leaves it in
-- order.
use Rattle.std.specs.Prelude.{◌≡◌, ℕ, ◌+◌, ◌-◌, max, List, ◌∷◌, ◌++◌, take, drop, length}
use Rattle.std.specs.List.{suffix_len}
use Rattle.terminal.specs.Broken.{IsBroken}
use Rattle.screen.specs.declared.size.Size.{Size}
use Rattle.screen.specs.Sequences.{above_last, carriage_return, deleted, fed, inserted, plain, to_row}
use Rattle.screen.specs.Marked.{styles_in, unmarked}
use Rattle.screen.specs.Shown.{shown}
use Rattle.machine_picture.specs.Marks.{marked}
use Rattle.screen.specs.Upper.{height, is_in_line, upper}

-- where the last line of a text begins
abbrev pub last_line_at : List ℕ → ℕ
last_line_at text = length text - suffix_len is_in_line text

abbrev pub lines_before : List ℕ → List ℕ
lines_before text = take (last_line_at text) text

abbrev pub last_line : List ℕ → List ℕ
last_line text = drop (last_line_at text) text

-- Without the rows of the upper window, those of the text are a whole screen, and what leaves it at the top goes where
-- a terminal keeps such rows. The cursor goes to the row after the user's line.
abbrev pub upper_removed : ℕ → List ℕ
upper_removed before = to_row 1 ++ (deleted before ++ above_last before)

-- The last line of the text is moved up, to be in the last row but one when there is room for the upper window.
abbrev pub room_made : ℕ → List ℕ
room_made rows = fed (rows + 1) ++ (to_row 1 ++ inserted rows)

-- the last line of a text, where the user types
abbrev pub prompted : List ℕ → List ℕ
prompted prompt = above_last 1 ++ carriage_return ∷ prompt

-- the text of a reply with the styles of its bytes, but for its last line, where the upper window had `before` rows
abbrev pub text_part : ℕ → List ℕ → List ℕ → List ℕ
text_part before text each = upper_removed before ++ marked (lines_before text) (take (last_line_at text) each)

-- and that line
abbrev pub prompt_part : List ℕ → List ℕ → List ℕ
prompt_part text each = marked (last_line text) (drop (last_line_at text) each)

-- the upper window of so many rows, where it had `before`, and the last line of the text
abbrev pub drawn : Size → ℕ → ℕ → List ℕ → List ℕ → List ℕ
drawn size before rows status prompt =
    room_made (max before rows) ++ (upper size.columns rows status ++ prompted prompt)

abbrev pub window_part : Size → ℕ → List ℕ → List ℕ → List ℕ
window_part size before status prompt = drawn size before (height size.rows status) status prompt

-- After the last one the cursor is in the row that is blank.
abbrev pub ended : List ℕ
ended = above_last 0

-- The text of a reply, which may have marks of styles, was added but for its last line, the prompt. With the upper window
-- of any status and the prompt after it, without sequences and that window, it is the text as it is shown, but for marks
-- and line breaks.
pub record AddsText (size : Size) (before : ℕ) (text old new prompt : List ℕ) : Type 0 where
  pub broken : List ℕ
  pub kept : IsBroken (shown (unmarked text)) broken
  pub added : new ≡ old ++ text_part before broken (styles_in text)
  pub last : prompt ≡ prompt_part broken (styles_in text)
  pub is_plain : (status later : List ℕ)
      → plain (text_part before broken (styles_in text) ++ (window_part size before (shown status) prompt ++ later))
      ≡ broken ++ plain later
