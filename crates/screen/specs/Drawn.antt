-- What is drawn by the replies and by the answers to `/status`.
use Rattle.std.specs.Prelude.{◌≡◌, ℕ, ◌-◌, ◌==◌, ◌||◌, Bool, if◌then◌else◌, List, [], ◌∷◌, ◌++◌, take, length, ⊤}
use Rattle.std.specs.Prelude.{Option, Some, None, bytes_eq, codes}
use Rattle.std.specs.Io.KnownBytes.{Appends}
use Rattle.screen.specs.declared.size.Size.{Size}
use Rattle.terminal.specs.Broken.{IsBroken}
use Rattle.screen.specs.Marked.{unmarked}
use Rattle.screen.specs.Replies.{window_part}
use Rattle.screen.specs.Sequences.{plain}
use Rattle.screen.specs.Shown.{new_line, shown}

abbrev pub noted : List ℕ → List ℕ
noted text = text ++ new_line ∷ []

-- After the end of a story, and where there is no memory, the upper window stays as it is.
abbrev pub keeps_window : List ℕ → Bool
keeps_window answer =
    bytes_eq answer (noted (codes "[The story is over.]"))
    || bytes_eq answer (noted (codes "[No memory: line not taken.]"))

-- the rows in an answer, without the new line after them
abbrev pub rows_in : List ℕ → List ℕ
rows_in answer =
    if bytes_eq answer (noted (codes "[No status line.]")) || (length answer == 0) then []
    else take (length answer - 1) answer

-- the text of the upper window after one, by an answer
abbrev pub window_after : List ℕ → List ℕ → List ℕ
window_after before answer = if keeps_window answer then before else rows_in answer

-- a reply: its text, the lines that show it, and the answer to `/status` after it
pub record Reply : Type 0 where
  pub text : List ℕ
  pub lines : List ℕ
  pub answer : List ℕ

-- The replies are given with the latest first.

-- all that was written: by turns a text and an answer
abbrev pub written_of : List Reply → List ℕ
written_of [] = []
written_of (reply ∷ before) = written_of before ++ (reply.text ++ reply.answer)

abbrev pub lines_of : List Reply → List ℕ
lines_of [] = []
lines_of (reply ∷ before) = lines_of before ++ reply.lines

-- the text as it is shown, without marks, with some of its spaces replaced by new lines
abbrev pub AreLines : List ℕ → List ℕ → Type 0
AreLines text lines = IsBroken (shown (unmarked text)) lines

abbrev pub ShowTexts : List Reply → Type 0
ShowTexts [] = ⊤
ShowTexts (reply ∷ before) = AreLines reply.text reply.lines × ShowTexts before

-- What was written is these replies, and what is gathered and not drawn yet. What was drawn, without sequences and the
-- upper window, is their lines.
pub record DrewReplies (drawn written gathered : List ℕ) : Type 0 where
  pub replies : List Reply
  pub all : written ≡ written_of replies ++ gathered
  pub show : ShowTexts replies
  pub is_plain : (later : List ℕ) → plain (drawn ++ later) ≡ lines_of replies ++ plain later

-- The same where one more text was written, and is drawn but for its last line, the prompt: it is with the upper window
-- of any status and the prompt.
pub record DrewText (size : Size) (before : ℕ) (prompt drawn written gathered : List ℕ) : Type 0 where
  pub replies : List Reply
  pub text : List ℕ
  pub lines : List ℕ
  pub all : written ≡ written_of replies ++ (text ++ gathered)
  pub show : AreLines text lines × ShowTexts replies
  pub is_plain : (status later : List ℕ)
      → plain (drawn ++ (window_part size before (shown status) prompt ++ later))
      ≡ lines_of replies ++ (lines ++ plain later)

abbrev pub DrewSome : Size → ℕ → Option (List ℕ) → List ℕ → List ℕ → List ℕ → Type 0
DrewSome size before None drawn written gathered = DrewReplies drawn written gathered
DrewSome size before (Some prompt) drawn written gathered = DrewText size before prompt drawn written gathered

-- What was drawn is what another writer was given, which held something before and holds more after, and then what is
-- still to be passed on.
pub record Drew (size : Size) (before : ℕ) (prompt : Option (List ℕ)) (held_before held_after : Option (List ℕ))
    (left written gathered : List ℕ) : Type 0 where
  pub passed : List ℕ
  pub added : Appends held_before held_after passed
  pub drew : DrewSome size before prompt (passed ++ left) written gathered
