-- Control sequences of a terminal (ECMA-48, and the mode DECAWM of the VT100), and what is written without them.
use Rattle.std.specs.Prelude.{ℕ, zero, suc, ◌+◌, ◌/◌, ◌%◌, ◌==◌, ◌||◌, nat_le, Bool, true, false, if◌then◌else◌}
use Rattle.std.specs.Prelude.{List, [], ◌∷◌, ◌++◌}

abbrev pub escape : ℕ
escape = 27

abbrev pub carriage_return : ℕ
carriage_return = 13

-- a number below 1,000 in three decimal digits
abbrev pub digits : ℕ → List ℕ
digits number = (48 + number / 100) ∷ (48 + number / 10 % 10) ∷ (48 + number % 10) ∷ []

-- ESC, `[`, a number and a letter
abbrev pub sequence : ℕ → ℕ → List ℕ
sequence number letter = escape ∷ 91 ∷ (digits number ++ letter ∷ [])

-- the cursor goes to the beginning of a row (CUP)
abbrev pub to_row : ℕ → List ℕ
to_row row = sequence row 72

-- For no rows nothing is written, since terminals take 0 for 1.
abbrev pub counted : ℕ → ℕ → List ℕ
counted rows letter = if rows == 0 then [] else sequence rows letter

-- The cursor goes to the beginning of the row so many rows above the last one (CUP, CUU). A terminal of at most 255 rows
-- stops in its last one, whatever its number is.
abbrev pub above_last : ℕ → List ℕ
above_last rows = to_row 255 ++ counted rows 65

-- rows from the cursor on are deleted, and those below move up (DL)
abbrev pub deleted : ℕ → List ℕ
deleted rows = counted rows 77

-- blank rows are inserted at the cursor, and those from there on move down (IL)
abbrev pub inserted : ℕ → List ℕ
inserted rows = counted rows 76

-- the cursor goes down so many times; in the last row, all rows move up (IND)
abbrev pub fed : ℕ → List ℕ
fed zero = []
fed (suc rows) = escape ∷ 68 ∷ fed rows

-- Lines are not broken in the last column, by DECAWM, and what follows is in reverse video (SGR 7): so the upper window
-- begins, and nothing else does.
abbrev pub upper_begun : List ℕ
upper_begun = escape ∷ 91 ∷ 63 ∷ 55 ∷ 108 ∷ escape ∷ 91 ∷ 55 ∷ 109 ∷ []

abbrev pub upper_ended : List ℕ
upper_ended = escape ∷ 91 ∷ 109 ∷ escape ∷ 91 ∷ 63 ∷ 55 ∷ 104 ∷ []

-- Where a reader of what is written is: in a text, after ESC, or in the numbers of a sequence.
pub data Reading : Type 0 where
  in_text : Reading
  after_escape : Reading
  in_numbers : Reading

-- a sequence with this last letter begins the upper window, ends it, or does neither
abbrev pub is_upper_after : ℕ → Bool → Bool
is_upper_after letter is_upper = if letter == 108 then true else (if letter == 104 then false else is_upper)

-- What is left without sequences, carriage returns and the upper window.
unfoldable pub plain_from : Bool → Reading → List ℕ → List ℕ
plain_from is_upper reading [] = []
plain_from is_upper in_text (byte ∷ bytes) =
    if byte == escape then plain_from is_upper after_escape bytes
    else (if is_upper || (byte == carriage_return) then plain_from is_upper in_text bytes
    else byte ∷ plain_from is_upper in_text bytes)
plain_from is_upper after_escape (byte ∷ bytes) =
    if byte == 91 then plain_from is_upper in_numbers bytes else plain_from is_upper in_text bytes
plain_from is_upper in_numbers (byte ∷ bytes) =
    if nat_le 64 byte then plain_from (is_upper_after byte is_upper) in_text bytes
    else plain_from is_upper in_numbers bytes

abbrev pub plain : List ℕ → List ℕ
plain = plain_from false in_text
