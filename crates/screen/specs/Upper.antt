-- The upper window, or the status line: the first rows of the terminal, in reverse video. Its text has its rows in
-- order, with new lines between.
use Rattle.std.specs.Prelude.{ℕ, zero, suc, ◌+◌, ◌-◌, ◌==◌, ◌&&◌, nat_le, nat_lt, min, not, Bool, if◌then◌else◌}
use Rattle.std.specs.Prelude.{List, [], ◌∷◌, ◌++◌, take, drop, length, replicate}
use Rattle.std.specs.List.{count_by, prefix_len}
use Rattle.screen.specs.Sequences.{carriage_return, to_row, upper_begun, upper_ended}
use Rattle.screen.specs.Shown.{new_line}

abbrev pub is_new_line : ℕ → Bool
is_new_line byte = byte == new_line

abbrev pub is_in_line : ℕ → Bool
is_in_line byte = not (is_new_line byte)

-- how many rows a text has
abbrev pub row_count : List ℕ → ℕ
row_count text = if length text == 0 then 0 else count_by is_new_line text + 1

-- How many rows the upper window has at most on a terminal of so many: four are left for the story, with the one that is
-- blank.
abbrev pub most_rows : ℕ → ℕ
most_rows rows = rows - 4

abbrev pub height : ℕ → List ℕ → ℕ
height rows text = min (most_rows rows) (row_count text)

abbrev pub first_line : List ℕ → List ℕ
first_line text = take (prefix_len is_in_line text) text

abbrev pub later_lines : List ℕ → List ℕ
later_lines text = drop (prefix_len is_in_line text + 1) text

-- a byte of a character of UTF-8 after its first
abbrev pub is_continuing : ℕ → Bool
is_continuing byte = nat_le 0x80 byte && nat_lt byte 0xC0

-- the columns that a byte takes: one for the first of each character
abbrev pub width : ℕ → ℕ
width byte = if is_continuing byte then 0 else 1

-- the characters of a line for which there is room
unfoldable pub fitting : ℕ → List ℕ → List ℕ
fitting room [] = []
fitting room (byte ∷ bytes) = if nat_le (width byte) room then byte ∷ fitting (room - width byte) bytes else []

-- a row: blanks, and over them what fits of its line
abbrev pub row : ℕ → ℕ → List ℕ → List ℕ
row columns at line = to_row at ++ (replicate columns 32 ++ carriage_return ∷ fitting columns line)

-- so many rows of a text, from one on
unfoldable pub rows_from : ℕ → ℕ → ℕ → List ℕ → List ℕ
rows_from columns at zero text = []
rows_from columns at (suc count) text =
    row columns at (first_line text) ++ rows_from columns (at + 1) count (later_lines text)

abbrev pub upper : ℕ → ℕ → List ℕ → List ℕ
upper columns count text = upper_begun ++ (rows_from columns 1 count text ++ upper_ended)
