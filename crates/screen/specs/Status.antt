-- The status line of versions 1 to 3 on a screen of any width. A session tells it in 80 columns: a blank and the place, and
-- then the score and the number of moves, or the time (Z-Machine Standards Document 1.1, section 8.2).
use Rattle.std.specs.Prelude.{ℕ, ◌+◌, ◌-◌, ◌*◌, ◌==◌, ◌||◌, nat_eq, nat_le, nat_lt, min, not, Bool, if◌then◌else◌, List, [], ◌∷◌}
use Rattle.std.specs.Prelude.{◌++◌, codes, take, drop, length, replicate}
use Rattle.std.specs.List.{count_by, prefix_len, starts_with, suffix_len}
use Rattle.screen.specs.Upper.{first_line, fitting, is_in_line}

-- how the right half begins
abbrev pub begins_right : List ℕ → Bool
begins_right text = starts_with nat_eq text (codes "Score: ") || starts_with nat_eq text (codes "Time: ")

-- what begins so last in a text; `found` where nothing does
unfoldable pub right_after : List ℕ → List ℕ → List ℕ
right_after found [] = found
right_after found (byte ∷ bytes) = right_after (if begins_right (byte ∷ bytes) then byte ∷ bytes else found) bytes

-- the right half of the line: the name of a place may have such words, too
abbrev pub right_half : List ℕ → List ℕ
right_half line = right_after [] line

abbrev pub left_half : List ℕ → List ℕ
left_half line = take (length line - length (right_half line)) line

abbrev pub begins_character : ℕ → Bool
begins_character byte = nat_lt byte 0x80 || nat_le 0xC0 byte

-- the columns that a text takes, one for each character
abbrev pub columns_of : List ℕ → ℕ
columns_of text = count_by begins_character text

abbrev pub is_in_word : ℕ → Bool
is_in_word byte = not (byte == 32)

abbrev pub first_word : List ℕ → List ℕ
first_word text = take (prefix_len is_in_word text) text

abbrev pub last_word : List ℕ → List ℕ
last_word text = drop (length text - suffix_len is_in_word text) text

-- `5/17` of `Score: 5        Moves: 17`
abbrev pub score_and_moves : List ℕ → List ℕ
score_and_moves right = first_word (drop 7 right) ++ (47 ∷ last_word right)

-- the right half of a narrow screen, without words; of `Time: 14:05` it is `14:05`
abbrev pub brief : List ℕ → List ℕ
brief right = if starts_with nat_eq right (codes "Time: ") then last_word right else score_and_moves right

-- It takes no more than half of the columns, or is brief.
abbrev pub right_for : ℕ → List ℕ → List ℕ
right_for columns right = if nat_lt columns (2 * columns_of right) then brief right else right

-- the columns that are left for the place, with a blank after it
abbrev pub room : ℕ → List ℕ → ℕ
room columns right = columns - (columns_of right + 1)

-- how many blanks are between the halves: one at least
abbrev pub blanks : ℕ → List ℕ → List ℕ → ℕ
blanks columns left right = columns - columns_of right - min (columns_of left) (room columns right)

-- the place at the left, as far as there is room, and the right half at the right end
abbrev pub in_columns : ℕ → List ℕ → List ℕ → List ℕ
in_columns columns left right =
    fitting (room columns right) left ++ (replicate (blanks columns left right) 32 ++ right)

-- the line for so many columns, of which the last is blank; a line without a right half stays
abbrev pub status_line : ℕ → List ℕ → List ℕ
status_line columns line =
    if length (right_half line) == 0 then line
    else in_columns (columns - 1) (left_half line) (right_for (columns - 1) (right_half line))

-- the upper window, of which the first line is the status line
abbrev pub with_status_line : ℕ → List ℕ → List ℕ
with_status_line columns window =
    status_line columns (first_line window) ++ drop (prefix_len is_in_line window) window

-- the upper window that is drawn in so many columns, with such a status line or without
abbrev pub window_for : Bool → ℕ → List ℕ → List ℕ
window_for has_line columns window = if has_line then with_status_line columns window else window
