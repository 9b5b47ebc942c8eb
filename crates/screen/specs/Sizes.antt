-- The size of a terminal.
use Rattle.std.specs.Prelude.{ℕ, ◌+◌, ◌-◌, ◌*◌, ◌==◌, ◌&&◌, nat_le, min, not, Bool, if◌then◌else◌, List, [], ◌∷◌}
use Rattle.std.specs.Prelude.{take, drop, length, Option, Some, None}
use Rattle.std.specs.List.{prefix_len}
use Rattle.std.specs.Option.{option_map}
use Rattle.screen.specs.declared.size.Size.{Size}
use Rattle.screen.specs.Status.{first_word, is_in_word}
use Rattle.screen.specs.Upper.{first_line, is_in_line}

-- from 20 to 255 columns and from 5 to 255 rows: a story draws in no column or row after 255
abbrev pub is_allowed : ℕ → ℕ → Bool
is_allowed columns rows = (nat_le 20 columns && nat_le columns 255) && (nat_le 5 rows && nat_le rows 255)

abbrev pub is_digit : ℕ → Bool
is_digit byte = nat_le 48 byte && nat_le byte 57

-- the number that decimal digits state after those of another, 1,000 for a greater one; nothing for other bytes
unfoldable pub number_after : ℕ → List ℕ → Option ℕ
number_after number [] = Some number
number_after number (byte ∷ bytes) =
    if is_digit byte then number_after (min (number * 10 + (byte - 48)) 1000) bytes else None

abbrev pub number_in : List ℕ → Option ℕ
number_in [] = None
number_in (byte ∷ bytes) = number_after 0 (byte ∷ bytes)

-- a size of so many columns and rows
abbrev pub sized : Option ℕ → Option ℕ → Option Size
sized (Some columns) (Some rows) =
    if is_allowed columns rows then Some (record { columns = columns; rows = rows }) else None
sized _ _ = None

abbrev pub is_before : ℕ → Bool
is_before byte = not (byte == 120)

-- the size that a text states, as `132x40`: a number of columns before the first `x` and one of rows after it
abbrev pub size_in : List ℕ → Option Size
size_in text = sized (number_in (take (prefix_len is_before text) text))
    (number_in (drop (prefix_len is_before text + 1) text))

-- more columns or rows than are allowed are as many as are
abbrev pub at_most : Option ℕ → Option ℕ
at_most = option_map (λ count. min count 255)

-- the size that `stty size` has written, as `40 132` and a new line: rows, a blank and columns
abbrev pub told_size : List ℕ → Option Size
told_size text =
    if prefix_len is_in_line text + 1 == length text
    then sized (at_most (number_in (drop (prefix_len is_in_word text + 1) (first_line text))))
    (at_most (number_in (first_word text)))
    else None
