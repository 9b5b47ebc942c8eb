-- What a text is as the map of a story: the rows of its lines, or why it is refused.
use Rattle.std.specs.Prelude.{◌≡◌, ◌⊎◌, ◌==◌, ◌&&◌, ◌+◌, ◌-◌, ◌^◌, ℕ, List, [], ◌∷◌, ◌++◌, map, drop, length, nat_eq}
use Rattle.std.specs.Prelude.{nat_lt, nat_le, if◌then◌else◌, Option, Some, None, Result, Ok, Err, codes}
use Rattle.std.specs.List.{after_first, before_first, list_all, position_or_len, slice_split, starts_with}
use Rattle.std.specs.Int.Digits.{number_from_digits}
use Rattle.std.specs.Str.{all_ascii_digits}
use Rattle.std.specs.Str.Parse.{digits_value, without_leading_plus}
use Rattle.std.specs.Global.{Vec}
use Rattle.map_text.specs.declared.row.Row.{Row}
use Rattle.map_text.specs.declared.fault.MapFault.{MapFault}
use Rattle.map_text.specs.declared.fault.MapFault.TheVariants.{Line, Memory, NoMap, OtherStory}
use Rattle.map_text.specs.Text.{RowOf, line_feed, row_of, space}

-- the place of the first divider, the length where there is none
abbrev pub place : ℕ → List ℕ → ℕ
place divider bytes = position_or_len (λ b. b == divider) bytes

-- what is before it, all bytes where there is none
abbrev pub before : ℕ → List ℕ → List ℕ
before divider bytes = before_first (λ b. b == divider) bytes

-- what is after it, nothing where there is none
abbrev pub after : ℕ → List ℕ → List ℕ
after divider bytes = after_first (λ b. b == divider) bytes

-- the number of a hexadecimal digit, which is 0 to 9 or A to F; 16 for another byte
abbrev pub digit_value : ℕ → ℕ
digit_value b =
    if nat_le 48 b && nat_le b 57 then b - 48 else if nat_le 65 b && nat_le b 70 then b - 55 else 16

-- the address of five digits of these numbers
abbrev pub address_of : List ℕ → Option ℕ
address_of digits =
    if length digits == 5 && list_all (λ d. nat_lt d 16) digits then Some (number_from_digits 16 digits) else None

abbrev pub address_in : List ℕ → Option ℕ
address_in bytes = address_of (map digit_value bytes)

-- the number of these decimal digits, if there is one and it is below 2 ^ 64
abbrev pub numeral : List ℕ → Option ℕ
numeral bytes =
    if nat_lt 0 (length bytes) && all_ascii_digits bytes && nat_lt (digits_value 10 bytes) (2 ^ 64)
    then Some (digits_value 10 bytes)
    else None

-- a plus may be before them
abbrev pub number_in : List ℕ → Option ℕ
number_in bytes = numeral (without_leading_plus bytes)

abbrev pub made_row : Option ℕ → List ℕ → Option ℕ → Option RowOf
made_row (Some a) name (Some l) = Some (record { address = a; routine = name; line = l })
made_row _ name _ = None

-- The row that a line is: an address up to the first space, the name of a routine up to the second, and a number.
abbrev pub row_in : List ℕ → Option RowOf
row_in line =
    made_row (address_in (before space line)) (before space (after space line))
    (number_in (after space (after space line)))

-- a row, if its address is not below the least
abbrev pub not_below : ℕ → Option RowOf → Option RowOf
not_below least None = None
not_below least (Some r) = if nat_lt r.address least then None else Some r

-- rows, and then others
abbrev pub then_rows : List RowOf → Result (List RowOf) MapFault → Result (List RowOf) MapFault
then_rows rows (Ok others) = Ok (rows ++ others)
then_rows rows (Err fault) = Err fault

-- the row of the line of this number, and then what follows an address; a line that has none is at fault
abbrev pub from_row : ℕ → Option RowOf → (ℕ → Result (List RowOf) MapFault) → Result (List RowOf) MapFault
from_row number None follow = Err (Line number)
from_row number (Some r) follow = then_rows (r ∷ []) (follow r.address)

-- The rows of a text that is cut at its line feeds. The first part is the line of this number. Each part is a row, and
-- its address is not below that of the row before it. The last part is what follows the last line feed: nothing.
abbrev pub rows_from : ℕ → ℕ → List (List ℕ) → Result (List RowOf) MapFault
rows_from number least [] = Ok []
rows_from number least (part ∷ parts) =
    if length parts == 0 then (if length part == 0 then Ok [] else Err (Line number))
    else from_row number (not_below least (row_in part)) (λ address. rows_from (number + 1) address parts)

abbrev pub cut_lines : List ℕ → List (List ℕ)
cut_lines text = slice_split (λ b. b == line_feed) text

-- the rows after the two lines of a heading
abbrev pub rows_in : List ℕ → Result (List RowOf) MapFault
rows_in text = rows_from 3 0 (cut_lines text)

-- the line with which every map begins
abbrev pub first_line : List ℕ
first_line = codes "inform map 1" ++ line_feed ∷ []

-- the map with this heading: it begins with that, or with the heading of another story, or is none
abbrev pub map_in : List ℕ → List ℕ → Result (List RowOf) MapFault
map_in heading text =
    if starts_with nat_eq text heading then rows_in (drop (length heading) text)
    else if starts_with nat_eq text first_line then Err OtherStory else Err NoMap

-- what is answered: this, or that memory was refused
abbrev pub Gives : Result (Vec Row) MapFault → Result (List RowOf) MapFault → Type 0
Gives (Ok found) expected = expected ≡ Ok (map row_of found.items)
Gives (Err fault) expected = (fault ≡ Memory) ⊎ (expected ≡ Err fault)

-- what becomes of rows to which a line adds this row, if there is memory
abbrev pub AddsRow : {E : Type 0} → Result (Option ℕ) E → List RowOf → List RowOf → Option RowOf → Type 0
AddsRow (Ok None) old new found = found ≡ None
AddsRow (Ok (Some address)) old new found =
    (r : RowOf) × (found ≡ Some r) × (address ≡ r.address) × (new ≡ old ++ r ∷ [])
AddsRow (Err e) old new found = Unit {0}
