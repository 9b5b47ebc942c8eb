-- The text of a map: two lines that say of which story it is, and a line for each row.
use Rattle.std.specs.Prelude.{◌≡◌, ◌+◌, ◌*◌, ◌/◌, ◌%◌, ◌^◌, ◌<◌, ◌≤◌, ℕ, List, [], ◌∷◌, ◌++◌, map, ⊤}
use Rattle.std.specs.Prelude.{Result, Ok, Err}
use Rattle.std.specs.List.{All}
use Rattle.std.specs.Global.{Vec}
use Rattle.std.specs.Fmt.{decimal}
use Rattle.map_text.specs.declared.row.Row.{Row}
use Rattle.map_text.specs.declared.fault.MapFault.{MapFault}
use Rattle.map_text.specs.declared.fault.MapFault.TheVariants.{Memory}

-- where code of a line begins, the name of its routine, and the line
pub record RowOf : Type 0 where
  pub address : ℕ
  pub routine : List ℕ
  pub line : ℕ

abbrev pub row_of : Row → RowOf
row_of r = record { address = r.address; routine = r.routine.now; line = r.line }

abbrev pub space : ℕ
space = 32

abbrev pub line_feed : ℕ
line_feed = 10

-- the byte of a hexadecimal digit, 0 to 9 or A to F: seven bytes are between 9 and A
abbrev pub digit : ℕ → ℕ
digit n = 48 + n + 7 * (n / 10)

-- an address has five digits
abbrev pub address_text : ℕ → List ℕ
address_text a =
    digit (a / 65536 % 16) ∷ digit (a / 4096 % 16) ∷ digit (a / 256 % 16) ∷ digit (a / 16 % 16) ∷ digit (a % 16) ∷ []

-- a row, without the end of its line
abbrev pub row_text : RowOf → List ℕ
row_text r = address_text r.address ++ space ∷ r.routine ++ space ∷ decimal r.line

abbrev pub rows_text : List RowOf → List ℕ
rows_text [] = []
rows_text (r ∷ rs) = row_text r ++ line_feed ∷ rows_text rs

-- a row that can be written: five digits are enough, and no byte of the name divides the parts of a line or lines
pub record IsRow (r : RowOf) : Type 0 where
  pub low : r.address < 2 ^ 20
  pub named : All (λ b. space < b) r.routine
  pub word : r.line < 2 ^ 64

abbrev pub AreRows : List RowOf → Type 0
AreRows rs = All IsRow rs

-- the addresses ascend, from one on
abbrev pub Ascend : ℕ → List RowOf → Type 0
Ascend least [] = ⊤
Ascend least (r ∷ rs) = (least ≤ r.address) × Ascend r.address rs

-- what is read of lines that are these rows
abbrev pub GivesRows : Result (Vec Row) MapFault → List RowOf → Type 0
GivesRows (Ok found) rs = map row_of found.items ≡ rs
GivesRows (Err fault) rs = fault ≡ Memory
