-- The rows of the upper window, as a screen shows them: those of the status text.
use Rattle.std.specs.Prelude.{ℕ, ◌==◌, if◌then◌else◌, List, [], ◌∷◌, ◌++◌}
use Rattle.std.specs.Str.Lossy.{utf8_lossy}
use Rattle.serde_json.specs.Data.{Data, array, string}
use Rattle.serde_json.specs.View.{items_of}

-- In a row, what is not UTF-8 is U+FFFD.
abbrev pub row_data : List ℕ → Data
row_data row = string (utf8_lossy row)

-- a last row without its end counts if it is not empty
abbrev pub last_row : List ℕ → List Data
last_row [] = []
last_row (b ∷ bs) = row_data (b ∷ bs) ∷ []

-- the rows of a text, where this is there of the first
abbrev pub rows_from : List ℕ → List ℕ → List Data
rows_from row [] = last_row row
rows_from row (b ∷ bs) = if b == 10 then row_data row ∷ rows_from [] bs else rows_from (row ++ b ∷ []) bs

abbrev pub window_data : List ℕ → Data
window_data text = array (items_of (rows_from [] text))
