-- Property tables as they stand in memory (Z-Machine Standards Document 1.1, section 12.4).
use Rattle.std.specs.Prelude.{◌≡◌, ◌+◌, ◌-◌, ◌*◌, ◌≤◌, ◌==◌, ℕ, true, if◌then◌else◌, List, [], ◌∷◌, ◌++◌, length}
use Rattle.std.specs.Prelude.{take, slice_index_or}
use Rattle.std.specs.List.{All, flat_map, list_all}
use Rattle.ztext.specs.Alphabets.{is_printable}
use Rattle.zcore.specs.Layout.{default_count}
use Rattle.tables.specs.Rows.{word, sizes, name_bytes, name_words}

-- the characters of a short name, and properties, each by its number and its words
pub record PropertyTable : Type 0 where
  pub name : List ℕ
  pub properties : List (ℕ × List ℕ)

abbrev pub no_table : PropertyTable
no_table = record { name = []; properties = [] }

-- the size bytes before the words of a property
abbrev pub size_bytes : ℕ × List ℕ → List ℕ
size_bytes x = sizes x.0 (length x.1)

abbrev pub property_bytes : ℕ × List ℕ → List ℕ
property_bytes x = size_bytes x ++ flat_map word x.1

-- the properties, and the zero byte after them
abbrev pub list_bytes : List (ℕ × List ℕ) → List ℕ
list_bytes [] = 0 ∷ []
list_bytes (x ∷ xs) = property_bytes x ++ list_bytes xs

abbrev pub table_bytes : PropertyTable → List ℕ
table_bytes t = name_words t.name ∷ (name_bytes t.name ++ list_bytes t.properties)

-- what can stand in a table
pub record IsListed (x : ℕ × List ℕ) : Type 0 where
  pub low : 1 ≤ x.0
  pub high : x.0 ≤ default_count
  pub some : 1 ≤ length x.1
  pub few : length x.1 ≤ 32

pub record IsTable (t : PropertyTable) : Type 0 where
  pub name : list_all is_printable t.name ≡ true
  pub properties : All IsListed t.properties

-- Where tables stand that follow one another from an address on

-- the table of the object of a number
abbrev pub table_at : List PropertyTable → ℕ → PropertyTable
table_at tables o = slice_index_or tables (o - 1) no_table

abbrev pub table_place : ℕ → List PropertyTable → ℕ → ℕ
table_place base tables o = base + length (flat_map table_bytes (take (o - 1) tables))

-- where a property list begins in a table
abbrev pub list_place : ℕ → List PropertyTable → ℕ → ℕ
list_place base tables o = table_place base tables o + 1 + 2 * name_words ((table_at tables o).name)

-- the words of the first property of a number in a list that begins at an address
abbrev pub data_place : ℕ → ℕ → List (ℕ × List ℕ) → ℕ
data_place q at [] = 0
data_place q at (x ∷ xs) =
    if x.0 == q then at + length (size_bytes x) else data_place q (at + length (property_bytes x)) xs

-- the address of the words of an object's property
abbrev pub words_place : ℕ → List PropertyTable → ℕ → ℕ → ℕ
words_place base tables o q = data_place q (list_place base tables o) ((table_at tables o).properties)
