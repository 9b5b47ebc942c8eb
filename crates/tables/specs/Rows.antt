-- Object tables as they are written (Z-Machine Standards Document 1.1, section 12).
use Rattle.std.specs.Prelude.{◌≡◌, ◌==◌, ◌+◌, ◌*◌, ◌/◌, ◌%◌, ◌<◌, ◌≤◌, ℕ, true, if◌then◌else◌, List, [], ◌∷◌, ◌++◌}
use Rattle.std.specs.Prelude.{length, slice_get, slice_index, Option, Some, None, Ok}
use Rattle.std.specs.Global.{Vec}
use Rattle.std.specs.List.{All, flat_map, list_all}
use Rattle.ztext.specs.Alphabets.{is_printable}
use Rattle.ztext.specs.Bytes.{word_at}
use Rattle.ztext.specs.Text.{encoded, decoded}
use Rattle.zcore.specs.Entries.{Parent, Sibling, Child, properties_place, is_set}
use Rattle.zcore.specs.Layout.{attribute_count, default_count, defaults_size, object_entry_size, readable_size}
use Rattle.tables.specs.declared.fault.TableFault.{TableFault}
use Rattle.tables.specs.declared.fault.TableFault.TheVariants.{NameTooLong, TooLarge, Memory}
use Rattle.tables.specs.declared.row.ObjectRow.{ObjectRow}
use Rattle.tables.specs.Objects.{link_of, attribute_of, property_of, property_count_of}

-- a property of a row: its number and its words
abbrev pub RowProperty : Type 0
RowProperty = ℕ × Vec ℕ

-- a word, its high byte first
abbrev pub word : ℕ → List ℕ
word w = (w / 256) ∷ (w % 256) ∷ []

-- one size byte before a property of one word, two before a longer one: 32 words are 64 bytes, which 0 tells (12.4.2)
abbrev pub sizes : ℕ → ℕ → List ℕ
sizes number words =
    if words == 1 then (64 + number) ∷ []
    else (128 + number) ∷ (128 + 2 * words % 64) ∷ []

abbrev pub property_bytes : RowProperty → List ℕ
property_bytes p = sizes p.0 (length p.1.items) ++ flat_map word p.1.items

-- the properties, and the zero byte behind them
abbrev pub list_bytes : List RowProperty → List ℕ
list_bytes [] = 0 ∷ []
list_bytes (p ∷ ps) = property_bytes p ++ list_bytes ps

-- the Z-text of a short name; an empty one has none
abbrev pub name_bytes : List ℕ → List ℕ
name_bytes [] = []
name_bytes (c ∷ cs) = encoded (c ∷ cs)

abbrev pub name_words : List ℕ → ℕ
name_words name = length (name_bytes name) / 2

-- a property table: the words of the short name, their number before them, and the properties (12.4)
abbrev pub table_bytes : ObjectRow → List ℕ
table_bytes row = name_words row.name.items ∷ (name_bytes row.name.items ++ list_bytes row.properties.items)

-- an entry, whose property table stands at an address (12.3)
abbrev pub entry_bytes : ObjectRow → ℕ → List ℕ
entry_bytes row at = row.attributes ++ word row.parent ++ word row.sibling ++ word row.child ++ word at

-- entries whose property tables stand one behind the other from an address on
abbrev pub entries_bytes : ℕ → List ObjectRow → List ℕ
entries_bytes at [] = []
entries_bytes at (row ∷ rows) = entry_bytes row at ++ entries_bytes (at + length (table_bytes row)) rows

-- a whole table at an address: the property defaults, the entries, the property tables
abbrev pub objects_bytes : List ObjectRow → List ℕ → ℕ → List ℕ
objects_bytes rows defaults at =
    flat_map word defaults ++ entries_bytes (at + defaults_size + object_entry_size * length rows) rows
    ++ flat_map table_bytes rows

-- how many bytes they are
abbrev pub objects_length : List ObjectRow → ℕ
objects_length rows = defaults_size + object_entry_size * length rows + length (flat_map table_bytes rows)

-- What can be written

pub record IsProperty (p : RowProperty) : Type 0 where
  pub low : 1 ≤ p.0
  pub high : p.0 ≤ default_count
  pub some : 1 ≤ length p.1.items
  pub few : length p.1.items ≤ 32

pub record IsRow (row : ObjectRow) : Type 0 where
  pub name : list_all is_printable row.name.items ≡ true
  pub properties : All IsProperty row.properties.items

-- a short name that its length byte can tell
abbrev pub HasShortName : ObjectRow → Type 0
HasShortName row = name_words row.name.items ≤ 255

-- why a short name is not written
abbrev pub RefusesName : List ℕ → TableFault → Type 0
RefusesName name NameTooLong = 255 < name_words name
RefusesName name TooLarge = ⊥
RefusesName name Memory = Unit {0}

-- why a table of rows is not written at an address
abbrev pub RefusesRows : List ObjectRow → ℕ → TableFault → Type 0
RefusesRows rows at NameTooLong =
    (i : ℕ) × (row : ObjectRow) × (slice_get rows i ≡ Some row) × (255 < name_words row.name.items)
RefusesRows rows at TooLarge = readable_size < at + objects_length rows
RefusesRows rows at Memory = Unit {0}

-- What is read of what was written

-- the data of the first property of a number
abbrev pub data_written : ℕ → List RowProperty → Option (List ℕ)
data_written number [] = None
data_written number (p ∷ ps) = if p.0 == number then Some (flat_map word p.1.items) else data_written number ps

-- the short name of a property table
abbrev pub ReadsName : List ℕ → ℕ → List ℕ → Type 0
ReadsName story properties [] = slice_index story properties ≡ 0
ReadsName story properties (c ∷ cs) =
    (slice_index story properties ≡ name_words (c ∷ cs))
    × (decoded story (properties + 1) ≡ Ok (c ∷ cs, properties + 1 + 2 * name_words (c ∷ cs)))

-- an object is read as its row says
pub record ReadsRow (story : List ℕ) (table object : ℕ) (row : ObjectRow) : Type 0 where
  pub parent : link_of story table (Parent object) ≡ Ok row.parent
  pub sibling : link_of story table (Sibling object) ≡ Ok row.sibling
  pub child : link_of story table (Child object) ≡ Ok row.child
  pub attributes : (a : ℕ) → a < attribute_count
      → attribute_of story table object a ≡ Ok (is_set (slice_index row.attributes (a / 8)) a)
  pub name : ReadsName story (word_at story (properties_place table object)) row.name.items
  pub properties : (number : ℕ)
      → property_of story table object number ≡ Ok (data_written number row.properties.items)
  pub count : property_count_of story table object ≡ Ok (length row.properties.items)

-- what a story reads where a table was written
pub record ReadsRows (story : List ℕ) (table : ℕ) (written : List ObjectRow) (words : List ℕ) : Type 0 where
  pub defaults : (i : ℕ) → i < default_count → word_at story (table + 2 * i) ≡ slice_index words i
  pub rows : (i : ℕ) (row : ObjectRow) → slice_get written i ≡ Some row → ReadsRow story table (i + 1) row
