-- The rows of an object table with which the objects of a source begin, and their bytes (Z-Machine Standards Document
-- 1.1, section 12).
use Rattle.std.specs.Prelude.{◌+◌, ◌*◌, ◌==◌, ℕ, suc, if◌then◌else◌, List, [], ◌∷◌, ◌++◌, map, length}
use Rattle.std.specs.List.{list_any, flat_map}
use Rattle.tables.specs.declared.row.ObjectRow.{ObjectRow}
use Rattle.tables.specs.Rows.{word}
use Rattle.syntax_trees.specs.declared.tree.Relative.TheVariants as relatives
use Rattle.zcore.specs.Layout.{defaults_size, object_entry_size}
use Rattle.meaning.specs.Objects.{ObjectOf, relative_in, first_objects}
use Rattle.meaning.specs.Places.{machine_character}
use Rattle.code.specs.Tables.{table_bytes, PropertyTable}

-- a row, without where it lies in memory
pub record RowOf : Type 0 where
  pub attributes : List ℕ
  pub parent : ℕ
  pub sibling : ℕ
  pub child : ℕ
  pub name : List ℕ
  pub properties : List (ℕ × List ℕ)

abbrev pub view_of : ObjectRow → RowOf
view_of row = record {
  attributes = row.attributes;
  parent = row.parent;
  sibling = row.sibling;
  child = row.child;
  name = row.name.items;
  properties = map (λ p. (p.0, p.1.items)) row.properties.items;
}

-- Attributes as bits, attribute 0 the top bit of the first byte (12.3.2)

abbrev pub flag : List ℕ → ℕ → ℕ
flag attributes a = if list_any (λ b. b == a) attributes then 1 else 0

-- the byte of the eight attributes from one on
abbrev pub attribute_byte : List ℕ → ℕ → ℕ
attribute_byte attributes a =
    128 * flag attributes a + 64 * flag attributes (a + 1) + 32 * flag attributes (a + 2) + 16 * flag attributes (a + 3)
    + 8 * flag attributes (a + 4) + 4 * flag attributes (a + 5) + 2 * flag attributes (a + 6) + flag attributes (a + 7)

abbrev pub attribute_bytes : List ℕ → List ℕ
attribute_bytes attributes = map (attribute_byte attributes) (0 ∷ 8 ∷ 16 ∷ 24 ∷ 32 ∷ 40 ∷ [])

-- the row of an object of this number
abbrev pub row_of : List ObjectOf → ℕ → ObjectOf → RowOf
row_of objects o x = record {
  attributes = attribute_bytes x.attributes;
  parent = x.parent;
  sibling = relative_in relatives.Sibling o ((first_objects objects).tree);
  child = relative_in relatives.Child o ((first_objects objects).tree);
  name = map machine_character x.name;
  properties = x.properties;
}

-- the rows of objects, of which the first has this number
abbrev pub rows_from : List ObjectOf → ℕ → List ObjectOf → List RowOf
rows_from objects o [] = []
rows_from objects o (x ∷ xs) = row_of objects o x ∷ rows_from objects (suc o) xs

abbrev pub rows_of : List ObjectOf → List RowOf
rows_of objects = rows_from objects 1 objects

-- The bytes of rows

abbrev pub table_of : RowOf → PropertyTable
table_of row = record { name = row.name; properties = row.properties }

-- an entry, whose property table stands at an address (12.3)
abbrev pub entry_bytes : RowOf → ℕ → List ℕ
entry_bytes row at = row.attributes ++ word row.parent ++ word row.sibling ++ word row.child ++ word at

-- entries whose property tables stand one after the other from an address on
abbrev pub entries_bytes : ℕ → List RowOf → List ℕ
entries_bytes at [] = []
entries_bytes at (row ∷ rows) = entry_bytes row at ++ entries_bytes (at + length (table_bytes (table_of row))) rows

abbrev pub tables_bytes : List RowOf → List ℕ
tables_bytes rows = flat_map table_bytes (map table_of rows)

-- a whole table at an address: the property defaults, the entries, the property tables
abbrev pub rows_bytes : List RowOf → List ℕ → ℕ → List ℕ
rows_bytes rows defaults at =
    flat_map word defaults
    ++ entries_bytes (at + defaults_size + object_entry_size * length rows) rows ++ tables_bytes rows

-- how many bytes they are
abbrev pub rows_length : List RowOf → ℕ
rows_length rows = defaults_size + object_entry_size * length rows + length (tables_bytes rows)
