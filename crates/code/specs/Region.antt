-- The objects of a running source in the memory of a story that runs: entries with their links and attributes, and
-- after them the property tables, one after another (Z-Machine Standards Document 1.1, section 12).
use Rattle.std.specs.Prelude.{◌≡◌, ◌+◌, ◌-◌, ◌*◌, ◌<◌, ◌≤◌, ℕ, List, length, map, drop, slice_index, option_map}
use Rattle.std.specs.List.{All, flat_map}
use Rattle.ztext.specs.Bytes.{word_at}
use Rattle.zcore.specs.Entries.{properties_place, attribute_place, is_set}
use Rattle.zcore.specs.Header.{defaults_of, static_base_of}
use Rattle.zcore.specs.Layout.{attribute_count, default_count, defaults_size, header_size, object_entry_size}
use Rattle.ztext.specs.Text.{Holds}
use Rattle.meaning.specs.Forests.{IsForest, IsObjectNumber}
use Rattle.meaning.specs.Objects.{Objects, ObjectOf, object_at, words_in}
use Rattle.meaning.specs.Places.{machine_character}
use Rattle.code.specs.Links.{links_of, HoldsTree}
use Rattle.code.specs.Tables.{table_bytes, IsTable, table_at, table_place, PropertyTable}

-- property defaults and so many entries lie in dynamic memory
pub record HasEntries (n : ℕ) (memory : List ℕ) : Type 0 where
  pub start : header_size ≤ defaults_of memory
  pub below : defaults_of memory + defaults_size + object_entry_size * n ≤ static_base_of memory
  pub inside : static_base_of memory ≤ length memory
  pub low : static_base_of memory ≤ 65535

-- the property tables of so many objects stand after their entries
abbrev pub tables_base : ℕ → List ℕ → ℕ
tables_base n memory = defaults_of memory + defaults_size + object_entry_size * n

pub record HasTables (n : ℕ) (tables : List PropertyTable) (memory : List ℕ) : Type 0 where
  pub count : length tables ≡ n
  pub proper : All IsTable tables
  pub below : tables_base n memory + length (flat_map table_bytes tables) ≤ static_base_of memory
  pub stand : Holds memory (tables_base n memory) (flat_map table_bytes tables)
  pub places : (o : ℕ) → IsObjectNumber n o
      → word_at memory (properties_place (defaults_of memory) o) ≡ table_place (tables_base n memory) tables o

-- memory holds objects, of which these are the definitions, with these defaults of properties; what a table holds is in
-- `tables`
pub record HasObjects (definitions : List ObjectOf) (defaults : List ℕ) (objects : Objects)
    (tables : List PropertyTable)
    (memory : List ℕ) : Type 0
  where
    pub entries : HasEntries (length definitions) memory
    pub forest : IsForest (length definitions) objects.tree
    pub links : HoldsTree (length definitions) objects.tree (links_of memory)
    pub attributes : (o a : ℕ) → IsObjectNumber (length definitions) o → a < attribute_count
        → is_set (slice_index memory (attribute_place (defaults_of memory) o a)) a ≡ objects.attributes o a
    pub defaults_there : (q : ℕ) → 1 ≤ q → q ≤ default_count
        → word_at memory (defaults_of memory + 2 * (q - 1)) ≡ slice_index defaults (q - 1)
    pub listed : HasTables (length definitions) tables memory
    pub provided : (o q : ℕ) → IsObjectNumber (length definitions) o
        → words_in q ((table_at tables o).properties) ≡ objects.properties o q
    pub names : (o : ℕ) → IsObjectNumber (length definitions) o
        → (table_at tables o).name ≡ map machine_character ((object_at definitions o).name)
    -- a property has as many words as it was defined with
    pub shaped : (o q : ℕ) → IsObjectNumber (length definitions) o
        → option_map length (objects.properties o q) ≡ option_map length (words_in q (object_at definitions o).properties)

-- bytes in the region of objects may differ, and no others
pub record KeepsRest (old new : List ℕ) : Type 0 where
  pub size : length new ≡ length old
  pub before : (q : ℕ) → q < defaults_of old → slice_index new q ≡ slice_index old q
  pub after : drop (static_base_of old) new ≡ drop (static_base_of old) old

-- bytes below the region of objects may differ, after the header, and no others
pub record KeepsRegion (old new : List ℕ) : Type 0 where
  pub size : length new ≡ length old
  pub header : (q : ℕ) → q < header_size → slice_index new q ≡ slice_index old q
  pub above : (q : ℕ) → defaults_of old ≤ q → q < static_base_of old → slice_index new q ≡ slice_index old q
