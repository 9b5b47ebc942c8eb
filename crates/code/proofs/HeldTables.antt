-- Property tables that stand in memory one after another.
use Rattle.std.proofs.Common.{◌≡◌, ◌+◌, ◌-◌, ◌*◌, ◌≤◌, ◌<◌, ℕ, zero, suc, List, [], ◌∷◌, ◌++◌, length, slice_index}
use Rattle.std.proofs.Common.{slice_index_or, ◌∙◌, arith, subst, Some}
use Rattle.std.specs.Prelude.{take}
use Rattle.std.specs.List.{flat_map}
use Rattle.std.proofs.lemmas.List.{length-append}
use Rattle.std.proofs.lemmas.List.Folds.{length-flat_map-take}
use Rattle.std.proofs.lemmas.List.Elements.{All-get_or}
use Rattle.ztext.specs.Bytes.{word_at}
use Rattle.zcore.specs.Entries.{properties_place}
use Rattle.zcore.specs.Header.{defaults_of, static_base_of}
use Rattle.ztext.specs.Text.{Holds}
use Rattle.ztext.proofs.Holding.{holds_byte, holds_append}
use Rattle.tables.specs.Rows.{name_bytes, name_words}
use Rattle.code.proofs.Names.{name_even}
use Rattle.meaning.specs.Forests.{IsObjectNumber}
use Rattle.meaning.specs.Objects.{Objects, ObjectOf}
use Rattle.code.specs.Region.{HasObjects, HasTables, tables_base}
use Rattle.code.specs.Tables.{no_table, list_bytes, table_bytes, IsTable, table_at, table_place}
use Rattle.code.specs.Tables.{PropertyTable, list_place}
use Rattle.code.specs.TableLaws.{Placed}
use Rattle.code.proofs.PropertyLists.{stands, StandsListed}

-- the table of an index among those that stand from an address on
table_held : (memory : List ℕ) (at : ℕ) (tables : List PropertyTable) (k : ℕ) → k < length tables
    → Holds memory at (flat_map table_bytes tables)
    → Holds memory (at + length (flat_map table_bytes (take k tables)))
    (table_bytes (slice_index_or tables k no_table))
table_held memory at [] k lt held = absurd (omega arith)
table_held memory at (t ∷ ts) zero lt held =
    let here : at ≡ at + 0 = omega arith in
    subst (λ n. Holds memory n (table_bytes t)) here
    (holds_append memory at (table_bytes t) (flat_map table_bytes ts) held).0
table_held memory at (t ∷ ts) (suc k) lt held =
    let rest = (holds_append memory at (table_bytes t) (flat_map table_bytes ts) held).1 in
    let later = table_held memory (at + length (table_bytes t)) ts k (omega arith) rest in
    let long = length-append (table_bytes t) (flat_map table_bytes (take k ts)) in
    let there : at + length (table_bytes t) + length (flat_map table_bytes (take k ts))
    ≡ at + length (table_bytes t ++ flat_map table_bytes (take k ts)) = omega (arith, long) in
    subst (λ n. Holds memory n (table_bytes (slice_index_or ts k no_table))) there later

-- the table of an object, where its entry says
pub record Held (n : ℕ) (tables : List PropertyTable) (memory : List ℕ) (o : ℕ) : Type 0 where
  pub proper : IsTable (table_at tables o)
  pub place : word_at memory (properties_place (defaults_of memory) o)
      ≡ table_place (tables_base n memory) tables o
  pub above : tables_base n memory ≤ table_place (tables_base n memory) tables o
  pub count : slice_index memory (table_place (tables_base n memory) tables o)
      ≡ name_words ((table_at tables o).name)
  pub name : Holds memory (table_place (tables_base n memory) tables o + 1)
      (name_bytes ((table_at tables o).name))
  pub list : Holds memory (list_place (tables_base n memory) tables o)
      (list_bytes ((table_at tables o).properties))
  pub below : list_place (tables_base n memory) tables o + length (list_bytes ((table_at tables o).properties))
      ≤ static_base_of memory

pub held_table : (n : ℕ) (tables : List PropertyTable) (memory : List ℕ) (o : ℕ) → HasTables n tables memory
    → IsObjectNumber n o → Held n tables memory o
held_table n tables memory o has i =
    let low = i.low in
    let high = i.high in
    let count = has.count in
    let lt : o - 1 < length tables = omega arith in
    let t : PropertyTable = table_at tables o in
    let base : ℕ = tables_base n memory in
    let at : ℕ = table_place base tables o in
    let table = table_held memory base tables (o - 1) lt has.stand in
    let fits = length-flat_map-take table_bytes tables (o - 1) no_table lt in
    let first = holds_byte memory at (name_words t.name) (name_bytes t.name ++ list_bytes t.properties) table in
    let parts = holds_append memory (at + 1) (name_bytes t.name) (list_bytes t.properties) first.rest in
    let even = name_even t.name in
    let long = length-append (name_bytes t.name) (list_bytes t.properties) in
    let there : at + 1 + length (name_bytes t.name) ≡ at + 1 + 2 * name_words t.name = omega (arith, even) in
    let below = has.below in
    record {
      proper = All-get_or IsTable tables (o - 1) no_table lt has.proper;
      place = has.places o i;
      above = omega arith;
      count = first.here;
      name = parts.0;
      list = subst (λ k. Holds memory k (list_bytes t.properties)) there parts.1;
      below = omega (arith, below, fits, long, even);
    }

module _ (definitions : List ObjectOf) (defaults : List ℕ) (objects : Objects) (tables : List PropertyTable)
    (memory : List ℕ) (has : HasObjects definitions defaults objects tables memory) (o : ℕ)
    (i : IsObjectNumber (length definitions) o)
  where
    pub table : Held (length definitions) tables memory o
    table = held_table (length definitions) tables memory o has.listed i

    -- a property that the object provides
    pub provided : (q : ℕ) (ws : List ℕ) → objects.properties o q ≡ Some ws
        → StandsListed memory q (list_place (tables_base (length definitions) memory) tables o)
        ((table_at tables o).properties) ws
    provided q ws is =
        stands memory q ((table_at tables o).properties) ws
        (list_place (tables_base (length definitions) memory) tables o) table.proper.properties table.list
        (has.provided o q i ∙ is)

-- where the words of properties are

pub placed : (definitions : List ObjectOf) (defaults : List ℕ) (objects : Objects) (tables : List PropertyTable)
    (memory : List ℕ) → HasObjects definitions defaults objects tables memory
    → Placed definitions defaults objects tables memory
placed definitions defaults objects tables memory has = record {
  within = λ o q ws i is.
      let t = table definitions defaults objects tables memory has o i in
      let p = provided definitions defaults objects tables memory has o i q ws is in
      let start = has.entries.start in
      let some = p.some in
      let above = p.above in
      let below = p.below in
      let low = t.above in
      let end = t.below in
      (some, p.few, omega (arith, start, low, above), omega (arith, below, end));
}
