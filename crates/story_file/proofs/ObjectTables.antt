-- The object table of a program: how long it is, and that its rows can be written.
use Rattle.std.proofs.Common.{◌≡◌, ◌+◌, ◌*◌, ◌<◌, ◌≤◌, ◌==◌, ◌%◌, ℕ, zero, suc, Bool, true, false, if◌then◌else◌, List}
use Rattle.std.proofs.Common.{[], ◌∷◌, ◌++◌, length, slice_index_or, refl, ap, sym, ◌∙◌, arith, subst}
use Rattle.std.specs.Prelude.{map}
use Rattle.std.specs.List.{All, flat_map}
use Rattle.std.proofs.lemmas.List.{length-append, length-map, get_or-map}
use Rattle.tables.specs.declared.row.ObjectRow.{ObjectRow}
use Rattle.tables.specs.Rows.{word, sizes, name_bytes, IsRow, HasShortName}
use Rattle.tables.specs.Rows as written
use Rattle.code.proofs.Listed.{length_words}
use Rattle.code.proofs.Names.{name_even}
use Rattle.syntax_lexer.specs.Printable.{IsPrintable}
use Rattle.meaning.specs.Accepted.{IsObject}
use Rattle.meaning.specs.Objects.{ObjectOf, no_object, object_at}
use Rattle.meaning.specs.Places.{machine_character, name_words, property_size, table_size, objects_size, total}
use Rattle.meaning.specs.Places.{defaults_place, routines_place}
use Rattle.meaning.specs.declared.checked.CheckedObject.{CheckedObject}
use Rattle.meaning.specs.Resolved.{ProgramOf}
use Rattle.meaning.specs.Views.{CheckedProgram, object_of, program_of}
use Rattle.code.specs.TableLaws.{AreProper}
use Rattle.code.specs.Rows.{RowOf, view_of, row_of, rows_from, rows_of, table_of, entries_bytes}
use Rattle.code.specs.Rows.{tables_bytes, rows_length}
use Rattle.code.specs.Tables.{IsTable, IsListed, property_bytes, list_bytes, table_bytes}
use Rattle.code.proofs.ObjectEntries.{table_for, same_tables, same_count, length_entries}
use Rattle.code.proofs.Begins.{proper_table}
use Rattle.code.proofs.RowBytes.{written_length}
use Rattle.story_file.specs.Layout.{object_bytes}
use Rattle.zcore.specs.Layout.{greatest_word}

-- Lengths

-- the words of a name
words_same : (name : List ℕ) → written.name_words (map machine_character name) ≡ name_words name
words_same [] = refl
words_same (c ∷ cs) = refl

name_sized : (name : List ℕ) → length (name_bytes (map machine_character name)) ≡ 2 * name_words name
name_sized name = sym (name_even (map machine_character name)) ∙ ap (λ n. 2 * n) (words_same name)

abbrev head : Bool → ℕ → ℕ → List ℕ
head one number words =
    if one then (64 + number) ∷ []
    else (128 + number) ∷ (128 + 2 * words % 64) ∷ []

heads : (one : Bool) (number words : ℕ) → length (head one number words) ≡ (if one then 1 else 2)
heads true number words = refl
heads false number words = refl

property_sized : (x : ℕ × List ℕ) → length (property_bytes x) ≡ property_size x
property_sized x =
    omega (
      arith,
      length-append (sizes x.0 (length x.1)) (flat_map word x.1),
      heads (length x.1 == 1) x.0 (length x.1),
      length_words x.1,
    )

list_sized : (xs : List (ℕ × List ℕ)) → length (list_bytes xs) ≡ total (map property_size xs) + 1
list_sized [] = refl
list_sized (x ∷ xs) =
    omega (arith, length-append (property_bytes x) (list_bytes xs), property_sized x, list_sized xs)

table_sized : (o : ObjectOf) → length (table_bytes (table_for o)) ≡ table_size o
table_sized o =
    omega (
      arith,
      length-append (name_bytes (map machine_character o.name)) (list_bytes o.properties),
      name_sized o.name,
      list_sized o.properties,
    )

tables_sized : (os : List ObjectOf) → length (flat_map table_bytes (map table_for os)) ≡ total (map table_size os)
tables_sized [] = refl
tables_sized (o ∷ os) =
    omega (
      arith,
      length-append (table_bytes (table_for o)) (flat_map table_bytes (map table_for os)),
      table_sized o,
      tables_sized os,
    )

-- the table's length is what its place is reckoned with
pub rows_sized : (objects : List ObjectOf) → rows_length (rows_of objects) ≡ 126 + objects_size objects
rows_sized objects =
    omega (
      arith,
      same_count objects 1 objects,
      ap (λ ts. length (flat_map table_bytes ts)) (same_tables objects 1 objects),
      tables_sized objects,
    )

pub objects_length : (p : ProgramOf) → length p.defaults ≡ 63
    → length (object_bytes p) ≡ 126 + objects_size p.objects
objects_length p words =
    let rows : List RowOf = rows_of p.objects in
    let entries : List ℕ = entries_bytes (defaults_place p + 126 + 14 * length rows) rows in
    omega (
      arith,
      length-append (flat_map word p.defaults ++ entries) (tables_bytes rows),
      length-append (flat_map word p.defaults) entries,
      length_words p.defaults,
      length_entries p.objects 1 (defaults_place p + 126 + 14 * length rows) p.objects,
      same_count p.objects 1 p.objects,
      rows_sized p.objects,
      words,
    )

-- Rows that can be written

abbrev pair : written.RowProperty → ℕ × List ℕ
pair p = (p.0, p.1.items)

record RowFits (row : ObjectRow) : Type 0 where
  is : IsRow row
  short : HasShortName row

row_fits : (objects : List ObjectOf) (row : ObjectRow) (x : ObjectOf) (k : ℕ)
    → view_of row ≡ row_of objects (suc k) x → IsObject x k → All IsPrintable x.name → RowFits row
row_fits objects row x k e is printable =
    let t : IsTable (table_of (view_of row)) = subst (λ v. IsTable (table_of v)) (sym e)
    (proper_table x k is printable) in
    let words : written.name_words row.name.items ≡ name_words x.name =
    ap (λ (v : RowOf). written.name_words v.name) e ∙ words_same x.name in
    record {
      is = record {
        name = t.name;
        properties = λ j d lt.
            let within : j < length (map pair row.properties.items) =
            omega (arith, lt, length-map row.properties.items pair) in
            let there = get_or-map pair row.properties.items j d (pair d) lt in
            let listed : IsListed (pair (slice_index_or row.properties.items j d)) =
            subst IsListed there (t.properties j (pair d) within) in
            record { low = listed.low; high = listed.high; some = listed.some; few = listed.few };
      };
      short = omega (arith, words, is.name);
    }

-- the row of the object at an index
pub row_at : (objects : List ObjectOf) (o : ℕ) (xs : List ObjectOf) (k : ℕ) (d : RowOf) → k < length xs
    → slice_index_or (rows_from objects o xs) k d ≡ row_of objects (o + k) (slice_index_or xs k no_object)
row_at objects o [] k d lt = absurd (omega (arith, lt))
row_at objects o (x ∷ xs) zero d lt =
    let e : o ≡ o + 0 = omega arith in ap (λ n. row_of objects n x) e
row_at objects o (x ∷ xs) (suc k) d lt =
    let e : suc o + k ≡ o + suc k = omega arith in
    row_at objects (suc o) xs k d (omega (arith, lt)) ∙ ap (λ n. row_of objects n (slice_index_or xs k no_object)) e

module _ (objects : List ObjectOf) (proper : AreProper objects) (rows : List ObjectRow)
    (are : map view_of rows ≡ rows_of objects) where
  count : length rows ≡ length objects
  count = sym (length-map rows view_of) ∙ ap (λ rs. length rs) are ∙ same_count objects 1 objects

  each_fits : (k : ℕ) (d : ObjectRow) → k < length rows → RowFits (slice_index_or rows k d)
  each_fits k d lt =
      let within : k < length objects = omega (arith, lt, count) in
      let next : k + 1 ≡ suc k = omega arith in
      let number : 1 + k ≡ suc k = omega arith in
      let row : view_of (slice_index_or rows k d) ≡ row_of objects (suc k) (object_at objects (suc k)) =
      sym (get_or-map view_of rows k d (view_of d) lt) ∙ ap (λ rs. slice_index_or rs k (view_of d)) are
      ∙ row_at objects 1 objects k (view_of d) within
      ∙ ap (λ n. row_of objects n (object_at objects (suc k))) number in
      row_fits objects (slice_index_or rows k d) (object_at objects (suc k)) k row
      (subst (λ n. IsObject (object_at objects n) k) next (proper.each k within)) (proper.names k no_object within)

  pub are_rows : All IsRow rows
  are_rows k d lt = (each_fits k d lt).is

  pub have_short_names : All HasShortName rows
  have_short_names k d lt = (each_fits k d lt).short

pub rows_are : (c : CheckedProgram) (given rows : List ObjectRow) (objects : List CheckedObject) → given ≡ rows
    → map view_of rows ≡ rows_of (map object_of objects) → objects ≡ c.objects
    → map view_of given ≡ rows_of (program_of c).objects
rows_are c given rows objects e is o = ap (map view_of) e ∙ is ∙ ap (λ os. rows_of (map object_of os)) o

-- the table ends below the routines
pub rows_end : (p : ProgramOf) (rows : List ObjectRow) (at : ℕ) → map view_of rows ≡ rows_of p.objects
    → at ≡ defaults_place p → routines_place p ≤ greatest_word → at + written.objects_length rows ≤ 65536
rows_end p rows at are here placed =
    omega (
      arith,
      here,
      placed,
      written_length rows,
      ap (λ rs. rows_length rs) are,
      rows_sized p.objects,
    )
