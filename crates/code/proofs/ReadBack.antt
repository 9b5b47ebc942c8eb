-- Object tables that were written are read back.
use Rattle.std.proofs.Common.{◌≡◌, ◌+◌, ◌*◌, ◌/◌, ◌%◌, ◌≤◌, ◌<◌, ℕ, zero, suc, nat_le, Bool, true, if◌then◌else◌, List}
use Rattle.std.proofs.Common.{[], ◌∷◌, ◌++◌, length, slice_index, Some, Ok, Err, refl, ap, sym, ◌∙◌, arith, subst}
use Rattle.std.specs.Prelude.{slice_get}
use Rattle.std.specs.List.{All, flat_map}
use Rattle.std.proofs.lemmas.Bool.{lt-ltb, le-leb, and_from}
use Rattle.std.proofs.lemmas.List.{length-append}
use Rattle.std.proofs.lemmas.List.Elements.{All-head, All-tail}
use Rattle.ztext.specs.Bytes.{word_at}
use Rattle.ztext.specs.Text.{Holds}
use Rattle.zcore.specs.Entries.{object_entry, has_entry, attribute_place, is_set}
use Rattle.zcore.specs.Properties.{list_start}
use Rattle.ztext.proofs.Holding.{holds_byte, holds_append}
use Rattle.tables.specs.declared.fault.TableRead.TheVariants.{Object, Outside}
use Rattle.tables.specs.declared.row.ObjectRow.{ObjectRow}
use Rattle.tables.specs.Objects.{property_from, count_from, start_at, start_of}
use Rattle.tables.specs.Rows.{word, list_bytes, name_bytes, name_words, table_bytes, entry_bytes, entries_bytes}
use Rattle.tables.specs.Rows.{objects_bytes, objects_length, IsRow, ReadsName, ReadsRow, ReadsRows}
use Rattle.code.proofs.Written.{byte_of}
use Rattle.code.proofs.Listed.{word_held, length_words, found_back, counted_back}
use Rattle.code.proofs.Names.{name_even, name_read}
use Rattle.code.proofs.TableSizes.{IsWhole}

-- Entries

length_entry : (row : ObjectRow) (place : ℕ) → length row.attributes ≡ 6 → length (entry_bytes row place) ≡ 14
length_entry row place is =
    let a = is in
    simp (length-append {A = ℕ}) (omega arith)

pub length_entries : (place : ℕ) (rows : List ObjectRow) → All IsWhole rows
    → length (entries_bytes place rows) ≡ 14 * length rows
length_entries place [] are = refl
length_entries place (row ∷ rows) are =
    length-append (entry_bytes row place) (entries_bytes (place + length (table_bytes row)) rows)
    ∙ (let a = length_entry row place (All-head IsWhole row rows are).attributes in
    let b = length_entries (place + length (table_bytes row)) rows (All-tail IsWhole row rows are) in omega arith)

-- a row's entry, and its property table where the entry says, below an end
record Held (story : List ℕ) (at end : ℕ) (row : ObjectRow) : Type 0 where
  place : ℕ
  is : IsRow row
  whole : IsWhole row
  entry : Holds story at (entry_bytes row place)
  table : Holds story place (table_bytes row)
  low : place + length (table_bytes row) ≤ end

row_held : (story : List ℕ) (at place end : ℕ) (rows : List ObjectRow) (i : ℕ) (row : ObjectRow) → All IsRow rows
    → All IsWhole rows → Holds story at (entries_bytes place rows)
    → Holds story place (flat_map table_bytes rows) → place + length (flat_map table_bytes rows) ≤ end
    → slice_get rows i ≡ Some row → Held story (at + 14 * i) end row
row_held story at place end [] i row are whole entries tables low is = absurd (cc)
row_held story at place end (r ∷ rs) zero row are whole entries tables low is =
    let same : r ≡ row = cc in
    let here : at ≡ at + 14 * 0 = omega arith in
    let e = holds_append story at (entry_bytes r place) (entries_bytes (place + length (table_bytes r)) rs) entries in
    let t = holds_append story place (table_bytes r) (flat_map table_bytes rs) tables in
    let long = length-append (table_bytes r) (flat_map table_bytes rs) in
    subst (Held story (at + 14 * 0) end) same
    (record {
      place = place;
      is = All-head IsRow r rs are;
      whole = All-head IsWhole r rs whole;
      entry = subst (λ k. Holds story k (entry_bytes r place)) here e.0;
      table = t.0;
      low = omega (arith, low, long);
    })
row_held story at place end (r ∷ rs) (suc i) row are whole entries tables low is =
    let e = holds_append story at (entry_bytes r place) (entries_bytes (place + length (table_bytes r)) rs) entries in
    let t = holds_append story place (table_bytes r) (flat_map table_bytes rs) tables in
    let long = length-append (table_bytes r) (flat_map table_bytes rs) in
    let next : at + length (entry_bytes r place)
    ≡ at + 14 = ap (λ n. at + n) (length_entry r place (All-head IsWhole r rs whole).attributes) in
    let there : at + 14 + 14 * i ≡ at + 14 * suc i = omega arith in
    subst (λ k. Held story k end row) there
    (row_held story (at + 14) (place + length (table_bytes r)) end rs i row (All-tail IsRow r rs are)
    (All-tail IsWhole r rs whole)
    (subst (λ k. Holds story k (entries_bytes (place + length (table_bytes r)) rs)) next e.1) t.1
    (omega (arith, low, long)) is)

-- What the words of an entry are

record Entry (story : List ℕ) (at : ℕ) (row : ObjectRow) (place : ℕ) : Type 0 where
  attributes : Holds story at row.attributes
  parent : word_at story (at + 6) ≡ row.parent
  sibling : word_at story (at + 8) ≡ row.sibling
  child : word_at story (at + 10) ≡ row.child
  properties : word_at story (at + 12) ≡ place
  inside : at + 14 ≤ length story

entry_read : (story : List ℕ) (at : ℕ) (row : ObjectRow) (place : ℕ) → length row.attributes ≡ 6
    → Holds story at (entry_bytes row place) → Entry story at row place
entry_read story at row place is held =
    let a : List ℕ = row.attributes in
    let six : length a ≡ 6 = is in
    let eight : length (a ++ word row.parent) ≡ 8 = length-append a (word row.parent) ∙ omega arith in
    let ten : length (a ++ word row.parent ++ word row.sibling)
    ≡ 10 = length-append (a ++ word row.parent) (word row.sibling) ∙ omega arith in
    let twelve : length (a ++ word row.parent ++ word row.sibling ++ word row.child)
    ≡ 12 = length-append (a ++ word row.parent ++ word row.sibling) (word row.child) ∙ omega arith in
    let p4 = holds_append story at (a ++ word row.parent ++ word row.sibling ++ word row.child) (word place) held in
    let p3 = holds_append story at (a ++ word row.parent ++ word row.sibling) (word row.child) p4.0 in
    let p2 = holds_append story at (a ++ word row.parent) (word row.sibling) p3.0 in
    let p1 = holds_append story at a (word row.parent) p2.0 in
    let last : Holds story (at + 12) (word place) = subst (λ n. Holds story (at + n) (word place)) twelve p4.1 in
    let first = holds_byte story (at + 12) (place / 256) (place % 256 ∷ []) last in
    let second = holds_byte story (at + 12 + 1) (place % 256) [] first.rest in
    record {
      attributes = p1.0;
      parent = word_held story (at + 6) row.parent (subst (λ n. Holds story (at + n) (word row.parent)) six p1.1);
      sibling = word_held story (at + 8) row.sibling
          (subst (λ n. Holds story (at + n) (word row.sibling)) eight p2.1);
      child = word_held story (at + 10) row.child (subst (λ n. Holds story (at + n) (word row.child)) ten p3.1);
      properties = word_held story (at + 12) place last;
      inside = omega (arith, second.within);
    }

-- Rows

-- a row whose entry stands in a story is read back
row_read : (story : List ℕ) (table i : ℕ) (row : ObjectRow) → Held story (object_entry table (i + 1)) 65536 row
    → ReadsRow story table (i + 1) row
row_read story table i row h =
    let at : ℕ = object_entry table (i + 1) in
    let f = entry_read story at row h.place h.whole.attributes h.entry in
    let object : has_entry table (length story) (i + 1)
    ≡ true = and_from (nat_le 1 (i + 1)) (nat_le (at + 14) (length story)) (le-leb 1 (i + 1) (omega arith))
    (le-leb (at + 14) (length story) f.inside) in
    let name = holds_byte story h.place (name_words row.name.items)
    (name_bytes row.name.items ++ list_bytes row.properties.items) h.table in
    let list = holds_append story (h.place + 1) (name_bytes row.name.items) (list_bytes row.properties.items)
    name.rest in
    let is_list : h.place + 1 + length (name_bytes row.name.items) ≡ list_start story h.place =
    ap (λ n. h.place + 1 + n) (sym (name_even row.name.items)) ∙ ap (λ n. h.place + 1 + 2 * n) (sym name.here) in
    let held = subst (λ k. Holds story k (list_bytes row.properties.items)) is_list list.1 in
    let start : start_of story table (i + 1) ≡ Ok (list_start story h.place) =
    ap (λ (b : Bool). if b then start_at story (word_at story (at + 12)) else Err Object) object
    ∙ ap (start_at story) f.properties
    ∙ ap (λ (b : Bool). if b then Ok (list_start story h.place) else Err Outside)
    (lt-ltb h.place (length story) name.within) in
    record {
      parent = ap (λ (b : Bool). if b then Ok (word_at story (at + 6)) else Err Object) object
          ∙ ap (λ w. Ok w) f.parent;
      sibling = ap (λ (b : Bool). if b then Ok (word_at story (at + 8)) else Err Object) object
          ∙ ap (λ w. Ok w) f.sibling;
      child = ap (λ (b : Bool). if b then Ok (word_at story (at + 10)) else Err Object) object
          ∙ ap (λ w. Ok w) f.child;
      attributes = λ a lt.
          ap (λ (b : Bool). if b then Ok (is_set (slice_index story (attribute_place table (i + 1) a)) a)
          else Err Object) object
          ∙ ap (λ byte. Ok (is_set byte a))
          (byte_of story at row.attributes (a / 8) f.attributes (omega (arith, lt, h.whole.attributes)));
      name = subst (λ p. ReadsName story p row.name.items) (sym f.properties)
          (name_read story h.place row.name.items h.is.name name.here list.0 (omega (arith, h.low, h.whole.short)));
      properties = λ number.
          ap (property_from story number) start
          ∙ found_back story number row.properties.items (list_start story h.place) (length story) h.is.properties
          held (omega arith);
      count = ap (count_from story) start
          ∙ counted_back story 0 row.properties.items (list_start story h.place) (length story) h.is.properties held
          (omega arith)
          ∙ (let z : 0 + length row.properties.items ≡ length row.properties.items = omega arith in
          ap (λ n. Ok n) z);
    }

words_held : (story : List ℕ) (at : ℕ) (ws : List ℕ) (i : ℕ) → Holds story at (flat_map word ws) → i < length ws
    → word_at story (at + 2 * i) ≡ slice_index ws i
words_held story at [] i h lt = absurd (omega (arith, lt))
words_held story at (w ∷ ws) zero h lt =
    let z : at + 2 * 0 ≡ at = omega arith in
    ap (word_at story) z ∙ word_held story at w (holds_append story at (word w) (flat_map word ws) h).0
words_held story at (w ∷ ws) (suc i) h lt =
    let z : at + 2 * suc i ≡ at + 2 + 2 * i = omega arith in
    ap (word_at story) z ∙ words_held story (at + 2) ws i (holds_append story at (word w) (flat_map word ws) h).1
    (omega (arith, lt))

pub rows_back : (story : List ℕ) (rows : List ObjectRow) (defaults : List ℕ) (at : ℕ) → All IsRow rows
    → All IsWhole rows → length defaults ≡ 63 → at + objects_length rows ≤ 65536
    → Holds story at (objects_bytes rows defaults at) → ReadsRows story at rows defaults
rows_back story rows defaults at are whole words fits held =
    let place : ℕ = at + 126 + 14 * length rows in
    let entries : List ℕ = entries_bytes place rows in
    let long : length (flat_map word defaults) ≡ 126 = length_words defaults ∙ omega arith in
    let all : length (flat_map word defaults ++ entries)
    ≡ 126 + 14 * length rows = length-append (flat_map word defaults) entries
    ∙ (let b = length_entries place rows whole in omega arith) in
    let two = holds_append story at (flat_map word defaults ++ entries) (flat_map table_bytes rows) held in
    let front = holds_append story at (flat_map word defaults) entries two.0 in
    let there : at + length (flat_map word defaults ++ entries) ≡ place = omega arith in
    record {
      defaults = λ i lt. words_held story at defaults i front.0 (omega (arith, lt, words));
      rows = λ i row is.
          let h = row_held story (at + 126) place 65536 rows i row are whole
          (subst (λ n. Holds story (at + n) entries) long front.1)
          (subst (λ k. Holds story k (flat_map table_bytes rows)) there two.1) (omega (arith, fits)) is in
          let at_entry : at + 126 + 14 * i ≡ object_entry at (i + 1) = omega arith in
          row_read story at i row (subst (λ k. Held story k 65536 row) at_entry h);
    }
