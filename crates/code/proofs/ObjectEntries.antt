-- The words of the entry of an object that was written.
use Rattle.std.proofs.Common.{◌≡◌, ◌<◌, ◌+◌, ◌*◌, ℕ, zero, suc, List, [], ◌∷◌, ◌++◌, length, slice_index_or, refl, ap}
use Rattle.std.proofs.Common.{◌∙◌, arith, subst}
use Rattle.std.specs.Prelude.{map, take}
use Rattle.std.specs.List.{flat_map}
use Rattle.std.proofs.lemmas.List.{length-append}
use Rattle.ztext.specs.Bytes.{word_at}
use Rattle.ztext.specs.Text.{Holds}
use Rattle.ztext.proofs.Holding.{holds_append}
use Rattle.tables.specs.Rows.{word}
use Rattle.code.proofs.Listed.{word_held}
use Rattle.meaning.specs.Objects.{ObjectOf, no_object}
use Rattle.meaning.specs.Places.{machine_character}
use Rattle.code.specs.Rows.{RowOf, row_of, rows_from, table_of, entry_bytes, entries_bytes}
use Rattle.code.specs.Tables.{table_bytes, PropertyTable}

-- the property table of an object
abbrev pub table_for : ObjectOf → PropertyTable
table_for x = record { name = map machine_character x.name; properties = x.properties }

-- Rows and objects, side by side

length_entry : (row : RowOf) (place : ℕ) → length row.attributes ≡ 6 → length (entry_bytes row place) ≡ 14
length_entry row place is =
    let a = is in
    simp (length-append {A = ℕ}) (omega arith)

module _ (all : List ObjectOf) where
  pub same_tables : (o : ℕ) (xs : List ObjectOf) → map table_of (rows_from all o xs) ≡ map table_for xs
  same_tables o [] = refl
  same_tables o (x ∷ xs) = ap (λ ts. table_for x ∷ ts) (same_tables (suc o) xs)

  pub same_count : (o : ℕ) (xs : List ObjectOf) → length (rows_from all o xs) ≡ length xs
  same_count o [] = refl
  same_count o (x ∷ xs) = ap suc (same_count (suc o) xs)

  pub length_entries : (o place : ℕ) (xs : List ObjectOf)
      → length (entries_bytes place (rows_from all o xs)) ≡ 14 * length xs
  length_entries o place [] = refl
  length_entries o place (x ∷ xs) =
      let row = row_of all o x in
      let next : ℕ = place + length (table_bytes (table_for x)) in
      let a = length-append (entry_bytes row place) (entries_bytes next (rows_from all (suc o) xs)) in
      let b = length_entry row place refl in
      let c = length_entries (suc o) next xs in
      omega (arith, a, b, c)

-- What the words of an entry are

pub record EntryIs (story : List ℕ) (at : ℕ) (row : RowOf) (place : ℕ) : Type 0 where
  pub attributes : Holds story at row.attributes
  pub parent : word_at story (at + 6) ≡ row.parent
  pub sibling : word_at story (at + 8) ≡ row.sibling
  pub child : word_at story (at + 10) ≡ row.child
  pub properties : word_at story (at + 12) ≡ place

entry_read : (story : List ℕ) (at : ℕ) (row : RowOf) (place : ℕ) → length row.attributes ≡ 6
    → Holds story at (entry_bytes row place) → EntryIs story at row place
entry_read story at row place is held =
    let a : List ℕ = row.attributes in
    let one : length a ≡ 6 = is in
    let two : length (a ++ word row.parent) ≡ 8 = length-append a (word row.parent) ∙ omega arith in
    let three : length (a ++ word row.parent ++ word row.sibling)
    ≡ 10 = length-append (a ++ word row.parent) (word row.sibling) ∙ omega arith in
    let four : length (a ++ word row.parent ++ word row.sibling ++ word row.child)
    ≡ 12 = length-append (a ++ word row.parent ++ word row.sibling) (word row.child) ∙ omega arith in
    let p4 = holds_append story at (a ++ word row.parent ++ word row.sibling ++ word row.child) (word place) held in
    let p3 = holds_append story at (a ++ word row.parent ++ word row.sibling) (word row.child) p4.0 in
    let p2 = holds_append story at (a ++ word row.parent) (word row.sibling) p3.0 in
    let p1 = holds_append story at a (word row.parent) p2.0 in
    record {
      attributes = p1.0;
      parent = word_held story (at + 6) row.parent (subst (λ n. Holds story (at + n) (word row.parent)) one p1.1);
      sibling = word_held story (at + 8) row.sibling (subst (λ n. Holds story (at + n) (word row.sibling)) two p2.1);
      child = word_held story (at + 10) row.child (subst (λ n. Holds story (at + n) (word row.child)) three p3.1);
      properties = word_held story (at + 12) place (subst (λ n. Holds story (at + n) (word place)) four p4.1);
    }

-- the entry of the object at an index
pub entry_at : (story : List ℕ) (all : List ObjectOf) (o at place : ℕ) (xs : List ObjectOf) (k : ℕ)
    → Holds story at (entries_bytes place (rows_from all o xs)) → k < length xs
    → EntryIs story (at + 14 * k) (row_of all (o + k) (slice_index_or xs k no_object))
    (place + length (flat_map table_bytes (take k (map table_for xs))))
entry_at story all o at place [] k held lt = absurd (omega arith)
entry_at story all o at place (x ∷ xs) zero held lt =
    let row = row_of all o x in
    let rest : List ℕ = entries_bytes (place + length (table_bytes (table_for x))) (rows_from all (suc o) xs) in
    let read = entry_read story at row place refl (holds_append story at (entry_bytes row place) rest held).0 in
    let a : at ≡ at + 14 * 0 = omega arith in
    let b : o ≡ o + 0 = omega arith in
    let c : place ≡ place + 0 = omega arith in
    subst (λ n. EntryIs story (at + 14 * 0) (row_of all (o + 0) x) n) c
    (subst (λ n. EntryIs story (at + 14 * 0) (row_of all n x) place) b
    (subst (λ n. EntryIs story n (row_of all o x) place) a read))
entry_at story all o at place (x ∷ xs) (suc k) held lt =
    let row = row_of all o x in
    let table : List ℕ = table_bytes (table_for x) in
    let rest : List ℕ = entries_bytes (place + length table) (rows_from all (suc o) xs) in
    let parts = holds_append story at (entry_bytes row place) rest held in
    let later : Holds story (at + 14) rest =
    subst (λ n. Holds story (at + n) rest) (length_entry row place refl) parts.1 in
    let read = entry_at story all (suc o) (at + 14) (place + length table) xs k later (omega arith) in
    let a : at + 14 + 14 * k ≡ at + 14 * suc k = omega arith in
    let b : suc o + k ≡ o + suc k = omega arith in
    let before : List ℕ = flat_map table_bytes (take k (map table_for xs)) in
    let long = length-append table before in
    let c : place + length table + length before ≡ place + length (table ++ before) = omega (arith, long) in
    let y : ObjectOf = slice_index_or xs k no_object in
    subst (λ n. EntryIs story (at + 14 * suc k) (row_of all (o + suc k) y) n) c
    (subst (λ n. EntryIs story (at + 14 * suc k) (row_of all n y) (place + length table + length before)) b
    (subst (λ n. EntryIs story n (row_of all (suc o + k) y) (place + length table + length before)) a read))
