-- An object table that was written holds the objects with which a source begins.
use Rattle.std.proofs.Common.{◌≡◌, ◌==◌, ◌||◌, ◌≤◌, ◌<◌, ◌+◌, ◌-◌, ◌*◌, ◌/◌, ℕ, suc, nat_le, Bool, true, false}
use Rattle.std.proofs.Common.{if◌then◌else◌, List, [], ◌∷◌, ◌++◌, length, refl, ap, sym, ◌∙◌, arith, subst, inl, inr}
use Rattle.std.specs.Prelude.{map, take}
use Rattle.std.specs.List.{All, flat_map, list_all}
use Rattle.std.proofs.lemmas.Bool.{cases_eq, le-leb, and_from}
use Rattle.std.proofs.lemmas.List.{length-append, length-map, get_or-map}
use Rattle.std.proofs.lemmas.List.Elements.{All-head, All-tail}
use Rattle.ztext.specs.Alphabets.{is_printable}
use Rattle.ztext.specs.Text.{Holds}
use Rattle.ztext.proofs.Holding.{holds_append}
use Rattle.zcore.specs.Entries.{object_entry, is_set}
use Rattle.zcore.specs.Header.{defaults_of, static_base_of}
use Rattle.tables.specs.Rows.{word}
use Rattle.code.proofs.Listed.{length_words}
use Rattle.code.proofs.Written.{byte_of}
use Rattle.syntax_lexer.specs.Printable.{IsPrintable}
use Rattle.meaning.specs.Accepted.{IsObject}
use Rattle.meaning.specs.Forests.{IsObjectNumber}
use Rattle.meaning.specs.Objects.{ObjectOf, no_object, object_at, first_objects, words_in}
use Rattle.meaning.specs.Places.{machine_character}
use Rattle.meaning.proofs.ObjectLists.{if_same, if_other}
use Rattle.meaning.proofs.FirstForest.{first_forest}
use Rattle.code.specs.TableLaws.{AreProper, HoldsRows}
use Rattle.code.specs.Links.{links_of}
use Rattle.code.specs.Region.{HasEntries, HasTables, HasObjects, tables_base}
use Rattle.code.specs.Rows.{row_of, rows_of, attribute_bytes, entries_bytes, tables_bytes}
use Rattle.code.specs.Tables.{no_table, table_bytes, IsTable, table_at, table_place, PropertyTable}
use Rattle.code.proofs.TableFlags.{flags_are}
use Rattle.code.proofs.PropertyActs.{word_among}
use Rattle.code.proofs.TableReading.{told_tree}
use Rattle.code.proofs.ObjectEntries.{table_for, same_tables, same_count, length_entries, EntryIs}
use Rattle.code.proofs.ObjectEntries.{entry_at}

-- Tables that can stand

printable_name : (name : List ℕ) → All IsPrintable name → list_all is_printable (map machine_character name) ≡ true
printable_name [] are = refl
printable_name (c ∷ cs) are =
    and_from (is_printable (machine_character c)) (list_all is_printable (map machine_character cs))
    (shown c (All-head IsPrintable c cs are)) (printable_name cs (All-tail IsPrintable c cs are))
  where
    or_true : (t : Bool) → (t || true) ≡ true
    or_true true = refl
    or_true false = refl

    plain : (b : ℕ) → IsPrintable b → is_printable b ≡ true
    plain b is =
        ap (λ (t : Bool). b == 13 || t) (and_from (nat_le 32 b) (nat_le b 126) (le-leb 32 b is.0) (le-leb b 126 is.1))
        ∙ or_true (b == 13)

    -- a new line and a double quote can be printed too
    shown : (b : ℕ) → IsPrintable b → is_printable (machine_character b) ≡ true
    shown b is = elim (cases_eq b 94) [
      | inl e ↦ ap is_printable (if_same b 94 13 (if b == 126 then 34 else b) e)
      | inr other ↦ elim (cases_eq b 126) [
        | inl e ↦ ap is_printable (if_other b 94 13 (if b == 126 then 34 else b) other ∙ if_same b 126 34 b e)
        | inr last ↦
            ap is_printable (if_other b 94 13 (if b == 126 then 34 else b) other ∙ if_other b 126 34 b last)
            ∙ plain b is
      ]
    ]

pub proper_table : (x : ObjectOf) (k : ℕ) → IsObject x k → All IsPrintable x.name → IsTable (table_for x)
proper_table x k is printable = record {
  name = printable_name x.name printable;
  properties = λ j d lt.
      let a = is.numbers j d lt in
      let b = is.words j d lt in
      record { low = a.0; high = a.1; some = b.0; few = b.1 };
}

-- All together

module _ (story : List ℕ) (definitions : List ObjectOf) (defaults : List ℕ) (proper : AreProper definitions)
    (words : length defaults ≡ 63) (holds : HoldsRows story definitions defaults)
    (inside : static_base_of story ≤ length story) (end : static_base_of story ≤ 65535)
  where
    abbrev n : ℕ
    n = length definitions

    abbrev tables : List PropertyTable
    tables = map table_for definitions

    abbrev base : ℕ
    base = tables_base n story

    abbrev entries : List ℕ
    entries = entries_bytes (defaults_of story + 126 + 14 * length (rows_of definitions)) (rows_of definitions)

    count : length (rows_of definitions) ≡ n
    count = same_count definitions 1 definitions

    bytes : tables_bytes (rows_of definitions) ≡ flat_map table_bytes tables
    bytes = ap (flat_map table_bytes) (same_tables definitions 1 definitions)

    front : length (flat_map word defaults) ≡ 126
    front = length_words defaults ∙ omega (arith, words)

    whole : length (flat_map word defaults ++ entries) ≡ 126 + 14 * n
    whole =
        let a = length-append (flat_map word defaults) entries in
        let b = length_entries definitions 1
        (defaults_of story + 126 + 14 * length (rows_of definitions)) definitions in
        omega (arith, a, b, front)

    two : Holds story (defaults_of story) (flat_map word defaults ++ entries)
        × Holds story (defaults_of story + length (flat_map word defaults ++ entries))
        (tables_bytes (rows_of definitions))
    two = holds_append story (defaults_of story) (flat_map word defaults ++ entries)
        (tables_bytes (rows_of definitions)) holds.stand

    parts : Holds story (defaults_of story) (flat_map word defaults)
        × Holds story (defaults_of story + length (flat_map word defaults)) entries
    parts = holds_append story (defaults_of story) (flat_map word defaults) entries two.0

    -- the entry of an object
    entry : (o : ℕ) → IsObjectNumber n o
        → EntryIs story (object_entry (defaults_of story) o) (row_of definitions o (object_at definitions o))
        (table_place (tables_base n story) tables o)
    entry o i =
        let low = i.low in
        let high = i.high in
        let next : suc (o - 1) ≡ o = omega arith in
        let start : defaults_of story + 126 + 14 * length (rows_of definitions) ≡ base = omega (arith, count) in
        let there : Holds story (defaults_of story + 126) entries =
        subst (λ m. Holds story (defaults_of story + m) entries) front parts.1 in
        let read = entry_at story definitions 1 (defaults_of story + 126)
        (defaults_of story + 126 + 14 * length (rows_of definitions)) definitions (o - 1) there (omega arith) in
        let a : 1 + (o - 1) ≡ o = omega arith in
        let before : List ℕ = flat_map table_bytes (take (o - 1) tables) in
        let x : object_at definitions (suc (o - 1)) ≡ object_at definitions o = ap (object_at definitions) next in
        subst (λ y. EntryIs story (object_entry (defaults_of story) o) (row_of definitions o y)
        (tables_base n story + length before)) x
        (subst (λ m. EntryIs story (object_entry (defaults_of story) o)
        (row_of definitions m (object_at definitions (suc (o - 1)))) (tables_base n story + length before)) a
        (subst (λ m. EntryIs story (object_entry (defaults_of story) o)
        (row_of definitions (1 + (o - 1)) (object_at definitions (suc (o - 1)))) (m + length before)) start read))

    -- its table
    table_is : (o : ℕ) → IsObjectNumber n o → table_at tables o ≡ table_for (object_at definitions o)
    table_is o i =
        let low = i.low in
        let high = i.high in
        let next : suc (o - 1) ≡ o = omega arith in
        get_or-map table_for definitions (o - 1) no_object no_table (omega arith)
        ∙ ap (λ m. table_for (object_at definitions m)) next

    -- each parent stands earlier
    earlier : (k : ℕ) → k < n → (object_at definitions (suc k)).parent ≤ k
    earlier k lt =
        let next : k + 1 ≡ suc k = omega arith in
        subst (λ m. (object_at definitions m).parent ≤ k) next (proper.each k lt).parent

    below : tables_base n story + length (flat_map table_bytes tables) ≤ static_base_of story
    below =
        let a = holds.below in
        let b = ap (λ l. length l) bytes in
        omega (arith, a, b, count)

    has_entries : HasEntries n story
    has_entries =
        let a = below in
        record { start = holds.above; below = omega (arith, a); inside = inside; low = end }

    has_tables : HasTables n tables story
    has_tables =
        let there : defaults_of story + length (flat_map word defaults ++ entries)
        ≡ tables_base n story = omega (arith, whole) in
        record {
          count = length-map definitions table_for;
          proper = λ k d lt.
              let within : k < n = omega (arith, lt, length-map definitions table_for) in
              let next : k + 1 ≡ suc k = omega arith in
              let is : IsObject (object_at definitions (suc k)) k =
              subst (λ m. IsObject (object_at definitions m) k) next (proper.each k within) in
              subst IsTable (sym (get_or-map table_for definitions k no_object d within))
              (proper_table (object_at definitions (suc k)) k is (proper.names k no_object within));
          below = below;
          stand = subst (λ l. Holds story (tables_base n story) l) bytes
              (subst (λ m. Holds story m (tables_bytes (rows_of definitions))) there two.1);
          places = λ o i. (entry o i).properties;
        }

    pub has_objects : HasObjects definitions defaults (first_objects definitions) tables story
    has_objects = record {
      entries = has_entries;
      forest = first_forest definitions earlier;
      links = told_tree n ((first_objects definitions).tree) (links_of story) (first_forest definitions earlier)
          (λ o i. (entry o i).parent) (λ o i. (entry o i).child) (λ o i. (entry o i).sibling);
      attributes = λ o a i lt.
          let xs : List ℕ = (object_at definitions o).attributes in
          ap (λ b. is_set b a)
          (byte_of story (object_entry (defaults_of story) o) (attribute_bytes xs) (a / 8) (entry o i).attributes
          (omega (arith, lt)))
          ∙ flags_are xs a lt;
      defaults_there = λ q low high.
          word_among story (defaults_of story) defaults (q - 1) parts.0 (omega (arith, words, low, high));
      listed = has_tables;
      provided = λ o q i. ap (λ t. words_in q t.properties) (table_is o i);
      names = λ o i. ap (λ t. t.name) (table_is o i);
      shaped = λ o q i. refl;
    }

pub begins : (story : List ℕ) (definitions : List ObjectOf) (defaults : List ℕ) → AreProper definitions
    → length defaults ≡ 63 → All (λ w. w < 65536) defaults → HoldsRows story definitions defaults
    → static_base_of story ≤ length story → static_base_of story ≤ 65535
    → (tables : List PropertyTable) × HasObjects definitions defaults (first_objects definitions) tables story
begins story definitions defaults proper words small holds inside end =
    (map table_for definitions, has_objects story definitions defaults proper words holds inside end)
