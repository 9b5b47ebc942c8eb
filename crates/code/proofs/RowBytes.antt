-- The bytes of rows, as they are written and as the objects of a source say them.
use Rattle.std.proofs.Common.{◌≡◌, ◌+◌, ◌*◌, ℕ, suc, List, [], ◌∷◌, ◌++◌, length, refl, ap, ◌∙◌}
use Rattle.std.specs.Prelude.{map}
use Rattle.std.specs.List.{flat_map}
use Rattle.tables.specs.declared.row.ObjectRow.{ObjectRow}
use Rattle.tables.specs.Rows as written
use Rattle.tables.specs.Rows.{word, name_words, name_bytes}
use Rattle.code.specs.Rows.{view_of, table_of, entry_bytes, entries_bytes, tables_bytes, rows_bytes}
use Rattle.code.specs.Rows.{rows_length}
use Rattle.code.specs.Tables.{list_bytes, table_bytes}

same_list : (ps : List written.RowProperty) → written.list_bytes ps ≡ list_bytes (map (λ p. (p.0, p.1.items)) ps)
same_list [] = refl
same_list (p ∷ ps) = ap (λ l. written.property_bytes p ++ l) (same_list ps)

same_table : (row : ObjectRow) → written.table_bytes row ≡ table_bytes (table_of (view_of row))
same_table row =
    ap (λ l. name_words row.name.items ∷ (name_bytes row.name.items ++ l)) (same_list row.properties.items)

same_tables : (rows : List ObjectRow) → flat_map written.table_bytes rows ≡ tables_bytes (map view_of rows)
same_tables [] = refl
same_tables (row ∷ rows) =
    ap (λ l. l ++ flat_map written.table_bytes rows) (same_table row)
    ∙ ap (λ l. table_bytes (table_of (view_of row)) ++ l) (same_tables rows)

same_entries : (place : ℕ) (rows : List ObjectRow)
    → written.entries_bytes place rows ≡ entries_bytes place (map view_of rows)
same_entries place [] = refl
same_entries place (row ∷ rows) =
    ap (λ l. entry_bytes (view_of row) place ++ written.entries_bytes (place + length l) rows) (same_table row)
    ∙ ap (λ l. entry_bytes (view_of row) place ++ l)
    (same_entries (place + length (table_bytes (table_of (view_of row)))) rows)

same_count : (rows : List ObjectRow) → length rows ≡ length (map view_of rows)
same_count [] = refl
same_count (row ∷ rows) = ap suc (same_count rows)

pub written_rows : (rows : List ObjectRow) (defaults : List ℕ) (at : ℕ)
    → written.objects_bytes rows defaults at ≡ rows_bytes (map view_of rows) defaults at
written_rows rows defaults at =
    ap (λ n. flat_map word defaults ++ written.entries_bytes (at + 126 + 14 * n) rows
    ++ flat_map written.table_bytes rows) (same_count rows)
    ∙ ap (λ l. flat_map word defaults ++ l ++ flat_map written.table_bytes rows)
    (same_entries (at + 126 + 14 * length (map view_of rows)) rows)
    ∙ ap (λ l. flat_map word defaults
    ++ entries_bytes (at + 126 + 14 * length (map view_of rows)) (map view_of rows) ++ l) (same_tables rows)

pub written_length : (rows : List ObjectRow) → written.objects_length rows ≡ rows_length (map view_of rows)
written_length rows =
    ap (λ n. 126 + 14 * n + length (flat_map written.table_bytes rows)) (same_count rows)
    ∙ ap (λ l. 126 + 14 * length (map view_of rows) + length l) (same_tables rows)
