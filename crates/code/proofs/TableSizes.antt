-- The rows of a table, one after another.
use Rattle.std.proofs.Common.{◌≡◌, ◌+◌, ◌≤◌, ◌<◌, ◌++◌, ℕ, List, ◌∷◌, length, drop, get_or}
use Rattle.std.proofs.Common.{append_assoc, ap, sym, ◌∙◌, arith}
use Rattle.std.specs.List.{flat_map}
use Rattle.std.proofs.lemmas.List.{length-append, append-nil, drop_more, drop_all}
use Rattle.tables.specs.declared.row.ObjectRow.{ObjectRow}
use Rattle.tables.specs.Rows.{name_bytes, table_bytes, entry_bytes, entries_bytes}

-- a row whose entry and short name are as long as they may be
pub record IsWhole (row : ObjectRow) : Type 0 where
  pub attributes : length row.attributes ≡ 6
  pub short : length (name_bytes row.name.items) ≤ 510

-- a row more

module _ (rows : List ObjectRow) (i : ℕ) (row : ObjectRow) (lt : i < length rows) (is : row ≡ get_or rows i row) where
  rest : drop i rows ≡ row ∷ drop (i + 1) rows
  rest = drop_more rows i row lt ∙ ap (λ r. r ∷ drop (i + 1) rows) (sym is)

  pub tables_step : (tables more all : List ℕ) → more ≡ tables ++ table_bytes row
      → tables ++ flat_map table_bytes (drop i rows) ≡ all → more ++ flat_map table_bytes (drop (i + 1) rows) ≡ all
  tables_step tables more all e h =
      ap (λ x. x ++ flat_map table_bytes (drop (i + 1) rows)) e
      ∙ append_assoc tables (table_bytes row) (flat_map table_bytes (drop (i + 1) rows))
      ∙ ap (λ rs. tables ++ flat_map table_bytes rs) (sym rest) ∙ h

  pub entries_step : (bytes new all tables more : List ℕ) (start : ℕ)
      → new ≡ bytes ++ entry_bytes row (start + length tables) → more ≡ tables ++ table_bytes row
      → bytes ++ entries_bytes (start + length tables) (drop i rows) ≡ all
      → new ++ entries_bytes (start + length more) (drop (i + 1) rows) ≡ all
  entries_step bytes new all tables more start e f h =
      let long : start + length more ≡ start + length tables + length (table_bytes row) = omega
      (arith, ap length f, length-append tables (table_bytes row)) in
      ap (λ n. new ++ entries_bytes n (drop (i + 1) rows)) long
      ∙ ap (λ x. x ++ entries_bytes (start + length tables + length (table_bytes row)) (drop (i + 1) rows)) e
      ∙ append_assoc bytes (entry_bytes row (start + length tables))
      (entries_bytes (start + length tables + length (table_bytes row)) (drop (i + 1) rows))
      ∙ ap (λ rs. bytes ++ entries_bytes (start + length tables) rs) (sym rest) ∙ h

-- no row is left
module _ (rows : List ObjectRow) (i : ℕ) (le : length rows ≤ i) where
  pub tables_end : (tables all : List ℕ) → tables ++ flat_map table_bytes (drop i rows) ≡ all → tables ≡ all
  tables_end tables all h = sym (append-nil tables)
      ∙ ap (λ rs. tables ++ flat_map table_bytes rs) (sym (drop_all i rows le)) ∙ h

  pub entries_end : (bytes all : List ℕ) (at : ℕ) → bytes ++ entries_bytes at (drop i rows) ≡ all → bytes ≡ all
  entries_end bytes all at h = sym (append-nil bytes)
      ∙ ap (λ rs. bytes ++ entries_bytes at rs) (sym (drop_all i rows le)) ∙ h
