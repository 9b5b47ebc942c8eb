use Rattle.std.proofs.Common.{◌≡◌, ◌+◌, ◌*◌, ◌≤◌, ◌++◌, length, refl, subst, ap, ◌∙◌, arith}
use Rattle.std.specs.List.{All, flat_map}
use Rattle.std.proofs.lemmas.List.{take_all}
use Rattle.std.proofs.lemmas.List.Elements.{All-more}
use Rattle.std.proofs.lemmas.Option.{slice_get_read}
use Rattle.std.proofs.lemmas.Result.{err_from_is_err_and}
use Rattle.ztext.specs.Text.{Holds}
use Rattle.tables.specs.Rows.{word, table_bytes, entry_bytes, entries_bytes, objects_bytes, objects_length}
use Rattle.code.proofs.Names.{row_refuses}
use Rattle.code.proofs.ReadBack.{rows_back}
use Rattle.code.proofs.TableSizes.{IsWhole, tables_step, entries_step, tables_end, entries_end}
use Rattle.code.proofs.objects.write_objects.Goals as goal

pub returns-in_err-put_table-clause-refused : goal.returns-in_err-put_table-clause-refused
returns-in_err-put_table-clause-refused c =
    let p = err_from_is_err_and c.from_residual-in_err-put_table.result c.from_residual-in_err-put_table.ensures.1 in
    rw (p.1, p.2)
    (row_refuses c.args.rows.now c.loop-row.row-index c.args.at c.row-item.result c.in_err-put_table.field-0.0
    c.loop-row-test.true
    (slice_get_read c.args.rows.now (length c.args.rows.now) c.loop-row.row-index c.row-item.result refl
    c.loop-row-test.true c.row-item.is) c.in_err-put_table.ensures.refused)

pub loop-row-preserved : goal.loop-row-preserved
loop-row-preserved c =
    let i = c.loop-row in
    let place : c.from.result + 126 + 14 * length c.args.rows.now + c.len.result
    ≡ c.from.result + 126 + 14 * length c.args.rows.now + length i.tables.items = omega (arith, c.len.ensures) in
    let entry : c.put_entry.new.bytes.items ≡ i.bytes.items
    ++ entry_bytes c.row-item.result (c.from.result + 126 + 14 * length c.args.rows.now + length i.tables.items) =
    c.in_ok-put_entry.ensures.put ∙ ap (λ p. i.bytes.items ++ entry_bytes c.row-item.result p) place in
    record {
      entries = entries_step c.args.rows.now i.row-index c.row-item.result c.loop-row-test.true c.row-item.is
          i.bytes.items _ _ i.tables.items _ _ entry c.in_ok-put_table.ensures.put i.invariant.entries;
      tables = tables_step c.args.rows.now i.row-index c.row-item.result c.loop-row-test.true c.row-item.is
          i.tables.items _ _ c.in_ok-put_table.ensures.put i.invariant.tables;
      whole = All-more IsWhole c.args.rows.now i.row-index c.row-item.result c.loop-row-test.true i.invariant.whole
          (subst IsWhole c.row-item.is
          (record {
            attributes = c.in_ok-put_entry.ensures.attributes;
            short = c.in_ok-put_table.ensures.short;
          }));
    }

pub returns-clause-read : goal.returns-clause-read
returns-clause-read c = λ story held.
    let i = c.loop-row in
    let whole = subst (All IsWhole) (take_all i.row-index c.args.rows.now c.loop-row-test.false) i.invariant.whole in
    let tables : i.tables.items ≡ flat_map table_bytes c.args.rows.now = tables_end c.args.rows.now i.row-index
    c.loop-row-test.false _ _ i.invariant.tables in
    let start : c.from.result + 126 + 14 * length c.args.rows.now
    ≡ c.args.at + 126 + 14 * length c.args.rows.now = omega (arith, c.from.ensures) in
    let front : c.put_words.new.bytes.items ≡ flat_map word c.args.defaults.now = c.in_ok-put_words.ensures
    ∙ ap (λ x. x ++ flat_map word c.args.defaults.now) c.new-bytes.ensures.items in
    let entries : i.bytes.items ≡ flat_map word c.args.defaults.now
    ++ entries_bytes (c.args.at + 126 + 14 * length c.args.rows.now) c.args.rows.now =
    entries_end c.args.rows.now i.row-index c.loop-row-test.false _ _ _ i.invariant.entries
    ∙ ap (λ n. c.put_words.new.bytes.items ++ entries_bytes n c.args.rows.now) start
    ∙ ap (λ x. x ++ entries_bytes (c.args.at + 126 + 14 * length c.args.rows.now) c.args.rows.now) front in
    let fits : c.args.at + objects_length c.args.rows.now ≤ 65536 = omega
    (arith, ap length tables, c.if-start-len-gt-READABLE.false, c.len-2.ensures) in
    let bytes : c.extend_from_slice.new.self.items ≡ objects_bytes c.args.rows.now c.args.defaults.now c.args.at =
    c.in_ok-extend_from_slice.ensures.items ∙ ap (λ x. i.bytes.items ++ x) (c.deref.ensures.value ∙ tables)
    ∙ ap (λ x. x ++ flat_map table_bytes c.args.rows.now) entries in
    rows_back story c.args.rows.now c.args.defaults.now c.args.at c.requires whole c.told-defaults fits
    (subst (Holds story c.args.at) bytes held)

pub returns-clause-names : goal.returns-clause-names
returns-clause-names c =
    let whole = subst (All IsWhole) (take_all c.loop-row.row-index c.args.rows.now c.loop-row-test.false)
    c.loop-row.invariant.whole in
    λ k d lt. omega (arith, (whole k d lt).short)
