use Rattle.std.proofs.Common.{ℕ, List, ◌≡◌, ◌+◌, ◌*◌, ◌<◌, ◌∙◌, arith, drop, length, subst, sym, Ok, Err}
use Rattle.zcore_standard.specs.Characters.{print_codes}
use Rattle.zcore_standard.specs.Tables.{row_division, rows}
use Rattle.machine_frames.specs.Contents.{memory_of}
use Rattle.machine_frames.specs.Went.{Told}
use Rattle.machine_frames.proofs.Steps.{told_err}
use Rattle.machine_opcodes.proofs.Transcripts.{grew_still, grew_after}
use Rattle.machine_standard_texts.proofs.Adding.{codes_none, told_memory}
use Rattle.machine_standard_tables.proofs.Rows.{division_cut, row_cut, row_inside, row_of, rows_more}
use Rattle.machine_standard_tables.proofs.printing.print_rows.Goals as goal

pub loop-row-init : goal.loop-row-init
unfolding rows
loop-row-init c = record {
  told = codes_none c.args.characters.now _ _ c.requires.sound;
  grew = grew_still _ _ c.requires.text;
}

pub returns-in_err-print_row_division-clause-told : goal.returns-in_err-print_row_division-clause-told
returns-in_err-print_row_division-clause-told c =
    let m = memory_of c.args.store.now.store in
    told_err _ c.from_residual.ensures.1
    (division_cut c.args.characters.now m c.args.table c.args.width c.args.skip c.args.indent c.loop-row.row c.args.height
    c.loop-row-test.true c.loop-row.invariant.told c.in_err-print_row_division.ensures.told)

pub print_row-requires-clause-row : goal.print_row-requires-clause-row
print_row-requires-clause-row c =
    let m = memory_of c.args.store.now.store in
    let same : memory_of c.print_row_division.new.store.store ≡ m =
    told_memory _ _ _ _ c.args.characters.now (row_division c.args.indent c.loop-row.row) c.in_ok-print_row_division.ensures.told
    ∙ told_memory _ _ _ _ c.args.characters.now (rows m c.args.table c.args.width c.args.skip c.args.indent c.loop-row.row)
    c.loop-row.invariant.told in
    λ i lt. subst (λ (l : List ℕ). c.args.table + c.loop-row.row * (c.args.width + c.args.skip) + i < length l)
    (sym same)
    (row_inside m c.args.table c.args.width c.args.height c.args.skip c.loop-row.row i c.requires.readable
    c.loop-row-test.true lt)

pub returns-in_err-print_row-clause-told : goal.returns-in_err-print_row-clause-told
returns-in_err-print_row-clause-told c =
    let m = memory_of c.args.store.now.store in
    let a = c.args in
    let same : memory_of c.print_row_division.new.store.store ≡ m =
    told_memory _ _ _ _ c.args.characters.now (row_division c.args.indent c.loop-row.row) c.in_ok-print_row_division.ensures.told
    ∙ told_memory _ _ _ _ c.args.characters.now (rows m c.args.table c.args.width c.args.skip c.args.indent c.loop-row.row)
    c.loop-row.invariant.told in
    told_err _ c.from_residual-in_err-print_row.ensures.1
    (row_cut c.args.characters.now m a.table a.width a.skip a.indent c.loop-row.row a.height c.loop-row-test.true
    c.loop-row.invariant.told c.in_ok-print_row_division.ensures.told
    (subst
    (λ (l : List ℕ). Told (Err c.in_err-print_row.field-0.0) c.print_row_division.new.store
    (drop a.start c.print_row_division.new.text.items) c.print_row.new.store
    (drop a.start c.print_row.new.text.items)
    (print_codes c.args.characters.now (row_of l a.table a.width a.skip c.loop-row.row)))
    same c.in_err-print_row.ensures.told))

pub loop-row-preserved : goal.loop-row-preserved
loop-row-preserved c =
    let m = memory_of c.args.store.now.store in
    let a = c.args in
    let same : memory_of c.print_row_division.new.store.store ≡ m =
    told_memory _ _ _ _ c.args.characters.now (row_division c.args.indent c.loop-row.row) c.in_ok-print_row_division.ensures.told
    ∙ told_memory _ _ _ _ c.args.characters.now (rows m c.args.table c.args.width c.args.skip c.args.indent c.loop-row.row)
    c.loop-row.invariant.told in
    record {
      told = rows_more c.args.characters.now m a.table a.width a.skip a.indent c.loop-row.row c.loop-row.invariant.told
          c.in_ok-print_row_division.ensures.told
          (subst
          (λ (l : List ℕ). Told (Ok tt) c.print_row_division.new.store
          (drop a.start c.print_row_division.new.text.items) c.print_row.new.store
          (drop a.start c.print_row.new.text.items)
          (print_codes c.args.characters.now (row_of l a.table a.width a.skip c.loop-row.row)))
          same c.in_ok-print_row.ensures.told);
      grew = grew_after (grew_after c.loop-row.invariant.grew c.print_row_division.ensures.text)
          c.print_row.ensures.text;
    }

pub returns-clause-told : goal.returns-clause-told
returns-clause-told c =
    let m = memory_of c.args.store.now.store in
    let all : c.loop-row.row ≡ c.args.height = omega arith in
    subst
    (λ n. Told (Ok tt) c.args.store.now (drop c.args.start c.args.text.now.items) c.loop-row.store
    (drop c.args.start c.loop-row.text.items)
    (print_codes c.args.characters.now (rows m c.args.table c.args.width c.args.skip c.args.indent n)))
    all c.loop-row.invariant.told
