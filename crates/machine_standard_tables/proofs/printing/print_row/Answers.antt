use Rattle.std.proofs.Common.{ℕ, List, ◌≡◌, ◌<◌, ◌+◌, ◌∙◌, ap, arith, drop, length, slice_index, subst, sym, take, Ok}
use Rattle.std.proofs.lemmas.List.{get_or-drop, length-drop}
use Rattle.zcore_standard.specs.Characters.{print_codes}
use Rattle.machine_frames.specs.Contents.{memory_of}
use Rattle.machine_frames.specs.Went.{Told}
use Rattle.machine_frames.proofs.Steps.{told_err}
use Rattle.machine_opcodes.proofs.Transcripts.{grew_still, grew_after}
use Rattle.machine_standard_texts.proofs.Adding.{codes_none, told_memory}
use Rattle.machine_standard_tables.proofs.Rows.{row_more, row_stop}
use Rattle.machine_standard_tables.proofs.printing.print_row.Goals as goal

pub loop-i-init : goal.loop-i-init
loop-i-init c = record {
  told = codes_none c.args.characters.now _ _ c.requires.sound;
  grew = grew_still _ _ c.requires.text;
}

pub overflow_add-at : goal.overflow_add-at
overflow_add-at c = omega (arith, c.requires.row c.loop-i.i c.loop-i-test.true, c.requires.sound.short)

pub byte-code-requires : goal.byte-code-requires
byte-code-requires c =
    let m = memory_of c.args.store.now.store in
    let same = told_memory _ _ _ _ c.args.characters.now (take c.loop-i.i (drop c.args.at m)) c.loop-i.invariant.told in
    let at = c.args.at + c.loop-i.i in
    subst (λ (l : List ℕ). at < length l) (sym (ap memory_of c.store.ensures ∙ same))
    (c.requires.row c.loop-i.i c.loop-i-test.true)

pub returns-in_err-print_code-clause-told : goal.returns-in_err-print_code-clause-told
returns-in_err-print_code-clause-told c =
    let m = memory_of c.args.store.now.store in
    let i = c.loop-i.i in
    let same = told_memory _ _ _ _ c.args.characters.now (take i (drop c.args.at m)) c.loop-i.invariant.told in
    let byte : c.byte-code.result ≡ slice_index (drop c.args.at m) i = c.byte-code.ensures
    ∙ ap (λ l. slice_index l (c.args.at + i)) (ap memory_of c.store.ensures ∙ same) ∙ sym (get_or-drop c.args.at m i 0) in
    told_err _ c.from_residual.ensures.1
    (row_stop c.args.characters.now (drop c.args.at m) c.args.width i _ c.loop-i-test.true
    (omega (arith, length-drop c.args.at m, c.requires.row i c.loop-i-test.true)) byte
    c.loop-i.invariant.told c.in_err-print_code.ensures.told)

pub loop-i-preserved : goal.loop-i-preserved
loop-i-preserved c =
    let m = memory_of c.args.store.now.store in
    let i = c.loop-i.i in
    let same = told_memory _ _ _ _ c.args.characters.now (take i (drop c.args.at m)) c.loop-i.invariant.told in
    let byte : c.byte-code.result ≡ slice_index (drop c.args.at m) i = c.byte-code.ensures
    ∙ ap (λ l. slice_index l (c.args.at + i)) (ap memory_of c.store.ensures ∙ same) ∙ sym (get_or-drop c.args.at m i 0) in
    record {
      told = row_more c.args.characters.now (drop c.args.at m) i _
          (omega (arith, length-drop c.args.at m, c.requires.row i c.loop-i-test.true)) byte
          c.loop-i.invariant.told c.in_ok-print_code.ensures.told;
      grew = grew_after c.loop-i.invariant.grew c.print_code.ensures.text;
    }

pub returns-clause-told : goal.returns-clause-told
returns-clause-told c =
    let m = memory_of c.args.store.now.store in
    let all : c.loop-i.i ≡ c.args.width = omega arith in
    subst
    (λ n. Told (Ok tt) c.args.store.now (drop c.args.start c.args.text.now.items) c.loop-i.store
    (drop c.args.start c.loop-i.text.items) (print_codes c.args.characters.now (take n (drop c.args.at m))))
    all c.loop-i.invariant.told
