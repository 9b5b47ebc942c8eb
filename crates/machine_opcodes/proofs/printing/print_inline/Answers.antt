use Rattle.std.proofs.Common.{refl, arith}
use Rattle.zcore.specs.Execution.{print_inline}
use Rattle.machine_opcodes.proofs.Fronts.{added_begun, added_bytes, added_grew, added_told, told_back, grew_back}
use Rattle.machine_frames.proofs.Steps.{went_no_further, went_sound, told_went, told_then, told_no_further, told_err}
use Rattle.machine_frames.proofs.Steps.{told_still, told_sound}
use Rattle.machine_opcodes.proofs.printing.print_inline.Goals as goal

pub print_added-requires-clause-end : goal.print_added-requires-clause-end
print_added-requires-clause-end c = omega (arith, c.in_ok-program_counter.ensures.1.longer)

pub print_added-requires-clause-text : goal.print_added-requires-clause-text
print_added-requires-clause-text c = added_begun c.args.start c.len-end.result c.args.text.now.items
    c.add_text.new.text.items c.in_ok-program_counter.ensures.0 (omega arith) c.in_ok-program_counter.ensures.1
    c.requires.text

pub print_added-requires-clause-bytes : goal.print_added-requires-clause-bytes
print_added-requires-clause-bytes c = added_bytes c.args.start c.len-end.result c.args.text.now.items
    c.add_text.new.text.items c.in_ok-program_counter.ensures.0 (omega arith) c.in_ok-program_counter.ensures.1

pub returns-in_err-program_counter-clause-told : goal.returns-in_err-program_counter-clause-told
unfolding print_inline
returns-in_err-program_counter-clause-told c =
    told_err _ c.from_residual.ensures.1
    (told_back c.args.start c.args.text.now.items c.add_text.new.text.items c.in_err-program_counter.ensures.0
    (told_went _ _ (went_no_further _ c.in_err-program_counter.ensures.1)))

pub returns-in_err-program_counter-clause-text : goal.returns-in_err-program_counter-clause-text
returns-in_err-program_counter-clause-text c = grew_back c.args.start c.args.text.now.items c.add_text.new.text.items
    c.in_err-program_counter.ensures.0 c.requires.text

pub returns-in_err-print_added-clause-told : goal.returns-in_err-print_added-clause-told
unfolding print_inline
returns-in_err-print_added-clause-told c =
    told_err _ c.from_residual-in_err-print_added.ensures.1
    (told_then _ (told_went _ _ c.in_ok-program_counter.ensures.2)
    (told_no_further _
    (added_told c.args.start c.len-end.result c.args.text.now.items c.add_text.new.text.items
    c.in_ok-program_counter.ensures.0 (omega arith)
    c.in_ok-program_counter.ensures.1 _
    (c.in_err-print_added.ensures.told c.add_text.new.store (went_sound c.in_ok-program_counter.ensures.2)))))

pub returns-in_err-print_added-clause-text : goal.returns-in_err-print_added-clause-text
returns-in_err-print_added-clause-text c = added_grew c.args.start c.len-end.result c.args.text.now.items
    c.add_text.new.text.items c.in_ok-program_counter.ensures.0 (omega arith) c.in_ok-program_counter.ensures.1
    c.print_added.ensures.text

pub returns-clause-told : goal.returns-clause-told
unfolding print_inline
returns-clause-told c =
    let told = added_told c.args.start c.len-end.result c.args.text.now.items c.add_text.new.text.items
    c.in_ok-program_counter.ensures.0 (omega arith) c.in_ok-program_counter.ensures.1 _
    (c.in_ok-print_added.ensures.told c.add_text.new.store (went_sound c.in_ok-program_counter.ensures.2)) in
    told_then _ (told_went _ _ c.in_ok-program_counter.ensures.2)
    (told_then _ told (told_still _ _ _ (told_sound told) refl))

pub returns-clause-text : goal.returns-clause-text
returns-clause-text c = added_grew c.args.start c.len-end.result c.args.text.now.items c.add_text.new.text.items
    c.in_ok-program_counter.ensures.0 (omega arith) c.in_ok-program_counter.ensures.1 c.print_added.ensures.text
