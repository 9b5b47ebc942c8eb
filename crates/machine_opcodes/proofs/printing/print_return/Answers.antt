use Rattle.std.proofs.Common.{◌∙◌, [], ◌∷◌, ℕ, List, take, ap, arith}
use Rattle.zcore.specs.Execution.{print_return}
use Rattle.machine_opcodes.proofs.Fronts.{added_begun, added_bytes, added_grew, added_told, told_back, grew_back}
use Rattle.machine_opcodes.proofs.Transcripts.{print_two, print_first, grew_after, begun_after}
use Rattle.machine_frames.proofs.Steps.{went_no_further, went_store, went_sound, told_went, told_then, told_no_further}
use Rattle.machine_frames.proofs.Steps.{told_err, told_store}
use Rattle.machine_opcodes.proofs.printing.print_return.Goals as goal

pub print_added-requires-clause-end : goal.print_added-requires-clause-end
print_added-requires-clause-end c = omega (arith, c.in_ok-_behind.ensures.1.longer)

pub print_added-requires-clause-text : goal.print_added-requires-clause-text
print_added-requires-clause-text c = added_begun c.args.start c.len-end.result c.args.text.now.items
    c.add_text.new.text.items c.in_ok-_behind.ensures.0
    (omega arith) c.in_ok-_behind.ensures.1 c.requires.text

pub print_added-requires-clause-bytes : goal.print_added-requires-clause-bytes
print_added-requires-clause-bytes c = added_bytes c.args.start c.len-end.result c.args.text.now.items
    c.add_text.new.text.items c.in_ok-_behind.ensures.0
    (omega arith) c.in_ok-_behind.ensures.1

pub print-requires-clause-text : goal.print-requires-clause-text
print-requires-clause-text c = begun_after c.requires.text
    (added_grew c.args.start c.len-end.result c.args.text.now.items c.add_text.new.text.items c.in_ok-_behind.ensures.0
    (omega arith) c.in_ok-_behind.ensures.1 c.print_added.ensures.text)

pub give_back-requires : goal.give_back-requires
give_back-requires c = told_store (went_store c.requires.store c.in_ok-_behind.ensures.2) c.in_ok-print.ensures.told

pub returns-in_err-_behind-clause-told : goal.returns-in_err-_behind-clause-told
unfolding print_return
returns-in_err-_behind-clause-told c =
    told_err _ c.from_residual.ensures.1
    (told_back c.args.start c.args.text.now.items c.add_text.new.text.items c.in_err-_behind.ensures.0
    (told_went _ _ (went_no_further _ c.in_err-_behind.ensures.1)))

pub returns-in_err-_behind-clause-text : goal.returns-in_err-_behind-clause-text
returns-in_err-_behind-clause-text c = grew_back c.args.start c.args.text.now.items c.add_text.new.text.items
    c.in_err-_behind.ensures.0 c.requires.text

pub returns-in-Err-clause-told : goal.returns-in-Err-clause-told
unfolding print_return
returns-in-Err-clause-told c =
    let now : List ℕ = c.add_text.new.text.items in
    told_back c.args.start c.args.text.now.items c.truncate.new.self.items
    (c.truncate.ensures.items ∙ ap (λ k. take k now) (omega arith) ∙ c.in_ok-_behind.ensures.1.stays)
    (told_then _ (told_went _ _ c.in_ok-_behind.ensures.2) (told_went _ _ (went_no_further _ c.in-Err.ensures.went)))

pub returns-in-Err-clause-text : goal.returns-in-Err-clause-text
returns-in-Err-clause-text c =
    let now : List ℕ = c.add_text.new.text.items in
    grew_back c.args.start c.args.text.now.items c.truncate.new.self.items
    (c.truncate.ensures.items ∙ ap (λ k. take k now) (omega arith) ∙ c.in_ok-_behind.ensures.1.stays) c.requires.text

pub returns-in_err-print_added-clause-told : goal.returns-in_err-print_added-clause-told
unfolding print_return
returns-in_err-print_added-clause-told c =
    told_err _ c.from_residual-in_err-print_added.ensures.1
    (told_then _ (told_went _ _ c.in_ok-_behind.ensures.2)
    (told_then _ (told_went _ _ c.in-Ok.ensures.went)
    (told_no_further _
    (print_first _ (13 ∷ [])
    (added_told c.args.start c.len-end.result c.args.text.now.items c.add_text.new.text.items
    c.in_ok-_behind.ensures.0 (omega arith)
    c.in_ok-_behind.ensures.1 _
    (c.in_err-print_added.ensures.told c.add_text.new.store (went_sound c.in_ok-_behind.ensures.2)))))))

pub returns-in_err-print_added-clause-text : goal.returns-in_err-print_added-clause-text
returns-in_err-print_added-clause-text c = added_grew c.args.start c.len-end.result c.args.text.now.items
    c.add_text.new.text.items
    c.in_ok-_behind.ensures.0 (omega arith) c.in_ok-_behind.ensures.1 c.print_added.ensures.text

pub returns-in_err-print-clause-told : goal.returns-in_err-print-clause-told
unfolding print_return
returns-in_err-print-clause-told c =
    told_err _ c.from_residual-in_err-print.ensures.1
    (told_then _ (told_went _ _ c.in_ok-_behind.ensures.2)
    (told_then _ (told_went _ _ c.in-Ok.ensures.went)
    (told_no_further _
    (print_two _ (13 ∷ [])
    (added_told c.args.start c.len-end.result c.args.text.now.items c.add_text.new.text.items
    c.in_ok-_behind.ensures.0 (omega arith)
    c.in_ok-_behind.ensures.1 _
    (c.in_ok-print_added.ensures.told c.add_text.new.store (went_sound c.in_ok-_behind.ensures.2)))
    c.in_err-print.ensures.told))))

pub returns-in_err-print-clause-text : goal.returns-in_err-print-clause-text
returns-in_err-print-clause-text c = grew_after
    (added_grew c.args.start c.len-end.result c.args.text.now.items c.add_text.new.text.items c.in_ok-_behind.ensures.0
    (omega arith) c.in_ok-_behind.ensures.1 c.print_added.ensures.text) c.print.ensures.text

pub returns-clause-told : goal.returns-clause-told
unfolding print_return
returns-clause-told c =
    told_then _ (told_went _ _ c.in_ok-_behind.ensures.2)
    (told_then _ (told_went _ _ c.in-Ok.ensures.went)
    (told_then _
    (print_two _ (13 ∷ [])
    (added_told c.args.start c.len-end.result c.args.text.now.items c.add_text.new.text.items
    c.in_ok-_behind.ensures.0 (omega arith)
    c.in_ok-_behind.ensures.1 _
    (c.in_ok-print_added.ensures.told c.add_text.new.store (went_sound c.in_ok-_behind.ensures.2)))
    c.in_ok-print.ensures.told) (told_went _ _ c.give_back.ensures)))

pub returns-clause-text : goal.returns-clause-text
returns-clause-text c = grew_after
    (added_grew c.args.start c.len-end.result c.args.text.now.items c.add_text.new.text.items c.in_ok-_behind.ensures.0
    (omega arith) c.in_ok-_behind.ensures.1 c.print_added.ensures.text) c.print.ensures.text
