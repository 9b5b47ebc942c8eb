use Rattle.std.proofs.Common.{◌∙◌, [], ◌∷◌, ℕ, List, take, ap, arith}
use Rattle.zcore_versions.specs.Printing.{print_return}
use Rattle.machine_frames.proofs.Steps.{went_no_further, went_store, went_sound, told_went, told_then, told_no_further}
use Rattle.machine_frames.proofs.Steps.{told_err, told_store}
use Rattle.machine_standard_texts.proofs.Adding.{told_back}
use Rattle.machine_standard_texts.proofs.Printed.{begun_by, extends_after, grew_by, grew_back, on_begun, on_then}
use Rattle.machine_locked_texts.proofs.printing.print_return.Goals as goal

pub test_return-requires : goal.test_return-requires
test_return-requires c = went_sound c.in_ok-added.ensures.adds.1

pub put_next-halted-requires : goal.put_next-halted-requires
put_next-halted-requires c = record { text = begun_by c.requires.text c.add_text.ensures.text }

pub finish-requires : goal.finish-requires
finish-requires c = went_sound c.in_ok-added.ensures.adds.1

pub give_back-requires : goal.give_back-requires
give_back-requires c = told_store (went_store c.requires.store c.in_ok-added.ensures.adds.1)
    (c.in_ok-finish.ensures _ _ _
    (on_begun _ (on_then _ (13 ∷ []) c.in_ok-added.ensures.adds.2 (rw c.characters.ensures at c.put_next-halted.ensures.prints))))

pub returns-in_err-added-clause-told : goal.returns-in_err-added-clause-told
unfolding print_return
returns-in_err-added-clause-told c =
    told_err _ c.from_residual.ensures.1
    (told_back c.args.start c.args.text.now.items c.add_text.new.text.items c.in_err-added.ensures.adds.1
    (told_went _ _ (went_no_further _ c.in_err-added.ensures.adds.0)))

pub returns-in_err-added-clause-text : goal.returns-in_err-added-clause-text
returns-in_err-added-clause-text c = grew_by c.requires.text c.add_text.ensures.text

pub returns-in-Err-clause-told : goal.returns-in-Err-clause-told
unfolding print_return
returns-in-Err-clause-told c =
    let now : List ℕ = c.add_text.new.text.items in
    told_back c.args.start c.args.text.now.items c.truncate.new.self.items
    (c.truncate.ensures.items ∙ ap (λ k. take k now) (omega arith) ∙ c.add_text.ensures.text.stays)
    (told_then _ (told_went _ _ c.in_ok-added.ensures.adds.1)
    (told_went _ _ (went_no_further _ c.in-Err.ensures.went)))

pub returns-in-Err-clause-text : goal.returns-in-Err-clause-text
returns-in-Err-clause-text c =
    let now : List ℕ = c.add_text.new.text.items in
    grew_back c.args.start c.args.text.now.items c.truncate.new.self.items
    (c.truncate.ensures.items ∙ ap (λ k. take k now) (omega arith) ∙ c.add_text.ensures.text.stays) c.requires.text

pub returns-in_err-finish-clause-told : goal.returns-in_err-finish-clause-told
unfolding print_return
returns-in_err-finish-clause-told c =
    told_err _ c.from_residual-in_err-finish.ensures.1
    (told_then _ (told_went _ _ c.in_ok-added.ensures.adds.1)
    (told_then _ (told_went _ _ c.in-Ok.ensures.went)
    (told_no_further _
    (c.in_err-finish.ensures _ _ _
    (on_begun _ (on_then _ (13 ∷ []) c.in_ok-added.ensures.adds.2 (rw c.characters.ensures at c.put_next-halted.ensures.prints)))))))

pub returns-in_err-finish-clause-text : goal.returns-in_err-finish-clause-text
returns-in_err-finish-clause-text c = grew_by c.requires.text
    (extends_after c.add_text.ensures.text c.put_next-halted.ensures.text)

pub returns-clause-told : goal.returns-clause-told
unfolding print_return
returns-clause-told c =
    told_then _ (told_went _ _ c.in_ok-added.ensures.adds.1)
    (told_then _ (told_went _ _ c.in-Ok.ensures.went)
    (told_then _
    (c.in_ok-finish.ensures _ _ _
    (on_begun _ (on_then _ (13 ∷ []) c.in_ok-added.ensures.adds.2 (rw c.characters.ensures at c.put_next-halted.ensures.prints))))
    (told_went _ _ c.give_back.ensures)))

pub returns-clause-text : goal.returns-clause-text
returns-clause-text c = grew_by c.requires.text
    (extends_after c.add_text.ensures.text c.put_next-halted.ensures.text)
