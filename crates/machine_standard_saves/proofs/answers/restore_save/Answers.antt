use Rattle.machine_standard_saves.proofs.Growing.{grew_none}
use Rattle.std.proofs.Common.{List, ℕ, ap, sym, ◌∙◌, set, subst}
use Rattle.machine_frames.specs.Contents.{Contents}
use Rattle.machine_frames.specs.States.{IsSound, IsStoreOf}
use Rattle.machine_frames.proofs.Steps.{given_up_after, told_err}
use Rattle.machine_standard_saves.proofs.Answering.{at_the_end}
use Rattle.machine_standard_saves.proofs.GivenFiles.{not_taken, restored_not, restored_told}
use Rattle.machine_standard_saves.proofs.answers.restore_save.Goals as goal

pub returns-in_err-take_up-clause-told : goal.returns-in_err-take_up-clause-told
returns-in_err-take_up-clause-told c = λ read are.
    told_err _ c.from_residual.ensures.1
    (not_taken c.args.loaded.now _ _ (c.in_err-take_up.ensures.went c.args.save.program_counter read are))

pub returns-in_err-can_go_on-clause-told : goal.returns-in_err-can_go_on-clause-told
returns-in_err-can_go_on-clause-told c = λ read are.
    told_err _ c.from_residual-in_err-can_go_on.ensures.1 (record {
      told = given_up_after (c.in_ok-take_up.ensures.went c.args.save.program_counter read are).did.0
          c.in_err-can_go_on.ensures.given_up;
    })

pub returns-then-can_go_on-clause-told : goal.returns-then-can_go_on-clause-told
returns-then-can_go_on-clause-told c = λ read are.
    restored_told c.give_answer.result c.args.loaded.now c.args.story.now c.args.request.form c.args.request.place
    c.args.request.fuel _ (at_the_end c.args.text.now.items)
    (c.in_ok-take_up.ensures.went c.args.save.program_counter read are)
    (sym c.in_ok-can_go_on.ensures.is ∙ c.if-can_go_on.true) c.give_answer.ensures

-- the turn is given up, and so the store is as it began
pub stop_asking-requires : goal.stop_asking-requires
stop_asking-requires c =
    let went = c.in_ok-take_up.ensures.went 0 c.requires.stacks.0 c.requires.stacks.1 in
    subst (λ (x : Contents). IsSound x)
    (λ i. record {
      cells = (sym (c.abandon.ensures.cells ∙ went.did.0.beginning)) i;
      fixed = (sym (c.abandon.ensures.fixed ∙ went.did.0.fixed)) i;
    }) c.requires.begun.sound

pub returns-in_err-stop_asking-clause-told : goal.returns-in_err-stop_asking-clause-told
returns-in_err-stop_asking-clause-told c = λ read are.
    let went = c.in_ok-take_up.ensures.went c.args.save.program_counter read are in
    let up = c.in_err-stop_asking.ensures.given_up in
    told_err _ c.from_residual-in_err-stop_asking.ensures.1 (record {
      told = record {
        cells = up.cells ∙ c.abandon.ensures.beginning ∙ went.did.0.beginning;
        beginning = up.beginning ∙ c.abandon.ensures.beginning ∙ went.did.0.beginning;
        kept = up.kept;
        fixed = up.fixed ∙ c.abandon.ensures.fixed ∙ went.did.0.fixed;
      };
    })

pub refuse-requires-clause-store : goal.refuse-requires-clause-store
refuse-requires-clause-store c =
    let went = c.in_ok-take_up.ensures.went 0 c.requires.stacks.0 c.requires.stacks.1 in
    let goes = c.in_ok-stop_asking.ensures.waits.goes_on in
    subst (λ (x : Contents). IsStoreOf c.args.header.now x)
    (λ i. record {
      cells = (c.requires.begun.cells
          ∙ sym (c.in_ok-stop_asking.ensures.cells
          ∙ ap (λ (l : List ℕ). set l 5 0) (c.abandon.ensures.cells ∙ went.did.0.beginning))) i;
      fixed = (sym (goes.fixed ∙ c.abandon.ensures.fixed ∙ went.did.0.fixed)) i;
    }) c.requires.store

pub returns-clause-told : goal.returns-clause-told
returns-clause-told c = λ read are.
    let went = c.in_ok-take_up.ensures.went c.args.save.program_counter read are in
    let goes = c.in_ok-stop_asking.ensures.waits.goes_on in
    restored_not c.refuse.result c.args.loaded.now c.args.story.now c.args.request.form c.args.request.place
    c.args.request.fuel _ (at_the_end c.args.text.now.items) went
    (sym c.in_ok-can_go_on.ensures.is ∙ c.if-can_go_on.false)
    (λ i. record {
      cells = (c.in_ok-stop_asking.ensures.cells
          ∙ ap (λ (l : List ℕ). set l 5 0) (c.abandon.ensures.cells ∙ went.did.0.beginning)
          ∙ sym c.requires.begun.cells) i;
      fixed = (goes.fixed ∙ c.abandon.ensures.fixed ∙ went.did.0.fixed) i;
    })
    (goes.beginning ∙ c.abandon.ensures.beginning ∙ went.did.0.beginning) goes.sound c.refuse.ensures.told

pub returns-in_err-take_up-clause-text : goal.returns-in_err-take_up-clause-text
returns-in_err-take_up-clause-text c = grew_none _ _

pub returns-in_err-can_go_on-clause-text : goal.returns-in_err-can_go_on-clause-text
returns-in_err-can_go_on-clause-text c = grew_none _ _

pub returns-then-can_go_on-clause-text : goal.returns-then-can_go_on-clause-text
returns-then-can_go_on-clause-text c = grew_none _ _

pub returns-in_err-stop_asking-clause-text : goal.returns-in_err-stop_asking-clause-text
returns-in_err-stop_asking-clause-text c = grew_none _ _
