use Rattle.std.proofs.Common.{Ok, Err, refl, ap, sym, ◌∙◌, length}
use Rattle.machine_standard_windows.specs.TurnState.{place}
use Rattle.machine_standard_windows.proofs.TurnTexts.{keeps_still, keeps_after, keeps_begun}
use Rattle.machine_standard_opcodes.proofs.Cuts.{none_closed, first_closed, first_unfit, first_unpaid, units_of_given}
use Rattle.machine_standard_windows.proofs.TurnTexts.{told_seen_err}
use Rattle.machine_standard_opcodes.proofs.Cuts.{first_stays}
use Rattle.machine_standard_opcodes.proofs.streams.close_first.Goals as goal

pub returns-then-as_slice-eq0-clause-told : goal.returns-then-as_slice-eq0-clause-told
returns-then-as_slice-eq0-clause-told c = none_closed _ _ _ (place c.args.turn.now c.args.here) c.args.after
    c.args.turn.now.streams.items c.requires.store.sound
    (ap length (sym c.as_slice.ensures.value) ∙ c.if-as_slice-eq0.true)

pub returns-then-as_slice-eq0-clause-text : goal.returns-then-as_slice-eq0-clause-text
returns-then-as_slice-eq0-clause-text c = keeps_still _ _ c.requires.text

pub returns-in_err-test_table-clause-told : goal.returns-in_err-test_table-clause-told
returns-in_err-test_table-clause-told c = told_seen_err (place c.args.turn.now) _ c.from_residual.ensures.1
    (first_unfit c.args.loaded.now.characters (place c.args.turn.now c.args.here) c.args.after
    c.args.turn.now.streams.items c.as_slice-2.result.now _ _
    (λ e. c.if-as_slice-eq0.false (ap length c.as_slice.ensures.value ∙ e)) c.as_slice-2.ensures.value refl
    (c.in_err-test_table.ensures c.args.loaded.now.characters _ c.text_since-given.ensures))

pub returns-in_err-fuel-clause-told : goal.returns-in_err-fuel-clause-told
returns-in_err-fuel-clause-told c = told_seen_err (place c.args.turn.now) _ c.from_residual-in_err-fuel.ensures.1
    (first_unpaid c.args.loaded.now.characters (place c.args.turn.now c.args.here) c.args.after
    c.args.turn.now.streams.items c.as_slice-2.result.now _ _
    (λ e. c.if-as_slice-eq0.false (ap length c.as_slice.ensures.value ∙ e)) c.as_slice-2.ensures.value refl
    (c.in_ok-test_table.ensures c.args.loaded.now.characters _ c.text_since-given.ensures)
    (units_of_given (Err _) _ _ _ _ c.requires.store.sound c.text_since-given.ensures c.in_err-fuel.ensures))

pub returns-in_err-close-clause-told : goal.returns-in_err-close-clause-told
returns-in_err-close-clause-told c = told_seen_err (place c.args.turn.now) _ c.from_residual-in_err-close.ensures.1
    (first_stays c.args.loaded.now.characters (place c.args.turn.now c.args.here) c.args.after
    c.args.turn.now.streams.items c.as_slice-2.result.now _ _
    (λ e. c.if-as_slice-eq0.false (ap length c.as_slice.ensures.value ∙ e)) c.as_slice-2.ensures.value refl
    (c.in_ok-test_table.ensures c.args.loaded.now.characters _ c.text_since-given.ensures)
    (units_of_given (Ok c.in_ok-fuel.fuel) _ _ _ _ c.requires.store.sound c.text_since-given.ensures c.in_ok-fuel.ensures)
    (rw c.characters.ensures at c.in_err-close.ensures.told))

pub begin_or_drop_upper-requires : goal.begin_or_drop_upper-requires
begin_or_drop_upper-requires c = keeps_begun c.close.ensures.text

pub returns-clause-told : goal.returns-clause-told
returns-clause-told c = first_closed c.args.loaded.now.characters (place c.args.turn.now c.args.here) c.args.after
    c.args.turn.now.streams.items c.as_slice-2.result.now _ _
    (λ e. c.if-as_slice-eq0.false (ap length c.as_slice.ensures.value ∙ e)) c.as_slice-2.ensures.value refl
    _ (place c.begin_or_drop_upper.new.turn _) c.remove.ensures.items (λ s. c.begin_or_drop_upper.ensures.redraws _ s)
    (c.in_ok-test_table.ensures c.args.loaded.now.characters _ c.text_since-given.ensures)
    (units_of_given (Ok c.in_ok-fuel.fuel) _ _ _ _ c.requires.store.sound c.text_since-given.ensures c.in_ok-fuel.ensures)
    (rw c.characters.ensures at c.in_ok-close.ensures.told)

pub returns-clause-text : goal.returns-clause-text
returns-clause-text c = keeps_after c.close.ensures.text c.begin_or_drop_upper.ensures.text
