use Rattle.std.proofs.Common.{refl, sym, ◌∙◌}
use Rattle.zcore.specs.State.{done}
use Rattle.zcore_standard.specs.Windows.{cursor_to, set_cursor}
use Rattle.machine_frames.proofs.Steps.{told_still}
use Rattle.machine_standard_windows.specs.TurnState.{place}
use Rattle.machine_standard_windows.proofs.TurnTexts.{keeps_still}
use Rattle.machine_standard_windows.proofs.Selecting.{told_by, cursor_nowhere, cursor_unseen, cursor_seen, cursor_moved, cursor_stopped}
use Rattle.machine_standard_windows.proofs.windows.set_cursor.Goals as goal

pub returns-then-not-are_places-clause-told : goal.returns-then-not-are_places-clause-told
returns-then-not-are_places-clause-told c =
    let here = place c.args.turn.now c.args.next in
    told_by _ (done here) (set_cursor here c.args.row c.args.column)
    (cursor_nowhere here c.args.row c.args.column (sym c.are_places.ensures ∙ c.if-not-are_places.true))
    (told_still _ _ _ c.requires.sound refl)

pub returns-then-not-are_places-clause-text : goal.returns-then-not-are_places-clause-text
returns-then-not-are_places-clause-text c = keeps_still _ _ c.requires.text

pub returns-in-None-clause-told : goal.returns-in-None-clause-told
returns-in-None-clause-told c =
    let here = place c.args.turn.now c.args.next in
    told_by _ (done here) (set_cursor here c.args.row c.args.column)
    (cursor_unseen here c.args.row c.args.column (sym c.are_places.ensures ∙ c.if-not-are_places.false)
    (sym c.in-None.is ∙ c.open_upper.ensures c.args.next))
    (told_still _ _ _ c.requires.sound refl)

pub returns-in-None-clause-text : goal.returns-in-None-clause-text
returns-in-None-clause-text c = keeps_still _ _ c.requires.text

pub returns-in_err-moved-in-Some-clause-told : goal.returns-in_err-moved-in-Some-clause-told
returns-in_err-moved-in-Some-clause-told c =
    let here = place c.args.turn.now c.args.next in
    told_by _ (cursor_to here _ c.args.row c.args.column) (set_cursor here c.args.row c.args.column)
    (cursor_seen here c.args.row c.args.column _ (sym c.are_places.ensures ∙ c.if-not-are_places.false)
    (sym c.in-Some.is ∙ c.open_upper.ensures c.args.next))
    (cursor_stopped (place c.args.turn.now) _ here _ c.args.row c.args.column c.from_residual.ensures.1
    c.in_err-moved-in-Some.ensures.told)

pub returns-in_ok-moved-in-Some-clause-told : goal.returns-in_ok-moved-in-Some-clause-told
returns-in_ok-moved-in-Some-clause-told c =
    let here = place c.args.turn.now c.args.next in
    told_by _ (cursor_to here _ c.args.row c.args.column) (set_cursor here c.args.row c.args.column)
    (cursor_seen here c.args.row c.args.column _ (sym c.are_places.ensures ∙ c.if-not-are_places.false)
    (sym c.in-Some.is ∙ c.open_upper.ensures c.args.next))
    (cursor_moved here _ _ c.args.row c.args.column c.in_ok-moved-in-Some.ensures.told)
