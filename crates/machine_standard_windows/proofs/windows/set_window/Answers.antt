use Rattle.std.proofs.Common.{sym, ◌∙◌}
use Rattle.zcore_standard.specs.Windows.{cursor_to, settled, set_window, with_window}
use Rattle.machine_standard_windows.specs.TurnState.{place}
use Rattle.machine_standard_windows.proofs.Drawing.{redraws_told}
use Rattle.machine_standard_windows.proofs.Selecting.{told_by, lower_selected, upper_begun, upper_again, cursor_moved}
use Rattle.machine_standard_windows.proofs.Selecting.{cursor_stopped}
use Rattle.machine_standard_windows.proofs.windows.set_window.Goals as goal

pub returns-then-window-eq-LOWER-clause-told : goal.returns-then-window-eq-LOWER-clause-told
returns-then-window-eq-LOWER-clause-told c =
    let here = place c.args.turn.now c.args.next in
    told_by _ (set_window here 0) (set_window here c.args.window)
    (lower_selected here c.args.window c.if-window-eq-LOWER.true)
    (redraws_told _ c.args.start c.args.turn.now c.select_lower.new.turn _ _ (λ h. set_window h 0) c.args.next
    c.requires.sound c.select_lower.ensures.redraws)

pub returns-in-None-clause-told : goal.returns-in-None-clause-told
returns-in-None-clause-told c =
    let here = place c.args.turn.now c.args.next in
    told_by _ (settled (with_window here 1)) (set_window here c.args.window)
    (upper_begun here c.args.window c.if-window-eq-LOWER.false (sym c.in-None.is ∙ c.open_upper.ensures c.args.next))
    (redraws_told _ c.args.start c.args.turn.now c.begin_upper.new.turn _ _ (λ h. settled (with_window h 1))
    c.args.next c.requires.sound c.begin_upper.ensures.redraws)

pub returns-in_err-moved-in-Some-clause-told : goal.returns-in_err-moved-in-Some-clause-told
returns-in_err-moved-in-Some-clause-told c =
    let here = place c.args.turn.now c.args.next in
    told_by _ (cursor_to (with_window here 1) _ 1 1) (set_window here c.args.window)
    (upper_again here c.args.window _ c.if-window-eq-LOWER.false (sym c.in-Some.is ∙ c.open_upper.ensures c.args.next))
    (cursor_stopped (place c.args.turn.now) _ (with_window here 1) _ 1 1 c.from_residual.ensures.1
    c.in_err-moved-in-Some.ensures.told)

pub returns-in_ok-moved-in-Some-clause-told : goal.returns-in_ok-moved-in-Some-clause-told
returns-in_ok-moved-in-Some-clause-told c =
    let here = place c.args.turn.now c.args.next in
    told_by _ (cursor_to (with_window here 1) _ 1 1) (set_window here c.args.window)
    (upper_again here c.args.window _ c.if-window-eq-LOWER.false (sym c.in-Some.is ∙ c.open_upper.ensures c.args.next))
    (cursor_moved (with_window here 1) _ _ 1 1 c.in_ok-moved-in-Some.ensures.told)
