use Rattle.std.proofs.Common.{arith, inl, inr}
use Rattle.zcore_standard.specs.Windows.{erase_upper, erase_window, set_window}
use Rattle.machine_standard_windows.proofs.Selecting.{redraws_by, redraws_nothing, erases_upper, erases_both, erases_nothing}
use Rattle.machine_standard_windows.proofs.windows.erase_window.Goals as goal

pub returns-in-1-clause-redraws : goal.returns-in-1-clause-redraws
returns-in-1-clause-redraws c = redraws_by c.args.start c.args.turn.now c.erase_upper.new.turn _ _ erase_upper
    (λ here. erase_window here c.args.window) (erases_upper c.args.window (inl c.in-1.is)) c.erase_upper.ensures.redraws

pub returns-in-65534-clause-redraws : goal.returns-in-65534-clause-redraws
returns-in-65534-clause-redraws c = redraws_by c.args.start c.args.turn.now c.erase_upper-in-65534.new.turn _ _ erase_upper
    (λ here. erase_window here c.args.window) (erases_upper c.args.window (inr c.in-65534.is))
    c.erase_upper-in-65534.ensures.redraws

pub returns-in-65535-clause-redraws : goal.returns-in-65535-clause-redraws
returns-in-65535-clause-redraws c = redraws_by c.args.start c.args.turn.now c.select_lower.new.turn _ _
    (λ here. set_window here 0) (λ here. erase_window here c.args.window) (erases_both c.args.window c.in-65535.is)
    c.select_lower.ensures.redraws

pub returns-in_default-clause-redraws : goal.returns-in_default-clause-redraws
returns-in_default-clause-redraws c = redraws_nothing c.args.start c.args.turn.now c.args.text.now.items
    (λ here. erase_window here c.args.window)
    (erases_nothing c.args.window (λ h. absurd (omega (arith, h)))
    (λ h. absurd (omega (arith, h)))
    (λ h. absurd (omega (arith, h))))
