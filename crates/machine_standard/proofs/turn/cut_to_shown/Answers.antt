use Rattle.std.proofs.Common.{refl, sym, ◌∙◌}
use Rattle.machine_standard_windows.proofs.TurnTexts.{keeps_still}
use Rattle.machine_standard_windows.specs.TurnState.{place}
use Rattle.machine_standard.proofs.Whole.{shown_heard}
use Rattle.machine_standard.proofs.turn.cut_to_shown.Goals as goal

pub returns-in-Waiting-clause-shown : goal.returns-in-Waiting-clause-shown
returns-in-Waiting-clause-shown c = λ here. rw c.in-Waiting.is refl

pub returns-in-Waiting-clause-text : goal.returns-in-Waiting-clause-text
returns-in-Waiting-clause-text c = keeps_still _ _ c.requires

pub returns-in_default-clause-shown : goal.returns-in_default-clause-shown
returns-in_default-clause-shown c = λ here. c.cut_to_heard.ensures.heard here
    ∙ sym (shown_heard (place c.args.turn.now here) _ _ c.in_default.not-Waiting)
