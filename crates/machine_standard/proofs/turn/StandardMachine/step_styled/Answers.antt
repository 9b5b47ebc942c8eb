use Rattle.std.proofs.Common.{subst, List, ℕ}
use Rattle.machine_frames.specs.States.{state_of}
use Rattle.machine_standard_windows.specs.TurnState.{place}
use Rattle.machine_standard_windows.proofs.TurnTexts.{keeps_still}
use Rattle.machine_standard.specs.Loads.{story_of}
use Rattle.machine_standard.proofs.StyledTurns.{lent}
use Rattle.machine_picture.specs.Represented.{styles_of}
use Rattle.machine_styling.specs.Restyling.{IsBefore}
use Rattle.machine_standard.proofs.turn.StandardMachine.step_styled.Goals as goal

pub before_step-requires : goal.before_step-requires
before_step-requires c = c.requires.store.store

pub step_before-requires-clause-before : goal.step_before-requires-clause-before
step_before-requires-clause-before c =
    subst (λ (l : List ℕ). IsBefore (story_of c.args.self.now) (place c.args.turn.now c.args.here)
    (state_of c.args.store.now.store l) (styles_of c.args.styles.now).style c.in-Ok.before)
    (lent c.args.start c.args.text.now.items c.deref.result.now c.deref.ensures.value)
    (c.in-Ok.ensures.before c.args.self.now.loaded)

pub returns-in-Err-clause-told : goal.returns-in-Err-clause-told
returns-in-Err-clause-told c = record { told = c.in-Err.ensures.given_up }

pub returns-in-Err-clause-text : goal.returns-in-Err-clause-text
returns-in-Err-clause-text c = keeps_still _ _ c.requires.text
