use Rattle.std.proofs.Common.{arith, drop}
use Rattle.std.proofs.lemmas.List.{length-drop}
use Rattle.machine_frames.specs.States.{state_of}
use Rattle.machine_standard_windows.specs.TurnState.{place}
use Rattle.machine_standard_windows.proofs.TurnTexts.{keeps_still}
use Rattle.machine_standard.specs.Loads.{story_of}
use Rattle.machine_standard.proofs.StyledTurns.{begun_long, from_begun, unasked}
use Rattle.machine_picture.specs.Represented.{styles_of}
use Rattle.machine_standard.proofs.turn.StandardMachine.run_on.Goals as goal

pub run_styled-requires-clause-long : goal.run_styled-requires-clause-long
run_styled-requires-clause-long c =
    begun_long (styles_of c.args.styles.now).style _ c.args.start c.args.text.now.items (styles_of c.begin.new.self)
    c.in-Ok.ensures (omega arith)

pub returns-then-not-has_styles-clause-styles : goal.returns-then-not-has_styles-clause-styles
returns-then-not-has_styles-clause-styles c = unasked c.run.result c.args.has_styles _ c.if-not-has_styles.true

pub returns-in-Ok-clause-styles : goal.returns-in-Ok-clause-styles
returns-in-Ok-clause-styles c =
    let text = drop c.args.start c.args.text.now.items in
    from_begun c.run_styled.result c.args.has_styles (story_of c.args.self.now) (place c.args.turn.now c.args.first)
    (state_of c.args.store.now.store text) (styles_of c.args.styles.now).style _ (styles_of c.begin.new.self)
    (styles_of c.run_styled.new.styles) c.in-Ok.ensures
    (omega (arith, length-drop c.args.start c.args.text.now.items)) c.run_styled.ensures.styles

-- memory for styles was refused
pub returns-in-Err-clause-given_up : goal.returns-in-Err-clause-given_up
returns-in-Err-clause-given_up c = record {
  cells = c.abandon.ensures.cells;
  beginning = c.abandon.ensures.beginning;
  kept = c.abandon.ensures.kept;
  fixed = c.abandon.ensures.fixed;
}

pub returns-in-Err-clause-text : goal.returns-in-Err-clause-text
returns-in-Err-clause-text c = keeps_still _ _ c.requires.text
