use Rattle.machine_standard.proofs.StyledTurns.{now_begun, unasked}
use Rattle.machine_standard.proofs.styled.end_given.Goals as goal

pub returns-then-not-has_styles-clause-styles : goal.returns-then-not-has_styles-clause-styles
returns-then-not-has_styles-clause-styles c = unasked c.end.result c.args.has_styles _ c.if-not-has_styles.true

pub returns-in-Ok-clause-styles : goal.returns-in-Ok-clause-styles
returns-in-Ok-clause-styles c = now_begun c.end-in-Ok.result c.args.has_styles c.in-Ok.ensures

pub returns-in-Err-clause-given_up : goal.returns-in-Err-clause-given_up
returns-in-Err-clause-given_up c = record {
  cells = c.abandon.ensures.cells;
  beginning = c.abandon.ensures.beginning;
  kept = c.abandon.ensures.kept;
  fixed = c.abandon.ensures.fixed;
}
