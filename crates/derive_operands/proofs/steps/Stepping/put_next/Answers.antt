use Rattle.derive_operands.specs.QuietViews.{run_of}
use Rattle.derive_tokens.specs.Pieces.{derived_all}
use Rattle.derive_statements.specs.Views.{file_names}
use Rattle.derive_operands.specs.StepViews.{stepping_of}
use Rattle.derive_operands.proofs.QuietSteps.{stepped_over}
use Rattle.derive_operands.proofs.steps.Stepping.put_next.Goals as goal

pub returns-then-count-gt0-clause-value : goal.returns-then-count-gt0-clause-value
returns-then-count-gt0-clause-value c =
    stepped_over (file_names c.args.names.now) (stepping_of c.args.self.now) c.args.pieces.now
    (run_of c.run_ahead-run.result) (derived_all c.args.out.now.items)
    (derived_all c.put_first.new.out.items) (c.run_ahead-run.ensures.state c.if-count-gt0.true)
    (c.run_ahead-run.ensures.value c.if-count-gt0.true) c.if-count-gt0.true
    c.in_ok-put_first.ensures
