use Rattle.derive_operands.specs.QuietViews.{run_of}
use Rattle.derive_tokens.specs.Pieces.{derived_all}
use Rattle.derive_tokens.specs.Held.{names_of}
use Rattle.derive_operands.specs.AlternativeViews.{choosing_of}
use Rattle.derive_operands.proofs.QuietChoices.{chosen_over}
use Rattle.derive_operands.proofs.alternatives.Choosing.put_next.Goals as goal

pub returns-then-count-gt0-clause-value : goal.returns-then-count-gt0-clause-value
returns-then-count-gt0-clause-value c =
    chosen_over (names_of c.args.keys.now) (choosing_of c.args.self.now) c.args.pieces.now (run_of c.run_ahead-run.result)
    c.scope_at-self.result
    (derived_all c.args.out.now.items)
    (derived_all c.put_first.new.out.items) c.scope_at-self.ensures (c.run_ahead-run.ensures.state c.if-count-gt0.true)
    (c.run_ahead-run.ensures.value c.if-count-gt0.true) c.if-count-gt0.true
    c.in_ok-put_first.ensures
