use Rattle.std.proofs.Common.{ap, ◌∙◌}
use Rattle.checker_values.specs.Noted.{noted}
use Rattle.checker_values.specs.Scope.{number_at}
use Rattle.checker_values.specs.Expressions.{target_breaches, value_of_binding}
use Rattle.checker_values.proofs.expression_rules.left_name.Goals as goal

pub returns : goal.returns
returns c = record {
  value = c.named.ensures ∙ ap (value_of_binding (number_at c.args.scope.now.file.now.numbers)) c.look-found.ensures;
  breaches = c.target_of.ensures.breaches
      ∙ ap (λ f. noted c.args.tally.now (target_breaches c.args.name.position c.args.operator f)) c.look-found.ensures;
}
