use Rattle.std.proofs.Common.{ap, ◌∙◌}
use Rattle.checker_values.specs.Noted.{noted}
use Rattle.checker_values.specs.Scope.{number_at}
use Rattle.checker_values.specs.Expressions.{value_breaches, value_of_binding}
use Rattle.checker_values.proofs.expression_rules.named_value.Goals as goal

pub returns : goal.returns
returns c = record {
  value = c.value.ensures.value ∙ ap (value_of_binding (number_at c.args.scope.now.file.now.numbers))
      c.look-found.ensures;
  breaches = c.value.ensures.breaches ∙ ap (λ f. noted c.args.tally.now (value_breaches c.args.name.now.position f))
      c.look-found.ensures;
}
