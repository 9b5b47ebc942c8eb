use Rattle.std.proofs.Common.{ℕ, sym, ◌∙◌}
use Rattle.syntax_trees.specs.declared.tree.Name.{Name}
use Rattle.checker_values.specs.Scope.{seen_in}
use Rattle.checker_values.proofs.Each.{each_there, each_end, value_end}
use Rattle.checker_values.specs.Walk.{own_property_breaches, resolved_property}
use Rattle.checker_values.proofs.Mapping.{more_there}
use Rattle.checker_values.proofs.expression_rules.property_numbers.Goals as goal

pub loop-name-preserved : goal.loop-name-preserved
loop-name-preserved c =
    let f = λ (x : Name). own_property_breaches (seen_in c.args.scope.now) x in
    let g = λ (x : Name). resolved_property (seen_in c.args.scope.now) x in
    let part = c.property_of-number.ensures in
    record {
      value = rw c.in_ok-push.ensures.items
          (more_there g c.loop-name.numbers.items c.property_of-number.result c.args.others.now c.loop-name.name-index _
          c.loop-name-test.true c.loop-name.invariant.value part.value);
      tally = each_there f g (λ (n : ℕ). n) c.loop-name.tally _ c.args.others.now c.loop-name.name-index _
          c.loop-name-test.true part.breaches ∙ c.loop-name.invariant.tally;
    }

pub returns : goal.returns
returns c =
    let f = λ (x : Name). own_property_breaches (seen_in c.args.scope.now) x in
    let g = λ (x : Name). resolved_property (seen_in c.args.scope.now) x in
    record {
      value = c.loop-name.invariant.value
          ∙ value_end f g (λ (n : ℕ). n) c.args.others.now c.loop-name.name-index c.loop-name-test.false;
      breaches = sym
          (each_end f g (λ (n : ℕ). n) c.loop-name.tally c.args.others.now c.loop-name.name-index
          c.loop-name-test.false)
          ∙ c.loop-name.invariant.tally;
    }
