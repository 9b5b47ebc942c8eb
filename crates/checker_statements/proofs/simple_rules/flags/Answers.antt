use Rattle.std.proofs.Common.{Bool, ℕ, sym, ◌∙◌, arith}
use Rattle.syntax_trees.specs.declared.tree.Name.{Name}
use Rattle.checker_values.specs.Scope.{seen_in}
use Rattle.checker_values.proofs.Each.{each_there, each_end, value_end}
use Rattle.checker_values.proofs.Mapping.{more_there}
use Rattle.checker_statements.specs.Walk.{own_flag_breaches, resolved_flag}
use Rattle.checker_statements.proofs.simple_rules.flags.Goals as goal

pub loop-x-preserved : goal.loop-x-preserved
loop-x-preserved c =
    let f = λ (x : Bool × Name). own_flag_breaches (seen_in c.args.scope.now) x in
    let g = λ (x : Bool × Name). resolved_flag (seen_in c.args.scope.now) x in
    record {
      value = rw c.push_reserved.ensures.items
          (more_there g c.loop-x.found.items c.flag-resolved.result c.args.given.now c.loop-x.x-index _
          c.loop-x-test.true c.loop-x.invariant.value c.flag-resolved.ensures.value);
      tally = each_there f g (λ (x : Bool × ℕ). x) c.loop-x.tally _ c.args.given.now c.loop-x.x-index _
          c.loop-x-test.true c.flag-resolved.ensures.breaches ∙ c.loop-x.invariant.tally;
      count = omega (arith, c.push_reserved.ensures.len, c.loop-x.invariant.count);
      room = omega (arith, c.push_reserved.ensures.capacity, c.loop-x.invariant.room);
    }

pub returns : goal.returns
returns c =
    let f = λ (x : Bool × Name). own_flag_breaches (seen_in c.args.scope.now) x in
    let g = λ (x : Bool × Name). resolved_flag (seen_in c.args.scope.now) x in
    record {
      value = c.loop-x.invariant.value
          ∙ value_end f g (λ (x : Bool × ℕ). x) c.args.given.now c.loop-x.x-index c.loop-x-test.false;
      breaches = sym
          (each_end f g (λ (x : Bool × ℕ). x) c.loop-x.tally c.args.given.now c.loop-x.x-index c.loop-x-test.false)
          ∙ c.loop-x.invariant.tally;
    }
