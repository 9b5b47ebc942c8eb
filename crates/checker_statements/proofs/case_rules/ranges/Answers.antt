use Rattle.std.proofs.Common.{sym, ◌∙◌, arith}
use Rattle.syntax_statements.specs.declared.part_tree.Range.{Range}
use Rattle.meaning.specs.Views.{range_of}
use Rattle.checker_values.specs.Scope.{seen_in}
use Rattle.checker_values.proofs.Each.{each_next, each_end, value_next, value_end}
use Rattle.checker_statements.specs.Walk.{own_range_breaches, resolved_range}
use Rattle.checker_statements.proofs.case_rules.ranges.Goals as goal

pub loop-x-preserved : goal.loop-x-preserved
loop-x-preserved c =
    let f = λ (x : Range). own_range_breaches (seen_in c.args.scope.now) x in
    let g = λ (x : Range). resolved_range (seen_in c.args.scope.now) x in
    record {
      value = rw c.push_reserved.ensures.items
          (value_next f g range_of c.loop-x.found.items c.range-resolved.result c.args.given.now c.loop-x.x-index
          c.x-item.result c.loop-x-test.true c.x-item.is c.loop-x.invariant.value c.range-resolved.ensures.value);
      tally = rw c.range-resolved.ensures.breaches
          (sym (each_next f g range_of c.loop-x.tally c.args.given.now c.loop-x.x-index c.x-item.result
          c.loop-x-test.true c.x-item.is) ∙ c.loop-x.invariant.tally);
      count = omega (arith, c.push_reserved.ensures.len, c.loop-x.invariant.count);
      room = omega (arith, c.push_reserved.ensures.capacity, c.loop-x.invariant.room);
    }

pub returns : goal.returns
returns c =
    let f = λ (x : Range). own_range_breaches (seen_in c.args.scope.now) x in
    let g = λ (x : Range). resolved_range (seen_in c.args.scope.now) x in
    record {
      value = c.loop-x.invariant.value ∙ value_end f g range_of c.args.given.now c.loop-x.x-index
          c.loop-x-test.false;
      breaches = sym (each_end f g range_of c.loop-x.tally c.args.given.now c.loop-x.x-index c.loop-x-test.false)
          ∙ c.loop-x.invariant.tally;
    }
