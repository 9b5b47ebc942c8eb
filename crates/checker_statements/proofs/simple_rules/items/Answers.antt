use Rattle.std.proofs.Common.{sym, ◌∙◌, arith}
use Rattle.syntax_statements.specs.declared.part_tree.PrintItem.{PrintItem}
use Rattle.meaning.specs.Views.{printed_of}
use Rattle.checker_values.specs.Scope.{seen_in}
use Rattle.checker_values.proofs.Each.{each_next, each_end, value_next, value_end}
use Rattle.checker_statements.specs.Walk.{own_item_breaches, resolved_item}
use Rattle.checker_statements.proofs.simple_rules.items.Goals as goal

pub loop-x-preserved : goal.loop-x-preserved
loop-x-preserved c =
    let f = λ (x : PrintItem). own_item_breaches (seen_in c.args.scope.now) x in
    let g = λ (x : PrintItem). resolved_item (seen_in c.args.scope.now) x in
    record {
      value = rw c.push_reserved.ensures.items
          (value_next f g printed_of c.loop-x.found.items c.in-Ok.resolved c.args.printed.now c.loop-x.x-index
          c.x-item.result c.loop-x-test.true c.x-item.is c.loop-x.invariant.value c.in-Ok.ensures.value);
      tally = rw c.in-Ok.ensures.breaches
          (sym (each_next f g printed_of c.loop-x.tally c.args.printed.now c.loop-x.x-index c.x-item.result
          c.loop-x-test.true c.x-item.is) ∙ c.loop-x.invariant.tally);
      count = omega (arith, c.push_reserved.ensures.len, c.loop-x.invariant.count);
      room = omega (arith, c.push_reserved.ensures.capacity, c.loop-x.invariant.room);
    }

pub returns : goal.returns
returns c =
    let f = λ (x : PrintItem). own_item_breaches (seen_in c.args.scope.now) x in
    let g = λ (x : PrintItem). resolved_item (seen_in c.args.scope.now) x in
    record {
      value = c.loop-x.invariant.value ∙ value_end f g printed_of c.args.printed.now c.loop-x.x-index
          c.loop-x-test.false;
      breaches = sym (each_end f g printed_of c.loop-x.tally c.args.printed.now c.loop-x.x-index c.loop-x-test.false)
          ∙ c.loop-x.invariant.tally;
    }
