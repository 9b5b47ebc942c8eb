use Rattle.std.proofs.Common.{◌≡◌, length, arith}
use Rattle.syntax_directives.specs.Views.{object_tree}
use Rattle.checker_statements.proofs.Chains.{parents_next, standing_next, standing_end, trees_next, trees_end}
use Rattle.checker_statements.proofs.standing.parents.Goals as goal

pub loop-directive-preserved : goal.loop-directive-preserved
loop-directive-preserved c =
    let count : c.len-before.result ≡ length c.loop-directive.parents.items = omega
    (arith, c.len-before.ensures, c.loop-directive.parents.ok.0) in
    let trees = trees_next c.args.directives.now c.loop-directive.directive-index c.directive-item.result
    c.in-Object.object c.loop-directive-test.true c.directive-item.is c.in-Object.is in
    record {
      value = parents_next c.args.whole.now.entries c.loop-directive.chain.items c.stand.new.chain.items
          c.loop-directive.parents.items c.push.new.self.items _ c.in-Ok.parent c.len-before.result
          (object_tree c.in-Object.object) _ _ trees count c.in_ok-push.ensures.items c.in-Ok.ensures.value
          c.in-Ok.ensures.chain c.loop-directive.invariant.value;
      tally = standing_next c.args.whole.now.entries c.loop-directive.chain.items c.stand.new.chain.items
          c.loop-directive.parents.items c.push.new.self.items c.in-Ok.parent c.len-before.result
          c.loop-directive.tally c.stand.new.tally _ (object_tree c.in-Object.object) _ _ trees count
          c.in_ok-push.ensures.items c.in-Ok.ensures.chain c.in-Ok.ensures.breaches
          c.loop-directive.invariant.tally;
    }

pub returns-clause-breaches : goal.returns-clause-breaches
returns-clause-breaches c =
    standing_end c.args.whole.now.entries c.loop-directive.chain.items (length c.loop-directive.parents.items)
    c.loop-directive.tally _ _
    (trees_end c.args.directives.now c.loop-directive.directive-index c.loop-directive-test.false)
    c.loop-directive.invariant.tally
