use Rattle.std.proofs.Common.{refl, ◌∙◌}
use Rattle.meaning.proofs.Folding.{fold_part, sum_step, sum_end}
use Rattle.checker_statements.proofs.Sizes.{directives_total, directive_part, directives_more}
use Rattle.checker_statements.proofs.listed.listed_objects_size.Goals as goal

pub loop-directive-preserved : goal.loop-directive-preserved
loop-directive-preserved c =
    let i = c.loop-directive in
    let x = c.directive-item.result in
    record {
      sum = sum_step directives_total directive_part refl directives_more c.args.directives.now i.directive-index i.size
          i.invariant.sum x _ c.loop-directive-test.true c.directive-item.is
          (c.fold-size.ensures.size
          ∙ fold_part i.size (directive_part x) c.directive_size.result c.directive_size.ensures.size);
      bound = c.fold-size.ensures.few;
    }

pub returns-clause-size : goal.returns-clause-size
returns-clause-size c =
    let i = c.loop-directive in
    sum_end directives_total directive_part refl directives_more c.args.directives.now i.directive-index i.size
    i.invariant.sum c.loop-directive-test.false i.invariant.bound
