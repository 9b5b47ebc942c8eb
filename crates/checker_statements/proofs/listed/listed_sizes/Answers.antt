use Rattle.std.proofs.Common.{◌+◌, ap, refl, ◌∙◌}
use Rattle.meaning.specs.Places.{folded}
use Rattle.meaning.proofs.Folding.{sum_step, sum_end}
use Rattle.checker_statements.proofs.Sizes.{properties_total, property_part, properties_more}
use Rattle.checker_statements.proofs.listed.listed_sizes.Goals as goal

pub loop-one-preserved : goal.loop-one-preserved
loop-one-preserved c =
    let i = c.loop-one in
    let x = c.one-item.result in
    record {
      sum = sum_step properties_total property_part refl properties_more c.args.written.now i.one-index i.size
          i.invariant.sum x _ c.loop-one-test.true c.one-item.is
          (c.fold-size.ensures.size ∙ ap (λ n. folded (i.size + n)) c.listed_size.ensures.size);
      bound = c.fold-size.ensures.few;
    }

pub returns-clause-size : goal.returns-clause-size
returns-clause-size c =
    let i = c.loop-one in
    sum_end properties_total property_part refl properties_more c.args.written.now i.one-index i.size
    i.invariant.sum c.loop-one-test.false i.invariant.bound
