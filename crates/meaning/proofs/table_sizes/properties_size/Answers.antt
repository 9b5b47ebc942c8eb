use Rattle.std.proofs.Common.{◌≡◌, ◌+◌, ap, refl, ◌∙◌}
use Rattle.meaning.specs.Places.{folded, property_size}
use Rattle.meaning.proofs.Folding.{properties_total, property_part, properties_more, sum_step, sum_end}
use Rattle.meaning.proofs.table_sizes.properties_size.Goals as goal

pub loop-property-preserved : goal.loop-property-preserved
loop-property-preserved c =
    let i = c.loop-property in
    let x = c.property-item.result in
    let part : c.property_size.result ≡ property_part x =
    c.property_size.ensures.size x.0 ∙ ap (λ words. property_size (x.0, words)) c.deref.ensures.value in
    record {
      sum = sum_step properties_total property_part refl properties_more c.args.properties.now i.property-index i.size
          i.invariant.sum x _ c.loop-property-test.true c.property-item.is
          (c.fold-size.ensures.size ∙ ap (λ n. folded (i.size + n)) part);
      bound = c.fold-size.ensures.few;
    }

pub returns-clause-size : goal.returns-clause-size
returns-clause-size c =
    let i = c.loop-property in
    sum_end properties_total property_part refl properties_more c.args.properties.now i.property-index i.size
    i.invariant.sum c.loop-property-test.false i.invariant.bound
