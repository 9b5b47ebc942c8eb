use Rattle.std.proofs.Common.{◌≡◌, ◌+◌, ap, refl, ◌∙◌, arith}
use Rattle.meaning.specs.Places.{property_size}
use Rattle.meaning.proofs.Folding.{properties_total, property_part, properties_more}
use Rattle.messages_diagnosis.proofs.Summing.{sum_step, sum_end}
use Rattle.messages_diagnosis.proofs.table_bytes.properties_bytes.Goals as goal

pub loop-property-preserved : goal.loop-property-preserved
loop-property-preserved c =
    let i = c.loop-property in
    let x = c.property-item.result in
    let part : c.property_bytes-size.result ≡ property_part x =
    c.property_bytes-size.ensures.size x.0 ∙ ap (λ words. property_size (x.0, words)) c.deref.ensures.value in
    record {
      sum = sum_step properties_total property_part refl properties_more c.args.properties.now i.property-index i.size
          i.invariant.sum x _ c.loop-property-test.true c.property-item.is (ap (λ n. i.size + n) part);
      bound = omega (arith, c.property_bytes-size.ensures.few);
    }

pub returns-clause-size : goal.returns-clause-size
returns-clause-size c =
    let i = c.loop-property in
    sum_end properties_total property_part refl properties_more c.args.properties.now i.property-index i.size
    i.invariant.sum c.loop-property-test.false
