use Rattle.std.proofs.Common.{◌+◌, ap, refl, arith}
use Rattle.meaning.proofs.Folding.{objects_total, object_part, objects_more}
use Rattle.messages_diagnosis.proofs.Summing.{sum_step, sum_end}
use Rattle.messages_diagnosis.proofs.table_bytes.objects_bytes.Goals as goal

pub loop-object-preserved : goal.loop-object-preserved
loop-object-preserved c =
    let i = c.loop-object in
    record {
      sum = sum_step objects_total object_part refl objects_more c.args.objects.now i.object-index i.size
          i.invariant.sum c.object-item.result _ c.loop-object-test.true c.object-item.is
          (ap (λ n. i.size + n) c.object_bytes-size.ensures.size);
      bound = omega (arith, c.object_bytes-size.ensures.few);
    }

pub returns-clause-size : goal.returns-clause-size
returns-clause-size c =
    let i = c.loop-object in
    sum_end objects_total object_part refl objects_more c.args.objects.now i.object-index i.size i.invariant.sum
    c.loop-object-test.false
