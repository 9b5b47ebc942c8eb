use Rattle.std.proofs.Common.{◌≡◌, ◌+◌, ap, refl, ◌∙◌, arith}
use Rattle.meaning.specs.Places.{folded, table_size}
use Rattle.meaning.specs.Views.{object_of}
use Rattle.meaning.proofs.Folding.{objects_total, object_part, objects_more, fold_part, sum_step, sum_end}
use Rattle.meaning.proofs.places.objects_size.Goals as goal

pub loop-object-preserved : goal.loop-object-preserved
loop-object-preserved c =
    let i = c.loop-object in
    let x = c.object-item.result in
    let t = table_size (object_of x) in
    let sum : i.size + 14 + t ≡ i.size + (14 + t) = omega arith in
    record {
      sum = sum_step objects_total object_part refl objects_more c.args.objects.now i.object-index i.size
          i.invariant.sum x _ c.loop-object-test.true c.object-item.is
          (c.fold-size.ensures.size ∙ fold_part (i.size + 14) t c.table_size.result c.table_size.ensures.size
          ∙ ap folded sum);
      bound = c.fold-size.ensures.few;
    }

pub returns-clause-size : goal.returns-clause-size
returns-clause-size c =
    let i = c.loop-object in
    sum_end objects_total object_part refl objects_more c.args.objects.now i.object-index i.size i.invariant.sum
    c.loop-object-test.false i.invariant.bound
