use Rattle.std.proofs.Common.{◌≡◌, ◌+◌, ap, refl, ◌∙◌}
use Rattle.meaning.specs.Places.{folded, text_size}
use Rattle.meaning.proofs.Folding.{texts_total, text_part, texts_more, sum_step, sum_end}
use Rattle.meaning.proofs.table_sizes.texts_size.Goals as goal

pub loop-text-preserved : goal.loop-text-preserved
loop-text-preserved c =
    let i = c.loop-text in
    let x = c.text-item.result in
    let part : c.text_size.result ≡ text_part x =
    c.text_size.ensures.size ∙ ap text_size c.deref.ensures.value in
    record {
      sum = sum_step texts_total text_part refl texts_more c.args.texts.now i.text-index i.size
          i.invariant.sum x _ c.loop-text-test.true c.text-item.is
          (c.fold-size.ensures.size ∙ ap (λ n. folded (i.size + n)) part);
      bound = c.fold-size.ensures.few;
    }

pub returns-clause-size : goal.returns-clause-size
returns-clause-size c =
    let i = c.loop-text in
    sum_end texts_total text_part refl texts_more c.args.texts.now i.text-index i.size
    i.invariant.sum c.loop-text-test.false i.invariant.bound
