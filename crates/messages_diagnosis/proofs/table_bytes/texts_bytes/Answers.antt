use Rattle.std.proofs.Common.{◌≡◌, ◌+◌, ap, refl, ◌∙◌, arith}
use Rattle.meaning.specs.Places.{text_size}
use Rattle.meaning.proofs.Folding.{texts_total, text_part, texts_more}
use Rattle.messages_diagnosis.proofs.Summing.{sum_step, sum_end}
use Rattle.messages_diagnosis.proofs.table_bytes.texts_bytes.Goals as goal

pub loop-text-preserved : goal.loop-text-preserved
loop-text-preserved c =
    let i = c.loop-text in
    let x = c.text-item.result in
    let part : c.text_bytes-size.result ≡ text_part x = c.text_bytes-size.ensures.size ∙ ap text_size c.deref.ensures.value in
    record {
      sum = sum_step texts_total text_part refl texts_more c.args.texts.now i.text-index i.size
          i.invariant.sum x _ c.loop-text-test.true c.text-item.is (ap (λ n. i.size + n) part);
      bound = omega (arith, c.text_bytes-size.ensures.few);
    }

pub returns-clause-size : goal.returns-clause-size
returns-clause-size c =
    let i = c.loop-text in
    sum_end texts_total text_part refl texts_more c.args.texts.now i.text-index i.size i.invariant.sum
    c.loop-text-test.false
