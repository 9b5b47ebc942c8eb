use Rattle.std.proofs.Common.{◌≡◌, ap, ◌∙◌, arith}
use Rattle.zcore.specs.Cutting.{words_of}
use Rattle.tables.specs.Placed.{words_left}
use Rattle.zcore.specs.Parsing.{separators_of}
use Rattle.machine_standard_words.proofs.Filling.{count_begins, count_goes_on}
use Rattle.machine_standard_words.proofs.slots.count_words.Goals as goal

pub loop-count-init : goal.loop-count-init
loop-count-init c =
    let m = c.args.memory.now in
    let d = c.args.dictionary in
    let e : words_left c.cut_line-words.result ≡ words_of (separators_of m d) c.args.letters.now =
    c.cut_line-words.ensures.words ∙ ap (λ s. words_of s c.args.letters.now) c.separators.ensures in
    record { counts = count_begins m d c.args.letters.now c.args.most _ e; few = omega arith }

pub loop-count-preserved : goal.loop-count-preserved
loop-count-preserved c = record {
  counts = count_goes_on c.args.memory.now c.args.dictionary c.args.letters.now c.args.most c.loop-count.count _ _ _
      c.loop-count.invariant.counts c.loop-count-test.true c.in-Some.ensures.steps;
  few = omega (arith, c.loop-count-test.true);
}
