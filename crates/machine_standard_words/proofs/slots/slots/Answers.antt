use Rattle.std.proofs.Common.{◌≡◌, [], ap, ◌∙◌, sym, subst, arith}
use Rattle.zcore.specs.Cutting.{words_of}
use Rattle.tables.specs.Placed.{words_left}
use Rattle.zcore.specs.Parsing.{separators_of}
use Rattle.zcore_standard.specs.Texts.{alphabets_of}
use Rattle.machine_lines.proofs.Words.{AreWithin, words_within}
use Rattle.machine_standard_words.proofs.Filling.{parse_begins, parse_goes_on}
use Rattle.machine_standard_words.proofs.slots.slots.Goals as goal

pub loop-count-init : goal.loop-count-init
unfolding words_of
loop-count-init c =
    let m = c.args.memory.now in
    let d = c.args.search.dictionary in
    let e : words_left c.cut_line-words.result ≡ words_of (separators_of m d) c.args.letters.now =
    c.cut_line-words.ensures.words ∙ ap (λ s. words_of s c.args.letters.now) c.separators.ensures in
    record {
      parses = parse_begins (alphabets_of c.args.loaded.now) m d c.args.search.flag c.args.letters.now c.args.most c.args.at c.args.bytes.now _ e;
      few = omega arith;
      long = c.told-bytes;
      within = subst (AreWithin 255) (sym e) (words_within (separators_of m d) [] c.args.letters.now 0 255
          (omega (arith, c.requires.few)));
    }

pub loop-count-preserved : goal.loop-count-preserved
loop-count-preserved c = record {
  parses = parse_goes_on (alphabets_of c.args.loaded.now) c.args.memory.now c.args.search.dictionary c.args.search.flag c.args.letters.now c.args.most
      c.args.at c.loop-count.bytes c.put_slot.new.bytes c.loop-count.count _ _ _ c.loop-count.invariant.parses
      c.loop-count-test.true c.in-Some.ensures.steps c.put_slot.ensures;
  few = omega (arith, c.loop-count-test.true);
  long = c.put_slot.array_long;
  within = (subst (AreWithin 255) c.in-Some.ensures.steps c.loop-count.invariant.within).1;
}
