use Rattle.std.proofs.Common.{sym, ◌∙◌, take, refl}
use Rattle.std.specs.Prelude.{map}
use Rattle.syntax_directives.specs.Views.{text_tree}
use Rattle.checker.proofs.Abbreviated.{texts_next, texts_end}
use Rattle.checker.proofs.abbreviation_rules.abbreviation_rules.Goals as goal

pub loop-i-init : goal.loop-i-init
loop-i-init c = refl

pub loop-i-preserved : goal.loop-i-preserved
loop-i-preserved c =
    texts_next c.loop-i.tally c.text_rule.new.tally c.args.texts.now c.loop-i.i _ c.loop-i-test.true c.text_rule.ensures
    ∙ c.loop-i.invariant

pub returns : goal.returns
returns c =
    sym (texts_end c.loop-i.tally c.args.texts.now c.loop-i.i (map text_tree (take c.loop-i.i c.args.texts.now))
    c.loop-i-test.false) ∙ c.loop-i.invariant
