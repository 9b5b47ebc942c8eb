use Rattle.std.proofs.Common.{sym, ◌∙◌}
use Rattle.checker.proofs.Abbreviated.{has_here, has_next}
use Rattle.checker.proofs.abbreviation_rules.has_text.Goals as goal

pub returns-then-eq : goal.returns-then-eq
returns-then-eq c =
    sym (has_here c.args.texts.now c.loop-text.text-index _ c.args.bytes.now c.loop-text-test.true
    (sym c.eq.ensures ∙ c.if-eq.true)) ∙ c.loop-text.invariant

pub loop-text-preserved : goal.loop-text-preserved
loop-text-preserved c =
    sym (has_next c.args.texts.now c.loop-text.text-index _ c.args.bytes.now c.loop-text-test.true
    (sym c.eq.ensures ∙ c.if-eq.false)) ∙ c.loop-text.invariant
