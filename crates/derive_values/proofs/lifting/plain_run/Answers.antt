use Rattle.std.proofs.Common.{◌∙◌, sym}
use Rattle.derive_values.proofs.Plain.{outside_still, passes_more}
use Rattle.derive_values.proofs.lifting.plain_run.Goals as goal

-- src/lifting.rt: one token more
pub loop-at-preserved : goal.loop-at-preserved
loop-at-preserved c = record {
  outside = outside_still c.loop-at.level c.level_after-level.result _ c.level_after-level.ensures c.loop-at.invariant.outside
      (sym c.is_opened.ensures ∙ c.if-is_opened.false);
  passes = passes_more c.args.start c.loop-at.level c.level_after-level.result c.args.pieces.now c.loop-at.at _
      c.loop-at-test.true c.loop-at.invariant.outside (sym c.is_opened.ensures ∙ c.if-is_opened.false)
      c.level_after-level.ensures c.loop-at.invariant.passes;
}
