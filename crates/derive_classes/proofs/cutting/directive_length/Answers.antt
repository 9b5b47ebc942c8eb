use Rattle.std.proofs.Common.{◌≡◌, ◌+◌, length, sym, ap, ◌∙◌, arith}
use Rattle.derive_classes.proofs.Cuts.{cut_all, cut_at, cut_here, cut_on}
use Rattle.derive_classes.proofs.cutting.directive_length.Goals as goal

-- src/cutting.rt: a `;` outside of brackets
pub returns-then-ends_directive-clause-cuts : goal.returns-then-ends_directive-clause-cuts
returns-then-ends_directive-clause-cuts c =
    sym c.loop-at.invariant.rest
    ∙ cut_here c.loop-at.depth c.args.pieces.now c.loop-at.at _ c.loop-at-test.true
    (sym c.ends_directive.ensures ∙ c.if-ends_directive.true)

-- src/cutting.rt: one token more
pub loop-at-preserved : goal.loop-at-preserved
loop-at-preserved c = record {
  shallow = omega arith;
  rest =
      ap (λ d. cut_at d (c.loop-at.at + 1) c.args.pieces.now) c.depth_after-depth.ensures.value
      ∙ cut_on c.loop-at.depth c.args.pieces.now c.loop-at.at _ c.loop-at-test.true
      (sym c.ends_directive.ensures ∙ c.if-ends_directive.false)
      ∙ c.loop-at.invariant.rest;
}

-- src/cutting.rt: all
pub returns-clause-cuts : goal.returns-clause-cuts
returns-clause-cuts c =
    let whole : c.loop-at.at ≡ length c.args.pieces.now = omega arith in
    sym c.loop-at.invariant.rest
    ∙ ap (λ at. cut_at c.loop-at.depth at c.args.pieces.now) whole
    ∙ cut_all c.loop-at.depth c.args.pieces.now c.requires
