use Rattle.std.proofs.Common.{reverse, arith}
use Rattle.derive_tokens.specs.Pieces.{derived_all}
use Rattle.derive_tokens.specs.Held.{names_of}
use Rattle.derive_entries.specs.Views.{placing_of}
use Rattle.derive_entries.proofs.Bare.{statement_on}
use Rattle.derive_entries.proofs.entries.entered.Goals as goal

pub loop-at-preserved-then-count-gt0 : goal.loop-at-preserved-then-count-gt0
loop-at-preserved-then-count-gt0 c = record {
  within = omega (arith, c.stays-count.ensures.within, c.after-rest.ensures.shorter, c.loop-at.invariant.within);
  few = omega (arith, c.in_ok-put_bare.ensures.grows, c.loop-at.invariant.few, c.if-count-gt0.true);
  rest = statement_on (names_of c.args.arrays.now) (names_of c.args.places.now) (placing_of c.loop-at.entering.placing)
      (placing_of c.put_bare.new.placing) c.loop-at.entering.frame (reverse c.loop-at.entering.outer.items)
      c.args.pieces.now c.after-rest.result.now c.loop-at.at c.stays-count.result (derived_all c.loop-at.out.items)
      (derived_all c.put_bare.new.out.items) _ (c.stays-count.ensures.clear c.if-count-gt0.true)
      c.after-rest.ensures.value c.if-count-gt0.true c.stays-count.ensures.within
      (c.stays-count.ensures.quiet c.if-count-gt0.true) (c.stays-count.ensures.bare c.if-count-gt0.true)
      c.in_ok-put_bare.ensures.put c.in_ok-put_bare.ensures.placing c.loop-at.invariant.rest;
}
