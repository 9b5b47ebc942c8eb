use Rattle.std.proofs.Common.{arith}
use Rattle.derive_tokens.specs.Held.{names_of}
use Rattle.derive_entries.specs.Views.{placing_of}
use Rattle.derive_entries.proofs.Found.{places_skip}
use Rattle.derive_entries.proofs.statements.places_of.Goals as goal

pub loop-at-preserved-then-count-gt0 : goal.loop-at-preserved-then-count-gt0
loop-at-preserved-then-count-gt0 c = record {
  within = omega (arith, c.bare_length-count.ensures.within, c.after-front.ensures.shorter, c.loop-at.invariant.within);
  few = omega (arith, c.in_ok-step.ensures.grows, c.loop-at.invariant.few, c.if-count-gt0.true);
  room = c.loop-at.invariant.room;
  rest = places_skip (names_of c.args.arrays.now) (names_of c.loop-at.places) _ (placing_of c.loop-at.placing)
      (placing_of c.step.new.self) c.args.pieces.now c.after-front.result.now c.loop-at.at c.bare_length-count.result _
      c.if-count-gt0.true c.bare_length-count.ensures.within c.after-front.ensures.value
      (c.bare_length-count.ensures.bare c.if-count-gt0.true)
      (omega (
        arith,
        c.bare_length-count.ensures.within,
        c.after-front.ensures.shorter,
        c.loop-at.invariant.within,
        c.if-count-gt0.true,
      ))
      c.in_ok-step.ensures.value c.loop-at.invariant.rest;
}
