use Rattle.std.proofs.Common.{◌∙◌, arith}
use Rattle.derive_joined.specs.Joiners.{state_of}
use Rattle.derive_joined.proofs.Steps.{origin_next}
use Rattle.derive_joined.proofs.source.origin.Goals as goal

pub loop-at-preserved : goal.loop-at-preserved
loop-at-preserved c =
    let j = c.in_ok-take.ensures.joins in
    record {
      within = omega (arith, c.loop-at-test.true);
      ends = omega (arith, c.in_ok-take.ensures.grows, c.loop-at.invariant.ends);
      before = omega (arith, c.if-len-offset.false, c.len.ensures);
      rest = origin_next (state_of c.loop-at.joiner) (state_of c.take.new.self) c.args.source.now c.from.result.now
          c.loop-at.joiner.text.items c.take.new.self.text.items c.loop-at.at c.args.offset c.loop-at-test.true
          c.from.ensures j.writes j.moves (omega (arith, c.if-len-offset.false, c.len.ensures))
          ∙ c.loop-at.invariant.rest;
    }
