use Rattle.screen.proofs.Drawing.{passes, rests}
use Rattle.screen.proofs.drawn.DrawnWrite.flush.Goals as goal

pub invariant_of-self : goal.invariant_of-self
invariant_of-self g c = record { drew = passes _ _ _ _ _ _ _ _ _ _ c.pass_on.ensures.passed c.args.self.now.drew }

pub invariant_of-self-in-Break-branch-3 : goal.invariant_of-self-in-Break-branch-3
invariant_of-self-in-Break-branch-3 g c = record {
  drew = passes _ _ _ _ _ _ _ _ _ _ c.pass_on-2.ensures.passed c.draw.new.self.drew;
}

pub invariant_of-self-2 : goal.invariant_of-self-2
invariant_of-self-2 g c = record {
  drew = rests _ _ _ _ _ _ _ _ _ c.flush.ensures.bytes
      (passes _ _ _ _ _ _ _ _ _ _ c.pass_on-2.ensures.passed c.draw.new.self.drew);
}
