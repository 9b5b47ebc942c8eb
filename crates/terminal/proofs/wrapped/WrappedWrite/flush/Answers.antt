use Rattle.terminal.proofs.Broken.{breaks, passes, rests}
use Rattle.terminal.proofs.wrapped.WrappedWrite.flush.Goals as goal

pub invariant_of-self : goal.invariant_of-self
invariant_of-self g c = record {
  broken = passes _ _ _ _ _ _ c.pass_on.ensures.passed
      (breaks _ _ _ _ _ c.break_all-self.ensures c.args.self.now.broken);
}

pub invariant_of-self-2 : goal.invariant_of-self-2
invariant_of-self-2 g c = record {
  broken = rests _ _ _ _ _ c.flush.ensures.bytes (passes _ _ _ _ _ _ c.pass_on.ensures.passed
      (breaks _ _ _ _ _ c.break_all-self.ensures c.args.self.now.broken));
}
