use Rattle.terminal.proofs.Broken.{gathers}
use Rattle.terminal.proofs.wrapped.WrappedWrite.write.Goals as goal

pub invariant_of-self-2 : goal.invariant_of-self-2
invariant_of-self-2 g c = record {
  broken = gathers _ _ _ _ _ _ c.args.buf.now c.in_ok-extend_from_slice.ensures.items c.add.ensures
      c.args.self.now.broken;
}
