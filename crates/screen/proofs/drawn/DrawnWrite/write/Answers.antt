use Rattle.screen.proofs.Drawing.{gathers}
use Rattle.screen.proofs.drawn.DrawnWrite.write.Goals as goal

pub invariant_of-self-2 : goal.invariant_of-self-2
invariant_of-self-2 g c = record {
  drew = gathers _ _ _ _ _ _ _ _ _ _ c.args.buf.now c.add.ensures c.in_ok-extend_from_slice.ensures.items
      c.args.self.now.drew;
}
