use Rattle.std.proofs.Common.{refl, arith}
use Rattle.machine_standard_opcodes.proofs.zscii.add_whole.Goals as goal

pub returns-then-begun-ne0-clause-added : goal.returns-then-begun-ne0-clause-added
returns-then-begun-ne0-clause-added c = record {
  whole = λ e. absurd (c.if-begun-ne0.true e);
  parted = λ e. (refl, refl);
}

pub returns-clause-added : goal.returns-clause-added
returns-clause-added c = record {
  whole = λ e. (rw c.zscii_of.ensures at c.in_ok-push.ensures.items, refl);
  parted = λ e. absurd (e (omega arith));
}
