use Rattle.std.proofs.Common.{refl, arith}
use Rattle.machine_picture.proofs.picture.Picture.put_whole.Goals as goal

pub returns-then-begun-ne0 : goal.returns-then-begun-ne0
returns-then-begun-ne0 c = record {
  whole = λ e. absurd (c.if-begun-ne0.true e);
  parted = λ e. (refl, refl);
}

pub returns : goal.returns
returns c = record {
  whole = λ e. (c.in_ok-put_beside.ensures, refl);
  parted = λ e. absurd (e (omega arith));
}
