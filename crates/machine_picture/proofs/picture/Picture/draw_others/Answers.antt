use Rattle.std.proofs.Common.{refl, ◌∙◌, arith}
use Rattle.machine_picture.proofs.Putting.{begun_next, drawn_all, drawn_next, none_begun}
use Rattle.machine_picture.proofs.picture.Picture.draw_others.Goals as goal

pub loop-i-init : goal.loop-i-init
loop-i-init c = record { so_far = refl; begun = none_begun }

pub next_byte-next-requires : goal.next_byte-next-requires
next_byte-next-requires c = c.loop-i.invariant.begun

pub put_whole-requires : goal.put_whole-requires
put_whole-requires c = c.next_byte-next.ensures.begun

pub loop-i-preserved : goal.loop-i-preserved
loop-i-preserved c = record {
  so_far = drawn_next c.args.margin c.args.bytes.now c.loop-i.i _ c.loop-i.begun c.next_byte-next.result _ _ _ (omega arith) refl
      c.next_byte-next.ensures.same c.in_ok-begun.ensures ∙ c.loop-i.invariant.so_far;
  begun = begun_next c.args.margin c.next_byte-next.result _ _ _ c.next_byte-next.ensures.begun c.in_ok-begun.ensures;
}

pub returns : goal.returns
returns c = drawn_all c.args.margin c.args.bytes.now c.loop-i.i c.loop-i.begun _ _ (omega arith) c.loop-i.invariant.so_far
