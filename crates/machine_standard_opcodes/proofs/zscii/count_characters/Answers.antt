use Rattle.std.proofs.Common.{arith, refl}
use Rattle.machine_standard_opcodes.proofs.Codes.{counted_all, counted_later, counted_none, counted_whole, is_between}
use Rattle.machine_standard_opcodes.proofs.zscii.count_characters.Goals.{then-begun-eq0, else-begun-eq0}
use Rattle.machine_standard_opcodes.proofs.zscii.count_characters.Goals as goal

pub loop-i-init : goal.loop-i-init
loop-i-init c = record { counted = counted_none c.args.bytes.now; begun = is_between; few = omega arith }

pub loop-i-preserved : goal.loop-i-preserved
loop-i-preserved c =
    let i = c.loop-i in
    elim c.if-begun-eq0.branch [
      | then-begun-eq0 w ↦ rw (w.begun-is, w.count-is) (record {
        counted = counted_whole c.args.bytes.now i.i _ i.count i.begun c.next_byte-begun.result i.invariant.counted
            (omega (arith, c.loop-i-test.true)) refl c.next_byte-begun.ensures.same w.if-begun-eq0.true;
        begun = is_between;
        few = omega (arith, i.invariant.few);
      })
      | else-begun-eq0 w ↦ rw (w.begun-is, w.count-is) (record {
        counted = counted_later c.args.bytes.now i.i _ i.count i.begun c.next_byte-begun.result i.invariant.counted
            (omega (arith, c.loop-i-test.true)) refl c.next_byte-begun.ensures.same w.if-begun-eq0.false;
        begun = c.next_byte-begun.ensures.begun;
        few = omega (arith, i.invariant.few);
      })
    ]

pub returns-clause-same : goal.returns-clause-same
returns-clause-same c = counted_all c.args.bytes.now c.loop-i.i c.loop-i.count c.loop-i.begun
    c.loop-i.invariant.counted (omega (arith, c.loop-i-test.false))
