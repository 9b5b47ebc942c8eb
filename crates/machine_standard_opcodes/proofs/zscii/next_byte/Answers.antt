use Rattle.std.proofs.Common.{refl, arith}
use Rattle.std.proofs.lemmas.Bool.{eq-eqb, ne_eqb}
use Rattle.machine_standard_opcodes.proofs.Codes.{some_more}
use Rattle.machine_standard_opcodes.proofs.zscii.next_byte.Goals as goal

pub returns-then-begun-eq0-clause-same : goal.returns-then-begun-eq0-clause-same
returns-then-begun-eq0-clause-same c = rw (eq-eqb c.args.begun.more 0 c.if-begun-eq0.true) c.first_byte.ensures.same

pub returns-clause-same : goal.returns-clause-same
returns-clause-same c = rw (ne_eqb c.args.begun.more 0 c.if-begun-eq0.false) refl

pub returns-clause-begun : goal.returns-clause-begun
returns-clause-begun c =
    let r = c.requires in
    let some = some_more c.args.begun.more c.if-begun-eq0.false in
    let small = r.one some in
    record {
      few = omega (arith, r.few);
      whole = omega (arith, small);
      one = λ h. let two = r.two (omega (arith, h, r.few)) in omega (arith, two);
      two = λ h. absurd (omega (arith, h, r.few));
    }
