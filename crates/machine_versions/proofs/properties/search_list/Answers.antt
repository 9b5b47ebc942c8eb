use Rattle.std.proofs.Common.{ap, sym, ◌∙◌, arith, length, ◌-◌}
use Rattle.tables.specs.Standing.{listed_of, standing_of}
use Rattle.machine_small_entries.proofs.Walking.{found_end, found_beyond, found_here, found_on, found_none}
use Rattle.machine_versions.proofs.properties.search_list.Goals as goal

pub returns-in-Terminator-clause-same : goal.returns-in-Terminator-clause-same
returns-in-Terminator-clause-same c =
    let i = c.loop-step in
    let e = ap standing_of c.in-Terminator.is in
    sym e ∙ sym
    (found_end c.args.memory.now (length c.args.memory.now) i.step i.at c.loop-step-test.true _
    c.stands_at.ensures.same c.args.number e) ∙ i.invariant

pub returns-in-Beyond-clause-same : goal.returns-in-Beyond-clause-same
returns-in-Beyond-clause-same c =
    let i = c.loop-step in
    let e = ap standing_of c.in-Beyond.is in
    sym e ∙ sym
    (found_beyond c.args.memory.now (length c.args.memory.now) i.step i.at c.loop-step-test.true _
    c.stands_at.ensures.same c.args.number e) ∙ i.invariant

pub returns-then-property-number-clause-same : goal.returns-then-property-number-clause-same
returns-then-property-number-clause-same c =
    let i = c.loop-step in
    let e = ap standing_of c.in-Listed.is in
    sym e ∙ sym
    (found_here c.args.memory.now (length c.args.memory.now) i.step i.at c.loop-step-test.true _
    c.stands_at.ensures.same c.args.number (listed_of c.in-Listed.property) e c.if-property-number.true)
    ∙ i.invariant

pub loop-step-preserved : goal.loop-step-preserved
loop-step-preserved c =
    let i = c.loop-step in
    sym (found_on c.args.memory.now (length c.args.memory.now) i.step i.at c.loop-step-test.true _
    c.stands_at.ensures.same c.args.number (listed_of c.in-Listed.property) (ap standing_of c.in-Listed.is)
    c.if-property-number.false) ∙ i.invariant

pub returns-clause-same : goal.returns-clause-same
returns-clause-same c =
    let i = c.loop-step in
    sym (found_none c.args.memory.now c.args.number i.at (length c.args.memory.now - i.step)
    (omega (arith, c.loop-step-test.false))) ∙ i.invariant
