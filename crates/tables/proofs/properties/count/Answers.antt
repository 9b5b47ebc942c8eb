use Rattle.std.proofs.Common.{ap, sym, ◌∙◌, arith, length, ◌-◌}
use Rattle.tables.specs.Standing.{listed_of, standing_of}
use Rattle.tables.proofs.Walking.{counted_end, counted_beyond, counted_on, counted_none}
use Rattle.tables.proofs.properties.count.Goals as goal

pub returns-in-Terminator : goal.returns-in-Terminator
returns-in-Terminator c =
    let i = c.loop-count in
    sym (counted_end c.args.story.now (length c.args.story.now) i.count i.at c.loop-count-test.true _
    c.stands_at.ensures.same i.count (ap standing_of c.in-Terminator.is)) ∙ i.invariant

pub returns-in-Beyond : goal.returns-in-Beyond
returns-in-Beyond c =
    let i = c.loop-count in
    sym (counted_beyond c.args.story.now (length c.args.story.now) i.count i.at c.loop-count-test.true _
    c.stands_at.ensures.same i.count (ap standing_of c.in-Beyond.is)) ∙ i.invariant

pub loop-count-preserved : goal.loop-count-preserved
loop-count-preserved c =
    let i = c.loop-count in
    sym (counted_on c.args.story.now (length c.args.story.now) i.count i.at c.loop-count-test.true _
    c.stands_at.ensures.same i.count (listed_of c.in-Listed.property) (ap standing_of c.in-Listed.is))
    ∙ i.invariant

pub returns : goal.returns
returns c =
    let i = c.loop-count in
    sym (counted_none c.args.story.now i.count i.at (length c.args.story.now - i.count)
    (omega (arith, c.loop-count-test.false))) ∙ i.invariant
