use Rattle.std.proofs.Common.{◌≤◌, length, arith}
use Rattle.machine_standard_words.proofs.Zeros.{ends, further, stops}
use Rattle.machine_standard_words.proofs.parsing.before_zero.Goals as goal

pub returns-then-letters-count-eq0-clause-before : goal.returns-then-letters-count-eq0-clause-before
returns-then-letters-count-eq0-clause-before c =
    stops c.args.letters.now c.loop-count.count c.loop-count-test.true c.if-letters-count-eq0.true c.loop-count.invariant

pub loop-count-preserved : goal.loop-count-preserved
loop-count-preserved c =
    further c.args.letters.now c.loop-count.count c.loop-count-test.true c.if-letters-count-eq0.false c.loop-count.invariant

pub returns-clause-before : goal.returns-clause-before
returns-clause-before c =
    let over : length c.args.letters.now ≤ c.loop-count.count = omega (arith, c.loop-count-test.false) in
    ends c.args.letters.now c.loop-count.count over c.loop-count.invariant
