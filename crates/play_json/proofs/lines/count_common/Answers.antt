use Rattle.std.proofs.Common.{arith}
use Rattle.play_json.proofs.Keeping.{common_rest}
use Rattle.play_json.proofs.lines.count_common.Goals as goal

pub returns-clause-same : goal.returns-clause-same
returns-clause-same c =
    let h = common_rest (λ rc. rc.value.given.items) c.args.some.now c.args.other.now c.loop-count.count in
    omega (arith, c.loop-count.invariant, h.0, h.1, c.min-most.ensures, c.loop-count-test.false)
