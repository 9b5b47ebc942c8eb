use Rattle.std.proofs.Common.{arith}
use Rattle.play_json.specs.Said.{held}
use Rattle.play_json.proofs.Walking.{back_all, back_more, back_none}
use Rattle.play_json.proofs.returning.step_back_to.Goals as goal

pub loop-init : goal.loop-init
loop-init c = λ game s p few. back_none game s (held c.args.session.now c.args.lines.now) p

pub loop-preserved : goal.loop-preserved
loop-preserved c = λ game s p few.
    back_more game s c.loop.counter (held c.args.session.now c.args.lines.now) (held c.loop.session c.loop.lines)
    (held c.step_back.new.session c.step_back.new.lines) (c.loop.invariant game s p few) (omega (arith, few))
    (λ t q. c.step_back.ensures.stands game t q) c.step_back.ensures.marks

pub returns : goal.returns
returns c = λ game s p few.
    back_all game s c.loop.counter c.args.common (held c.args.session.now c.args.lines.now)
    (held c.loop.session c.loop.lines) (c.loop.invariant game s p (omega (arith, few, p.at, c.saturating_sub-count.ensures, c.count.ensures)))
    (omega (arith, p.at, c.saturating_sub-count.ensures, c.count.ensures))
