use Rattle.std.proofs.Common.{arith, length-append}
use Rattle.play_json.specs.Said.{held}
use Rattle.play_json.proofs.Walking.{forth_all, forth_more, forth_none}
use Rattle.play_json.proofs.returning.step_forward_to.Goals as goal

pub loop-init : goal.loop-init
loop-init c = λ game s p few. forth_none game s (held c.args.session.now c.args.lines.now) p

pub loop-preserved : goal.loop-preserved
loop-preserved c = λ game s p few.
    forth_more game s c.loop.counter (held c.args.session.now c.args.lines.now) (held c.loop.session c.loop.lines)
    (held c.step_forward.new.session c.step_forward.new.lines) (c.loop.invariant game s p few) (omega (arith, few))
    (λ t q. c.step_forward.ensures.stands game t q) c.step_forward.ensures.marks

pub returns : goal.returns
returns c = λ game s p few.
    forth_all game s c.loop.counter c.args.common (held c.args.session.now c.args.lines.now)
    (held c.loop.session c.loop.lines) (c.loop.invariant game s p (omega (arith, few, p.at, length-append s.done s.undone, c.saturating_sub-count.ensures, c.count.ensures)))
    (omega (arith, p.at, c.saturating_sub-count.ensures, c.count.ensures))
