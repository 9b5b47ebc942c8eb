use Rattle.std.proofs.Common.{arith}
use Rattle.session.proofs.Views.{first_shown, later_shown}
use Rattle.session.proofs.turns.reached_at.Goals as goal

pub returns-then-done-eq0 : goal.returns-then-done-eq0
returns-then-done-eq0 c = first_shown c.args.first.now c.args.turns.now.items c.args.done c.if-done-eq0.true

pub returns-else-done-eq0 : goal.returns-else-done-eq0
returns-else-done-eq0 c = later_shown c.args.first.now c.args.turns.now.items c.args.done c.index.result.now
    (omega (arith, c.if-done-eq0.false)) c.requires c.index.ensures
