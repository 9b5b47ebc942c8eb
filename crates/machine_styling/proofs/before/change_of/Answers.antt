use Rattle.std.proofs.Common.{sym, refl, ◌∙◌}
use Rattle.machine_frames.specs.States.{state_of}
use Rattle.machine_styling.proofs.Changing.{others_stay}
use Rattle.machine_styling.proofs.before.change_of.Goals as goal

pub value_at-requires-clause-found : goal.value_at-requires-clause-found
value_at-requires-clause-found c = c.requires.found c.in-SetTextStyle.is

pub moved_by-requires-clause-goes_on : goal.moved_by-requires-clause-goes_on
moved_by-requires-clause-goes_on c = sym c.can_wait.ensures ∙ c.if-can_wait.false

pub moved_by-requires-clause-styles : goal.moved_by-requires-clause-styles
moved_by-requires-clause-styles c = others_stay c.args.operation c.in_default.not-Restart c.in_default.not-SetTextStyle

-- it can wait
pub returns-then-can_wait-clause-change : goal.returns-then-can_wait-clause-change
returns-then-can_wait-clause-change c = (sym c.can_wait.ensures ∙ c.if-can_wait.true, c.shown_by.ensures)

pub returns-in-Restart-clause-change : goal.returns-in-Restart-clause-change
returns-in-Restart-clause-change c = c.in-Restart.is

pub returns-in-Ok-clause-change : goal.returns-in-Ok-clause-change
returns-in-Ok-clause-change c = (c.in-SetTextStyle.is, c.in-Ok.ensures.value c.args.text.now)

pub returns-in_default-clause-change : goal.returns-in_default-clause-change
returns-in_default-clause-change c =
    c.moved_by.ensures c.args.here (state_of c.args.store.now.store c.args.text.now) refl
