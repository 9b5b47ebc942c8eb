use Rattle.std.proofs.Common.{sym, ap, ◌∙◌}
use Rattle.meaning.specs.Views.{value_of}
use Rattle.code_drafts.specs.Code.{as_operand}
use Rattle.code_drafts.specs.Writing.{more_in}
use Rattle.code_drafts.proofs.SideOperands.{before_changed, before_kept}
use Rattle.code_drafts.proofs.operand.before_more.Goals as goal

pub returns-then-next_changes : goal.returns-then-next_changes
returns-then-next_changes c =
    before_changed (value_of c.args.value.now) (more_in c.args.next.now c.args.later.now) c.in-Variable.variable
    (sym (ap as_operand c.in-Variable.is) ∙ c.alone.ensures) (sym c.next_changes.ensures ∙ c.if-next_changes.true)

pub returns-else-next_changes : goal.returns-else-next_changes
returns-else-next_changes c =
    before_kept (value_of c.args.value.now) (more_in c.args.next.now c.args.later.now) c.in-Variable.variable
    (sym (ap as_operand c.in-Variable.is) ∙ c.alone.ensures) (sym c.next_changes.ensures ∙ c.if-next_changes.false)
