use Rattle.std.proofs.Common.{sym, ap, ◌∙◌}
use Rattle.meaning.specs.Resolved.{none, more}
use Rattle.meaning.specs.Views.{value_of}
use Rattle.code_drafts.specs.Code.{as_operand}
use Rattle.code_drafts.proofs.SideOperands.{before_changed, before_kept}
use Rattle.code_drafts.proofs.operand.first_of.Goals as goal

pub returns-then-either_changes : goal.returns-then-either_changes
returns-then-either_changes c =
    before_changed (value_of c.args.first.now)
    (more (value_of c.args.second.now) (more (value_of c.args.third.now) none)) c.in-Variable.variable
    (sym (ap as_operand c.in-Variable.is) ∙ c.alone.ensures)
    (sym c.either_changes.ensures ∙ c.if-either_changes.true)

pub returns-else-either_changes : goal.returns-else-either_changes
returns-else-either_changes c =
    before_kept (value_of c.args.first.now)
    (more (value_of c.args.second.now) (more (value_of c.args.third.now) none)) c.in-Variable.variable
    (sym (ap as_operand c.in-Variable.is) ∙ c.alone.ensures)
    (sym c.either_changes.ensures ∙ c.if-either_changes.false)
