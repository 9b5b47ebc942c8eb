use Rattle.std.proofs.Common.{◌∙◌, sym}
use Rattle.machine_versions.proofs.Calling.{old_call, new_call}
use Rattle.machine_versions.proofs.calls.call_at.Goals as goal

pub returns-then-is_old : goal.returns-then-is_old
returns-then-is_old c = old_call c.args.version c.args.here c.args.after c.args.routine c.args.result_variable
    c.args.arguments.now _ _ _ (sym c.is_old.ensures ∙ c.if-is_old.true) c.call_with_values.ensures

pub returns : goal.returns
returns c = new_call c.args.version c.args.here c.args.after c.args.routine c.args.result_variable
    c.args.arguments.now _ _ _ (sym c.is_old.ensures ∙ c.if-is_old.false) c.call.ensures
