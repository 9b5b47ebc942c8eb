use Rattle.std.proofs.Common.{sym}
use Rattle.machine_versions_steps.proofs.Performing.{none_else}
use Rattle.machine_versions_steps.proofs.objects.perform_on_none.Goals as goal

pub returns-in-InsertObject : goal.returns-in-InsertObject
returns-in-InsertObject c = rw (c.in-InsertObject.is, sym c.value_of.ensures) c.take_out.ensures

pub returns-in_default : goal.returns-in_default
returns-in_default c = none_else _ c.args.operation c.args.here c.args.ending.after c.args.ending.result
    c.args.ending.branch c.args.values.now c.in_default.not-InsertObject c.perform_on_nothing.ensures
