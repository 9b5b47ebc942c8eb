use Rattle.machine_versions_steps.proofs.Performing.{nothing_taken, something_taken}
use Rattle.machine_versions_steps.proofs.objects.take_out.Goals as goal

pub returns-then-object-eq0 : goal.returns-then-object-eq0
returns-then-object-eq0 c = nothing_taken _ c.args.here c.args.after c.args.object c.requires.sound c.if-object-eq0.true

pub returns : goal.returns
returns c = something_taken _ c.args.here c.args.after c.args.object c.if-object-eq0.false c.remove_object.ensures
