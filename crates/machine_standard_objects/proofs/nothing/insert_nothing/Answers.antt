use Rattle.machine_standard_objects.proofs.Performing.{nothing_inserted, something_taken}
use Rattle.machine_standard_objects.proofs.nothing.insert_nothing.Goals as goal

pub returns-then-object-eq-NOTHING : goal.returns-then-object-eq-NOTHING
returns-then-object-eq-NOTHING c = nothing_inserted _ c.args.here c.args.after c.args.object c.requires.sound
    c.if-object-eq-NOTHING.true

pub returns : goal.returns
returns c = something_taken _ c.args.here c.args.after c.args.object c.if-object-eq-NOTHING.false
    c.remove_object.ensures
