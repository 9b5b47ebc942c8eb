use Rattle.machine_objects.proofs.Linking.{attributes_written}
use Rattle.machine_objects.proofs.attributes.write_attributes.Goals as goal

pub returns : goal.returns
returns c = attributes_written c.args.header.now _ _ _ c.args.object c.args.attribute _ c.args.byte c.requires.store
    c.attribute_place.ensures c.write_byte.ensures
