use Rattle.machine_small_entries.proofs.SmallEntries.{attributes_written, attributes_left}
use Rattle.machine_versions.proofs.attributes.write_attributes.Goals as goal

pub returns-then-attribute-ge-ATTRIBUTE_COUNT : goal.returns-then-attribute-ge-ATTRIBUTE_COUNT
returns-then-attribute-ge-ATTRIBUTE_COUNT c = attributes_left _ c.args.object c.args.attribute c.args.byte
    c.requires.sound c.if-attribute-ge-ATTRIBUTE_COUNT.true

pub returns : goal.returns
returns c = attributes_written c.args.header.now _ _ _ c.args.object c.args.attribute _ c.args.byte c.requires
    c.attribute_place.ensures c.if-attribute-ge-ATTRIBUTE_COUNT.false c.write_byte.ensures
