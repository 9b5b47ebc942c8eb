use Rattle.machine_small_entries.proofs.SmallEntries.{attributes_read, attributes_past}
use Rattle.machine_versions.proofs.attributes.read_attributes.Goals as goal

pub returns-then-attribute-ge-ATTRIBUTE_COUNT : goal.returns-then-attribute-ge-ATTRIBUTE_COUNT
returns-then-attribute-ge-ATTRIBUTE_COUNT c =
    attributes_past _ c.args.object c.args.attribute c.requires.sound c.if-attribute-ge-ATTRIBUTE_COUNT.true

pub returns : goal.returns
returns c = attributes_read c.args.header.now _ _ c.args.object c.args.attribute _ c.requires
    c.attribute_place.ensures c.if-attribute-ge-ATTRIBUTE_COUNT.false c.read_byte.ensures
