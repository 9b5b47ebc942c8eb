use Rattle.std.proofs.Common.{◌≡◌, ◌++◌, map, drop}
use Rattle.meaning.specs.Views.{property_of}
use Rattle.story_file.proofs.objects.copy_properties.Given as goal

abbrev pub invariant-loop-property : goal.invariant-loop-property
invariant-loop-property l = map property_of l.copies.items ++ map property_of (drop l.property-index l.properties)
    ≡ map property_of l.properties
