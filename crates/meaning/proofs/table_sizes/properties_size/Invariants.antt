use Rattle.std.proofs.Common.{◌≡◌, ◌<◌, ◌+◌, drop}
use Rattle.std.specs.Prelude.{map}
use Rattle.meaning.specs.Places.{folded, total, property_size}
use Rattle.meaning.specs.Views.{property_of}
use Rattle.meaning.proofs.table_sizes.properties_size.Given as goal

abbrev pub invariant-loop-property : goal.invariant-loop-property
invariant-loop-property l = record {
  sum : folded (l.size + total (map property_size (map property_of (drop l.property-index l.properties))))
      ≡ folded (total (map property_size (map property_of l.properties)));
  bound : l.size < 131072;
}
