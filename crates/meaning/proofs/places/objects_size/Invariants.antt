use Rattle.std.proofs.Common.{◌≡◌, ◌<◌, ◌+◌, drop}
use Rattle.std.specs.Prelude.{map}
use Rattle.meaning.specs.Places as spec
use Rattle.meaning.specs.Places.{folded}
use Rattle.meaning.specs.Views.{object_of}
use Rattle.meaning.proofs.places.objects_size.Given as goal

abbrev pub invariant-loop-object : goal.invariant-loop-object
invariant-loop-object l = record {
  sum : folded (l.size + spec.objects_size (map object_of (drop l.object-index l.objects)))
      ≡ folded (spec.objects_size (map object_of l.objects));
  bound : l.size < 131072;
}
