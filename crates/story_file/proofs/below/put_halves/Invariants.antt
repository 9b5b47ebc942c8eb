use Rattle.std.proofs.Common.{◌≡◌, ◌++◌, drop, map}
use Rattle.std.specs.List.{flat_map}
use Rattle.story_file.specs.Layout as layout
use Rattle.story_file.specs.Written.{half}
use Rattle.story_file.proofs.below.put_halves.Given as goal

abbrev pub invariant-loop-address : goal.invariant-loop-address
invariant-loop-address l =
    l.bytes.items ++ flat_map layout.word (map half (drop l.address-index l.addresses))
    ≡ l.initial.bytes.items ++ flat_map layout.word (map half l.addresses)
