use Rattle.std.proofs.Common.{◌≡◌, ◌++◌, drop}
use Rattle.zcore.specs.Header.{scale_of}
use Rattle.story_file.specs.Written.{end_from, packed_from}
use Rattle.story_file.proofs.packed.packed_addresses.Given as goal

abbrev pub invariant-loop-size : goal.invariant-loop-size
invariant-loop-size l =
    (l.addresses.items ++ packed_from (scale_of l.version) l.at (drop l.size-index l.sizes)
    ≡ packed_from (scale_of l.version) l.place l.sizes)
    × (end_from (scale_of l.version) l.at (drop l.size-index l.sizes)
    ≡ end_from (scale_of l.version) l.place l.sizes)
