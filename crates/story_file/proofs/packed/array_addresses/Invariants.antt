use Rattle.std.proofs.Common.{◌≡◌, ◌+◌, ◌++◌, drop, sum}
use Rattle.story_file.specs.Layout.{addresses_from}
use Rattle.story_file.proofs.packed.array_addresses.Given as goal

abbrev pub invariant-loop-size : goal.invariant-loop-size
invariant-loop-size l =
    (l.addresses.items ++ addresses_from 1 l.at (drop l.size-index l.sizes) ≡ addresses_from 1 l.place l.sizes)
    × (l.at + sum (drop l.size-index l.sizes) ≡ l.place + sum l.sizes)
