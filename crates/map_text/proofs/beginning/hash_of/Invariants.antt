use Rattle.std.proofs.Common.{◌≡◌, drop}
use Rattle.map_text.specs.Heading.{hash_from, hash_of}
use Rattle.map_text.proofs.beginning.hash_of.Given as goal

abbrev pub invariant-loop-byte : goal.invariant-loop-byte
invariant-loop-byte l = hash_from l.hash (drop l.byte-index l.bytes) ≡ hash_of l.bytes
