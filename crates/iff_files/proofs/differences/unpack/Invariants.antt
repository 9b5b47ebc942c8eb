use Rattle.std.proofs.Common.{◌≡◌, ◌≤◌, length, drop, false}
use Rattle.iff_files.specs.Differences.{unpacked}
use Rattle.iff_files.specs.Steps.{whole}
use Rattle.iff_files.proofs.differences.unpack.Given as goal

abbrev pub invariant-loop-byte : goal.invariant-loop-byte
invariant-loop-byte l = record {
  at : l.place.at ≤ length l.memory;
  whole : whole l.memory l.place (drop l.byte-index l.differences) ≡ unpacked l.differences false l.initial.memory;
}
