use Rattle.std.proofs.Common.{◌≡◌, ◌%◌, sum, take, drop}
use Rattle.zcore_standard_loading.proofs.loading.sum_from.Given as goal

abbrev pub invariant-loop-byte : goal.invariant-loop-byte
invariant-loop-byte l = l.total ≡ sum (take l.byte-index (drop l.from l.story)) % 65536
