use Rattle.std.proofs.Common.{◌≡◌, ◌%◌, sum, take, drop}
use Rattle.survey.proofs.facts.sum_from.Given as goal

abbrev pub invariant-loop-byte : goal.invariant-loop-byte
invariant-loop-byte l = l.total ≡ sum (take l.byte-index (drop l.from l.story)) % 65536
