use Rattle.std.proofs.Common.{◌≡◌, ◌<◌, ◌+◌, drop}
use Rattle.meaning.specs.Places.{folded}
use Rattle.checker_statements.proofs.Sizes.{properties_total}
use Rattle.checker_statements.proofs.listed.listed_sizes.Given as goal

abbrev pub invariant-loop-one : goal.invariant-loop-one
invariant-loop-one l = record {
  sum : folded (l.size + properties_total (drop l.one-index l.written)) ≡ folded (properties_total l.written);
  bound : l.size < 131072;
}
