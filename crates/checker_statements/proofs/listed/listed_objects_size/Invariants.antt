use Rattle.std.proofs.Common.{◌≡◌, ◌<◌, ◌+◌, drop}
use Rattle.meaning.specs.Places.{folded}
use Rattle.checker_statements.proofs.Sizes.{directives_total}
use Rattle.checker_statements.proofs.listed.listed_objects_size.Given as goal

abbrev pub invariant-loop-directive : goal.invariant-loop-directive
invariant-loop-directive l = record {
  sum : folded (l.size + directives_total (drop l.directive-index l.directives)) ≡ folded (directives_total l.directives);
  bound : l.size < 131072;
}
