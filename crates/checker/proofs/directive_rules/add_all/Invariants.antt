use Rattle.std.proofs.Common.{◌≡◌, ◌+◌, drop}
use Rattle.std.specs.Prelude.{map}
use Rattle.syntax_directives.specs.Views.{directive_tree}
use Rattle.checker_values.specs.Names.{no_counts, AreFewer}
use Rattle.checker_values.specs.Noted.{noted}
use Rattle.checker.specs.Resolving.{IsAdding}
use Rattle.checker.specs.Programs.{directives_breaches}
use Rattle.checker_values.specs.Scope.{file_in}
use Rattle.checker.proofs.directive_rules.add_all.Given as goal

abbrev pub invariant-loop-one : goal.invariant-loop-one
invariant-loop-one l = record {
  few : AreFewer (l.one-index + 1) l.names.counts;
  adding : IsAdding (file_in l.file) (map directive_tree (drop l.one-index l.directives))
      (map directive_tree l.directives) l.fn.found l.found;
  tally : noted l.tally
      (directives_breaches l.file.table.entries l.names.table.entries l.names.counts
      (map directive_tree (drop l.one-index l.directives)))
      ≡ noted l.fn.tally
      (directives_breaches l.file.table.entries l.fn.names.table.entries no_counts (map directive_tree l.directives));
}
