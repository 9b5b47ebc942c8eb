use Rattle.std.proofs.Common.{◌≡◌, ◌+◌, drop}
use Rattle.std.specs.Prelude.{map}
use Rattle.syntax_directives.specs.Views.{directive_tree}
use Rattle.checker_values.specs.Names.{first_table, no_counts, AreFewer, table_from}
use Rattle.checker_values.proofs.names.tabulate_with.Given as goal

abbrev pub invariant-loop-directive : goal.invariant-loop-directive
invariant-loop-directive l = record {
  few : AreFewer (l.directive-index + 1) l.names.counts;
  entries : table_from l.whole.entries l.names.table.entries l.names.counts
      (map directive_tree (drop l.directive-index l.directives))
      ≡ table_from l.fn.whole.entries first_table no_counts (map directive_tree l.fn.directives);
}
