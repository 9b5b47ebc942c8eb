use Rattle.std.proofs.Common.{List, sym, ap, ◌∙◌}
use Rattle.std.specs.Prelude.{map}
use Rattle.syntax_directives.specs.declared.tree.Directive.{Directive}
use Rattle.syntax_directives.specs.Views.{directive_tree}
use Rattle.checker_values.specs.Names.{table_from}
use Rattle.checker_values.proofs.Counting.{counts_fit}
use Rattle.checker_values.proofs.Dropped.{drop_end, named_more}
use Rattle.checker_values.proofs.names.tabulate_with.Goals as goal

pub loop-directive-preserved : goal.loop-directive-preserved
loop-directive-preserved c = record {
  few = rw c.in_ok-add.ensures.counts
      (counts_fit (directive_tree c.directive-item.result) c.loop-directive.names.counts c.loop-directive.directive-index
      c.loop-directive.invariant.few);
  entries = named_more c.args.whole.now.entries c.loop-directive.names.table.entries c.add.new.self.table.entries
      c.loop-directive.names.counts c.add.new.self.counts c.args.directives.now c.loop-directive.directive-index
      c.directive-item.result c.loop-directive-test.true c.directive-item.is c.in_ok-add.ensures.table
      c.in_ok-add.ensures.counts ∙ c.loop-directive.invariant.entries;
}

pub returns : goal.returns
returns c =
    ap (λ (ds : List Directive). table_from c.args.whole.now.entries c.loop-directive.names.table.entries
    c.loop-directive.names.counts (map directive_tree ds))
    (sym (drop_end c.args.directives.now c.loop-directive.directive-index c.loop-directive-test.false))
    ∙ c.loop-directive.invariant.entries
