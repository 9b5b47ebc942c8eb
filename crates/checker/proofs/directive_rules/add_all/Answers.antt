use Rattle.std.proofs.Common.{List, sym, ap, ◌∙◌}
use Rattle.std.specs.Prelude.{map}
use Rattle.syntax_directives.specs.declared.tree.Directive.{Directive}
use Rattle.syntax_directives.specs.Views.{directive_tree}
use Rattle.checker_values.specs.Noted.{noted}
use Rattle.checker.specs.Programs.{directives_breaches}
use Rattle.checker_values.specs.Scope.{file_in}
use Rattle.checker_values.proofs.Noted.{noted_none}
use Rattle.checker_values.proofs.Dropped.{drop_end}
use Rattle.checker_values.proofs.Counting.{counts_fit}
use Rattle.checker.proofs.Directives.{adding_more, adding_end, breaches_step}
use Rattle.checker.proofs.directive_rules.add_all.Goals as goal

pub loop-one-preserved : goal.loop-one-preserved
loop-one-preserved c = record {
  few = rw c.in-Ok-add.ensures.counts
      (counts_fit (directive_tree c.one-item.result) c.loop-one.names.counts c.loop-one.one-index
      c.loop-one.invariant.few);
  adding = adding_more (file_in c.args.file.now) c.args.directives.now c.loop-one.one-index c.one-item.result
      c.args.found.now c.loop-one.found c.directive.new.found c.loop-one-test.true c.one-item.is
      c.in-Ok.ensures.added c.loop-one.invariant.adding;
  tally = breaches_step c.args.file.now.table.entries c.loop-one.names.table.entries c.add.new.self.table.entries
      c.loop-one.names.counts c.add.new.self.counts c.loop-one.tally c.directive.new.tally c.args.directives.now
      c.loop-one.one-index c.one-item.result
      c.loop-one-test.true c.one-item.is
      c.in-Ok.ensures.breaches c.in-Ok-add.ensures.table c.in-Ok-add.ensures.counts
      ∙ c.loop-one.invariant.tally;
}

pub returns-clause-added : goal.returns-clause-added
returns-clause-added c = adding_end (file_in c.args.file.now) c.args.directives.now c.loop-one.one-index
    c.args.found.now c.loop-one.found c.loop-one-test.false c.loop-one.invariant.adding

pub returns-clause-breaches : goal.returns-clause-breaches
returns-clause-breaches c =
    sym (noted_none c.loop-one.tally)
    ∙ ap (λ (ds : List Directive). noted c.loop-one.tally
    (directives_breaches c.args.file.now.table.entries c.loop-one.names.table.entries c.loop-one.names.counts
    (map directive_tree ds)))
    (sym (drop_end c.args.directives.now c.loop-one.one-index c.loop-one-test.false))
    ∙ c.loop-one.invariant.tally
