use Rattle.std.proofs.Common.{sym, ◌∙◌, take}
use Rattle.std.specs.Prelude.{map}
use Rattle.syntax_trees.specs.Views.{name_tree}
use Rattle.checker_statements.proofs.NameTables.{table_next}
use Rattle.checker.proofs.LocalNames.{locals_next, locals_end}
use Rattle.checker.proofs.directive_rules.locals.Goals as goal

pub loop-number-preserved : goal.loop-number-preserved
loop-number-preserved c = record {
  table = table_next c.loop-number.table.entries c.define.new.table.entries c.args.names.now c.loop-number.number _
      c.loop-number-test.true c.loop-number.invariant.table c.in_ok-define.ensures;
  tally = locals_next c.loop-number.tally c.definition_rule.new.tally c.count_locals.new.tally c.loop-number.table.entries
      c.args.names.now c.loop-number.number _ c.loop-number-test.true c.loop-number.invariant.table c.definition_rule.ensures
      c.count_locals.ensures ∙ c.loop-number.invariant.tally;
}

pub returns-clause-breaches : goal.returns-clause-breaches
returns-clause-breaches c = sym
    (locals_end c.loop-number.tally c.args.names.now c.loop-number.number
    (map name_tree (take c.loop-number.number c.args.names.now)) c.loop-number-test.false)
    ∙ c.loop-number.invariant.tally
