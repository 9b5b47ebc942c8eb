use Rattle.std.proofs.Common.{sym, ◌∙◌, take}
use Rattle.std.specs.Prelude.{map}
use Rattle.syntax_trees.specs.Views.{name_tree}
use Rattle.checker_statements.proofs.NameTables.{few_next, repeated_end}
use Rattle.checker_statements.proofs.object_rules.repeat_rules_of_few.Goals as goal

pub loop-number-preserved : goal.loop-number-preserved
loop-number-preserved c =
    few_next c.loop-number.tally c.repeat_rule.new.tally c.args.names.now c.loop-number.number _ c.loop-number-test.true
    c.repeat_rule.ensures ∙ c.loop-number.invariant

pub returns : goal.returns
returns c = sym
    (repeated_end c.loop-number.tally c.args.names.now c.loop-number.number
    (map name_tree (take c.loop-number.number c.args.names.now)) c.loop-number-test.false)
    ∙ c.loop-number.invariant
