use Rattle.syntax_trees.specs.Views.{name_tree}
use Rattle.checker_values.proofs.Noted.{noted_two}
use Rattle.checker_values.specs.Names.{twice}
use Rattle.checker.specs.Programs.{limit_breaches}
use Rattle.checker.proofs.directive_rules.attribute.Goals as goal

pub returns : goal.returns
returns c =
    noted_two c.args.tally.now c.definition_rule.new.tally c.limit.new.tally
    (twice c.args.names.now.table.entries (name_tree c.args.name))
    (limit_breaches 48 c.args.names.now.counts.attributes (name_tree c.args.name)) c.definition_rule.ensures c.limit.ensures
