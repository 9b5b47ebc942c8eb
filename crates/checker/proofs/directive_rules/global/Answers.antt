use Rattle.std.proofs.Common.{◌++◌}
use Rattle.syntax_trees.specs.Views.{name_tree}
use Rattle.syntax_directives.specs.Views.{optional_tree}
use Rattle.checker_values.proofs.Noted.{noted_two}
use Rattle.checker_values.specs.Literals.{initial_breaches}
use Rattle.checker_values.specs.Names.{twice}
use Rattle.checker.specs.Programs.{limit_breaches}
use Rattle.checker.proofs.directive_rules.global.Goals as goal

pub returns-clause-breaches : goal.returns-clause-breaches
returns-clause-breaches c =
    let whole = c.args.file.now.table.entries in
    let own = twice c.args.names.now.table.entries (name_tree c.args.name) in
    let many = limit_breaches 232 c.args.names.now.counts.globals (name_tree c.args.name) in
    let value = initial_breaches whole (optional_tree c.args.value.now) in
    noted_two c.args.tally.now c.definition_rule.new.tally c.initial.new.tally own (many ++ value) c.definition_rule.ensures
    (noted_two c.definition_rule.new.tally c.limit.new.tally c.initial.new.tally many value c.limit.ensures
    c.initial.ensures.breaches)
