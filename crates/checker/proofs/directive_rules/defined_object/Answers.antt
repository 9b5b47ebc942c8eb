use Rattle.std.proofs.Common.{◌++◌}
use Rattle.syntax_trees.specs.Views.{name_tree}
use Rattle.syntax_directives.specs.Views.{object_tree}
use Rattle.checker_values.proofs.Noted.{noted_two}
use Rattle.checker_statements.specs.Objects.{object_breaches}
use Rattle.checker_values.specs.Names.{twice}
use Rattle.checker.specs.Programs.{limit_breaches}
use Rattle.checker.proofs.directive_rules.defined_object.Goals as goal

pub returns-clause-breaches : goal.returns-clause-breaches
returns-clause-breaches c =
    let name = name_tree c.args.written.now.name in
    let own = twice c.args.names.now.table.entries name in
    let many = limit_breaches 2000 c.args.names.now.counts.objects name in
    let value = object_breaches c.args.file.now.table.entries (object_tree c.args.written.now) in
    noted_two c.args.tally.now c.definition_rule.new.tally c.object.new.tally own (many ++ value) c.definition_rule.ensures
    (noted_two c.definition_rule.new.tally c.limit.new.tally c.object.new.tally many value c.limit.ensures
    c.in_ok-made.ensures.breaches)
