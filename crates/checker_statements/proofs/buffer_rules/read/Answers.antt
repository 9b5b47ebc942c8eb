use Rattle.syntax_trees.specs.Views.{name_tree}
use Rattle.checker_values.specs.Scope.{seen_in}
use Rattle.checker_statements.proofs.ReadNames.{read_walked}
use Rattle.checker_statements.proofs.MadeActions.{made_read}
use Rattle.checker_statements.proofs.buffer_rules.read.Goals as goal

pub returns : goal.returns
returns c = λ around. rw (made_read c.array_number.result c.array_number-2.result)
    (read_walked (seen_in c.args.scope.now) (name_tree c.args.names.now.0) (name_tree c.args.names.now.1) c.look-first.result
    c.look-second.result c.array_number.result c.array_number-2.result c.look-first.ensures c.look-second.ensures
    c.array_number.ensures c.array_number-2.ensures c.buffer_rules.ensures c.buffer_rules-2.ensures
    c.same_array.ensures)
