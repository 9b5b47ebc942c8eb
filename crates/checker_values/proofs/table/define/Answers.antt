use Rattle.syntax_trees.specs.Views.{name_tree}
use Rattle.checker_values.proofs.Tables.{define_new, define_again}
use Rattle.checker_values.proofs.table.define.Goals as goal

pub returns-in-None : goal.returns-in-None
returns-in-None c =
    define_new c.args.table.now.entries c.insert.new.self.entries (name_tree c.args.name) c.key_of-key.result
    c.args.binding c.in_ok-before.before c.key_of-key.ensures c.in_ok-before.ensures.old c.in-None.is
    c.in_ok-before.ensures.entries

pub returns-in_ok-insert-in-Some : goal.returns-in_ok-insert-in-Some
returns-in_ok-insert-in-Some c =
    define_again c.args.table.now.entries c.insert.new.self.entries c.insert-in-Some.new.self.entries
    (name_tree c.args.name) c.key_of-key.result c.key_of-same.result c.args.binding c.in-Some.earlier
    c.in_ok-before.before c.key_of-key.ensures c.key_of-same.ensures c.in_ok-before.ensures.old c.in-Some.is
    c.in_ok-before.ensures.entries c.in_ok-insert-in-Some.ensures.entries
