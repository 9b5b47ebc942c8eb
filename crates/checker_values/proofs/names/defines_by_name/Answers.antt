use Rattle.std.proofs.Common.{sym, ap, ◌∙◌}
use Rattle.syntax_trees.specs.Views.{name_tree}
use Rattle.syntax_directives.specs.Views.{directive_tree}
use Rattle.checker_values.specs.ByName.{is_by_name}
use Rattle.checker_values.proofs.names.defines_by_name.Goals as goal

pub returns-in-Constant : goal.returns-in-Constant
returns-in-Constant c =
    c.is_name.ensures (name_tree c.in-Constant.field-0) ∙ ap is_by_name (sym (ap directive_tree c.in-Constant.is))
