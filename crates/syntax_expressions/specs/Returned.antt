-- Words of contracts: what is returned as a first expression and those after it.
use Rattle.std.specs.Prelude.{List, ◌∷◌, map}
use Rattle.std.specs.Global.{Box, Vec}
use Rattle.syntax_trees.specs.declared.tree.Expression.{Expression}
use Rattle.syntax_trees.specs.Tree.{ExpressionTree}
use Rattle.syntax_trees.specs.Views.{expression_tree}

-- a first expression and those after it
abbrev pub values_tree : Box Expression × Vec Expression → List ExpressionTree
values_tree x = expression_tree x.0.value ∷ map expression_tree x.1.items
