-- Words of proofs: the levels whose operators group to the left: E1, E3 and E4, each with its operands.
use Rattle.std.specs.Prelude.{ℕ}
use Rattle.syntax_trees.specs.Tree.{ExpressionTree}
use Rattle.syntax_trees.specs.Parse.{Parse}
use Rattle.syntax_expressions.specs.declared.operators.Operators.{Operators}
use Rattle.syntax_expressions.specs.declared.operators.Operators.TheVariants as operators
use Rattle.syntax_expressions.specs.Parse.{Level, logical_operand, condition, factor, product, sum}

abbrev pub operand_of : (Level → ℕ → Parse ExpressionTree) → Operators → Parse ExpressionTree
operand_of below operators.Logical = logical_operand below
operand_of below operators.Adding = product below
operand_of below operators.Scaling = factor below

abbrev pub chain_of : (Level → ℕ → Parse ExpressionTree) → Operators → Parse ExpressionTree
chain_of below operators.Logical = condition below
chain_of below operators.Adding = sum below
chain_of below operators.Scaling = product below
