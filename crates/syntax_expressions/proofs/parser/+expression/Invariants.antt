use Rattle.std.proofs.Common.{◌≡◌, ℕ, ◌+◌, ◌-◌, ◌*◌, ◌∷◌, length}
use Rattle.std.specs.Prelude.{map}
use Rattle.syntax_lexer.specs.declared.token.Sign.TheVariants as s
use Rattle.syntax_lexer.specs.declared.token.Word.TheVariants as w
use Rattle.syntax_trees.specs.Views.{expression_tree}
use Rattle.syntax_trees.specs.Parse as reading
use Rattle.syntax_trees.specs.Returned.{ahead}
use Rattle.syntax_trees.proofs.Loops.{joined}
use Rattle.syntax_expressions.specs.declared.operators.Operators.{Operators}
use Rattle.syntax_expressions.specs.declared.operators.Operators.TheVariants as operators
use Rattle.syntax_expressions.specs.Parse as spec
use Rattle.syntax_expressions.specs.LevelOperators.{operator_of}
use Rattle.syntax_expressions.specs.Levels.{operand_of}
use Rattle.syntax_expressions.proofs.parser.+expression.Given as goal

-- each level's place in the order in which levels call one another within a nesting
abbrev chain_rank : Operators → ℕ
chain_rank operators.Logical = 29
chain_rank operators.Adding = 20
chain_rank operators.Scaling = 16

abbrev links_rank : Operators → ℕ
links_rank operators.Logical = 28
links_rank operators.Adding = 19
links_rank operators.Scaling = 15

abbrev linked_rank : Operators → ℕ
linked_rank operators.Logical = 27
linked_rank operators.Adding = 18
linked_rank operators.Scaling = 14

abbrev operand_rank : Operators → ℕ
operand_rank operators.Logical = 26
operand_rank operators.Adding = 17
operand_rank operators.Scaling = 13

abbrev pub decreases-rest_of_call : goal.decreases-rest_of_call
decreases-rest_of_call l = 33 * l.depth + 32

abbrev pub decreases-arguments : goal.decreases-arguments
decreases-arguments l = 33 * l.depth + 31

abbrev pub decreases-expression : goal.decreases-expression
decreases-expression l = 33 * l.depth + 30

abbrev pub decreases-assignment : goal.decreases-assignment
decreases-assignment l = 33 * l.depth + 1

abbrev pub decreases-logical_operand : goal.decreases-logical_operand
decreases-logical_operand l = 33 * l.depth + 25

abbrev pub decreases-comparison : goal.decreases-comparison
decreases-comparison l = 33 * l.depth + 24

abbrev pub decreases-after_left : goal.decreases-after_left
decreases-after_left l = 33 * l.depth + 23

abbrev pub decreases-compare : goal.decreases-compare
decreases-compare l = 33 * l.depth + 22

abbrev pub decreases-equate : goal.decreases-equate
decreases-equate l = 33 * l.depth + 22

abbrev pub decreases-contain : goal.decreases-contain
decreases-contain l = 33 * l.depth + 22

abbrev pub decreases-values : goal.decreases-values
decreases-values l = 33 * l.depth + 21

abbrev pub decreases-factor : goal.decreases-factor
decreases-factor l = 33 * l.depth + 12

abbrev pub decreases-array_entry : goal.decreases-array_entry
decreases-array_entry l = 33 * l.depth + 11

abbrev pub decreases-object_entry : goal.decreases-object_entry
decreases-object_entry l = 33 * l.depth + 10

abbrev pub decreases-after_owner : goal.decreases-after_owner
decreases-after_owner l = 33 * l.depth + 9

abbrev pub decreases-entry : goal.decreases-entry
decreases-entry l = 33 * l.depth + 8

abbrev pub decreases-unary : goal.decreases-unary
decreases-unary l = 33 * l.depth + 7

abbrev pub decreases-minus : goal.decreases-minus
decreases-minus l = 33 * l.depth

abbrev pub decreases-step_before : goal.decreases-step_before
decreases-step_before l = 33 * l.depth

abbrev pub decreases-postfix : goal.decreases-postfix
decreases-postfix l = 33 * l.depth + 6

abbrev pub decreases-primary : goal.decreases-primary
decreases-primary l = 33 * l.depth + 5

abbrev pub decreases-atom : goal.decreases-atom
decreases-atom l = 33 * l.depth + 4

abbrev pub decreases-reserved_word : goal.decreases-reserved_word
decreases-reserved_word l = 33 * l.depth + 3

abbrev pub decreases-object_relative : goal.decreases-object_relative
decreases-object_relative l = 33 * l.depth + 2

abbrev pub decreases-in_parentheses : goal.decreases-in_parentheses
decreases-in_parentheses l = 33 * l.depth + 2

abbrev pub decreases-after_name : goal.decreases-after_name
decreases-after_name l = 33 * l.depth

abbrev pub decreases-within : goal.decreases-within
decreases-within l = 33 * l.depth + 1

abbrev pub decreases-right_side : goal.decreases-right_side
decreases-right_side l = 33 * l.depth

abbrev pub decreases-chain : goal.decreases-chain
decreases-chain l = 33 * l.depth + chain_rank l.operators

abbrev pub decreases-links : goal.decreases-links
decreases-links l = 33 * l.depth + links_rank l.operators

abbrev pub decreases-read_links : goal.decreases-read_links
decreases-read_links l = 33 * l.depth + linked_rank l.operators

abbrev pub decreases-operand : goal.decreases-operand
decreases-operand l = 33 * l.depth + operand_rank l.operators

abbrev pub invariant-read_links-loop-turn : goal.invariant-read_links-loop-turn
invariant-read_links-loop-turn l =
    spec.chain (operator_of l.operators) (operand_of (spec.nested l.depth) l.operators) (l._turn-end - l._turn)
    (expression_tree l.chain.value) (ahead l.parser)
    ≡ spec.chain (operator_of l.operators) (operand_of (spec.nested l.depth) l.operators)
    (length (ahead l.fn.parser)) (expression_tree l.fn.first.value) (ahead l.fn.parser)

abbrev pub invariant-values-loop-turn : goal.invariant-values-loop-turn
invariant-values-loop-turn l =
    joined (map expression_tree (l.first.value ∷ l.others.items))
    (reading.further (reading.is_word w.Or) (spec.sum (spec.nested l.depth)) (l._turn-end - l._turn)
    (ahead l.parser)) ≡ reading.list (reading.is_word w.Or) (spec.sum (spec.nested l.depth)) (ahead l.fn.parser)

abbrev pub invariant-arguments-loop-turn : goal.invariant-arguments-loop-turn
invariant-arguments-loop-turn l =
    joined (map expression_tree l.arguments.items)
    (reading.further (reading.is_sign s.Comma) (spec.expression (spec.nested l.depth)) (l._turn-end - l._turn)
    (ahead l.parser)) ≡ reading.list (reading.is_sign s.Comma) (spec.expression (spec.nested l.depth))
    (ahead l.fn.parser)
