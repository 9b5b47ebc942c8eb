-- The weight of a tree: that of the tokens it was read from. Each token weighs 32, and each byte of a text 3 more. An
-- argument, a value of a comparison, an item and a range count one token more, which stands before or after it. A `-`
-- before a value of a range is not in its tree, and does not count here, nor does a `~` before an attribute of `give`:
-- there is at most one for each such value or attribute.
use Rattle.std.specs.Prelude.{◌+◌, ◌*◌, ℕ, List, [], ◌∷◌, length, Option, Some, None}
use Rattle.syntax_trees.specs.Tree.{ExpressionTree, ExpressionTrees, constant, word, named, call, index, parenthesised}
use Rattle.syntax_trees.specs.Tree.{relative_of, property, property_length, property_entry, prefixed, step_before}
use Rattle.syntax_trees.specs.Tree.{step_after, binary, compare, equal, contained, tested, assign, none, more}
use Rattle.syntax_statements.specs.PartTree.{LiteralTree, RangeTree, PrintItemTree, text_item, character_item}
use Rattle.syntax_statements.specs.PartTree.{object_item, number_item}
use Rattle.syntax_statements.specs.Tree.{StatementTree, StatementTrees, CaseTrees, empty, block, text_alone, print}
use Rattle.syntax_statements.specs.Tree.{print_return, new_line, if_then, if_else, while_do, do_until, for_loop}
use Rattle.syntax_statements.specs.Tree.{switch_on, break_at, continue_at, return_alone, return_value, return_true}
use Rattle.syntax_statements.specs.Tree.{return_false, quit, read_line, give, move, remove, each, each_in, each_where}
use Rattle.syntax_statements.specs.Tree.{effect, stop, next, no_case, default_case, case}

abbrev mutual
  pub expression_weight : ExpressionTree → ℕ
  expression_weight (constant n) = 32
  expression_weight (word s) = 32
  expression_weight (named n) = 32
  expression_weight (call n none) = 96
  expression_weight (call n (more e es)) = 64 + (expression_weight e + 32 + expression_weights es)
  expression_weight (index n width e) = 64 + expression_weight e
  expression_weight (parenthesised e) = 64 + expression_weight e
  expression_weight (relative_of which e) = 96 + expression_weight e
  expression_weight (property e n) = expression_weight e + 64
  expression_weight (property_length e n) = expression_weight e + 64
  expression_weight (property_entry e n i) = expression_weight e + 96 + expression_weight i
  expression_weight (prefixed op e) = 32 + expression_weight e
  expression_weight (step_before op p e) = 32 + expression_weight e
  expression_weight (step_after e op p) = 32 + expression_weight e
  expression_weight (binary op a b) = expression_weight a + 32 + expression_weight b
  expression_weight (compare op a b) = expression_weight a + 32 + expression_weight b
  expression_weight (equal op a bs) = expression_weight a + expression_weights bs
  expression_weight (contained op a b) = expression_weight a + 32 + expression_weight b
  expression_weight (tested test e n) = expression_weight e + 64
  expression_weight (assign a p b) = expression_weight a + 32 + expression_weight b

  pub expression_weights : ExpressionTrees → ℕ
  expression_weights none = 0
  expression_weights (more e es) = expression_weight e + 32 + expression_weights es

abbrev pub item_weight : PrintItemTree → ℕ
item_weight (text_item bytes) = 32 + 3 * length bytes
item_weight (character_item p e) = 96 + expression_weight e
item_weight (object_item p e) = 96 + expression_weight e
item_weight (number_item p e) = expression_weight e

abbrev pub item_weights : List PrintItemTree → ℕ
item_weights [] = 0
item_weights (i ∷ is) = item_weight i + 32 + item_weights is

abbrev pub upper_weight : Option LiteralTree → ℕ
upper_weight None = 0
upper_weight (Some k) = 64

abbrev pub range_weight : RangeTree → ℕ
range_weight g = 32 + upper_weight g.high

abbrev pub range_weights : List RangeTree → ℕ
range_weights [] = 0
range_weights (g ∷ gs) = range_weight g + 32 + range_weights gs

abbrev pub optional_weight : Option ExpressionTree → ℕ
optional_weight None = 0
optional_weight (Some e) = expression_weight e

abbrev mutual
  pub statement_weight : StatementTree → ℕ
  statement_weight empty = 32
  statement_weight (block xs) = 64 + statement_weights xs
  statement_weight (text_alone bytes) = 64 + 3 * length bytes
  statement_weight (print is) = 32 + item_weights is
  statement_weight (print_return is) = 32 + item_weights is
  statement_weight new_line = 64
  statement_weight (if_then p c x) = 96 + expression_weight c + statement_weight x
  statement_weight (if_else p c x y) = 128 + expression_weight c + statement_weight x + statement_weight y
  statement_weight (while_do p c x) = 96 + expression_weight c + statement_weight x
  statement_weight (do_until p x c) = 160 + statement_weight x + expression_weight c
  statement_weight (for_loop p a b c x) = 160 + optional_weight a + optional_weight b + optional_weight c
      + statement_weight x
  statement_weight (switch_on p e cs) = 160 + expression_weight e + case_weights cs
  statement_weight (break_at p) = 64
  statement_weight (continue_at p) = 64
  statement_weight return_alone = 64
  statement_weight (return_value p e) = 64 + expression_weight e
  statement_weight return_true = 64
  statement_weight return_false = 64
  statement_weight quit = 64
  statement_weight (read_line a b) = 128
  statement_weight (give p e xs) = 64 + expression_weight e + 32 * length xs
  statement_weight (move p a b) = 96 + expression_weight a + expression_weight b
  statement_weight (remove p e) = 64 + expression_weight e
  statement_weight (each n x) = 128 + statement_weight x
  statement_weight (each_in p n e x) = 160 + expression_weight e + statement_weight x
  statement_weight (each_where p n e x) = 96 + expression_weight e + statement_weight x
  statement_weight (effect p e) = 32 + expression_weight e

  pub statement_weights : StatementTrees → ℕ
  statement_weights stop = 0
  statement_weights (next x xs) = statement_weight x + statement_weights xs

  pub case_weights : CaseTrees → ℕ
  case_weights no_case = 0
  case_weights (default_case xs) = 64 + statement_weights xs
  case_weights (case gs xs cs) = range_weights gs + statement_weights xs + case_weights cs

-- how many values the ranges of a tree have, and attributes its `give`s

abbrev pub upper_values : Option LiteralTree → ℕ
upper_values None = 0
upper_values (Some k) = 1

abbrev pub range_values : List RangeTree → ℕ
range_values [] = 0
range_values (g ∷ gs) = 1 + upper_values g.high + range_values gs

abbrev mutual
  pub statement_values : StatementTree → ℕ
  statement_values (block xs) = statements_values xs
  statement_values (if_then p c x) = statement_values x
  statement_values (if_else p c x y) = statement_values x + statement_values y
  statement_values (while_do p c x) = statement_values x
  statement_values (do_until p x c) = statement_values x
  statement_values (for_loop p a b c x) = statement_values x
  statement_values (switch_on p e cs) = case_values cs
  statement_values (give p e xs) = length xs
  statement_values (each n x) = statement_values x
  statement_values (each_in p n e x) = statement_values x
  statement_values (each_where p n e x) = statement_values x
  statement_values _ = 0

  pub statements_values : StatementTrees → ℕ
  statements_values stop = 0
  statements_values (next x xs) = statement_values x + statements_values xs

  pub case_values : CaseTrees → ℕ
  case_values no_case = 0
  case_values (default_case xs) = statements_values xs
  case_values (case gs xs cs) = range_values gs + statements_values xs + case_values cs
