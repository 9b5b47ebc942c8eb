-- Words of proofs: expressions, read from left to right, as functions from a list of tokens to a tree and the tokens
-- after it.
use Rattle.std.specs.Prelude.{if◌then◌else◌, ℕ, zero, suc, List, length, Option, Some, None, Result, Ok, Err}
use Rattle.syntax_lexer.specs.declared.token.Sign.TheVariants as s
use Rattle.syntax_lexer.specs.declared.token.Word.{Word}
use Rattle.syntax_lexer.specs.declared.token.Word.TheVariants as w
use Rattle.syntax_lexer.specs.Token.{Lexeme, name, number, character, dictionary_word, reserved, sign, position_of}
use Rattle.syntax_trees.specs.declared.tree.Binary.{Binary}
use Rattle.syntax_trees.specs.declared.tree.Comparison.{Comparison}
use Rattle.syntax_trees.specs.declared.tree.Equality.{Equality}
use Rattle.syntax_trees.specs.declared.tree.Containment.{Containment}
use Rattle.syntax_trees.specs.declared.tree.Prefix.TheVariants as op
use Rattle.syntax_trees.specs.declared.tree.Relative.{Relative}
use Rattle.syntax_trees.specs.declared.tree.Step.{Step}
use Rattle.syntax_trees.specs.declared.tree.Width.{Width}
use Rattle.syntax_trees.specs.Tree.{NameTree, ExpressionTree, constant, word, named, call, index, parenthesised}
use Rattle.syntax_trees.specs.Tree.{prefixed, relative_of, property_entry, step_before, binary, compare, equal}
use Rattle.syntax_trees.specs.Tree.{contained, assign, none}
use Rattle.syntax_trees.specs.Views.{trees_of}
use Rattle.syntax_trees.specs.Parse.{Parse, ◌>>=◌, head, tail, is_sign, is_word, expect, list}
use Rattle.syntax_trees.specs.Stop.{Stop, unfit, deep}
use Rattle.syntax_expressions.specs.Operators.{logical, comparing, equating, containing, adding, scaling, stepping}
use Rattle.syntax_expressions.specs.Operators.{prefixes, relating_word, begins_expression}
use Rattle.syntax_expressions.specs.PartParse.{closed, properties, entry_of, word_value, constant_on, after_operand, array_at}
use Rattle.syntax_expressions.specs.PartParse.{tested_next}

-- ---- chains and lists. The number bounds the turns; the count of tokens is enough.

-- {operator operand} after a left side, grouped to the left
abbrev pub chain_on : (ExpressionTree → Parse ExpressionTree) → Parse ExpressionTree → ExpressionTree → List Lexeme
    → Option Binary → Result (ExpressionTree × List Lexeme) Stop
chain_on again operand left ts None = Ok (left, ts)
chain_on again operand left ts (Some op) = operand (tail ts) >>= λ x. again (binary op left x.0) x.1

unfoldable pub chain : (Lexeme → Option Binary) → Parse ExpressionTree → ℕ → ExpressionTree → Parse ExpressionTree
chain operator operand zero left ts = Ok (left, ts)
chain operator operand (suc n) left ts = chain_on (chain operator operand n) operand left ts (operator (head ts))

-- ---- the levels of the grammar

-- what is read one nesting further in
pub data Level : Type 0 where
  whole : Level
  negation : Level
  complement : Level
  prefix : Level
  operand : Level
  arguments : NameTree → Level

-- over the levels one nesting further in, each with the number of tokens that are left from the token on that opens
-- the nesting
module _ (below : Level → ℕ → Parse ExpressionTree) where
  -- a name, and after a parenthesis its arguments
  unfoldable pub after_name : NameTree → Parse ExpressionTree
  after_name n ts =
      if is_sign s.OpenParenthesis (head ts) then below (arguments n) (length ts) (tail ts)
      else Ok (named n, ts)

  -- after a parenthesis
  unfoldable pub in_parentheses : ℕ → Parse ExpressionTree
  in_parentheses opening ts = below whole opening ts >>= closed parenthesised

  -- after `parent`, `child` or `sibling`
  unfoldable pub object_relative : Relative → Parse ExpressionTree
  object_relative which ts =
      if is_sign s.OpenParenthesis (head ts) then (below whole (length ts) (tail ts) >>= closed (relative_of which))
      else Err (unfit (length ts))

  abbrev pub word_on : Word → Option Relative → Parse ExpressionTree
  word_on w None ts = constant_on (word_value w) ts
  word_on w (Some which) ts = object_relative which (tail ts)

  abbrev pub atom_on : Lexeme → Parse ExpressionTree
  atom_on (number n p) ts = Ok (constant n, tail ts)
  atom_on (character c p) ts = Ok (constant c, tail ts)
  atom_on (dictionary_word f p) ts = Ok (word f, tail ts)
  atom_on (reserved w p) ts = word_on w (relating_word w) ts
  atom_on (name n p) ts = after_name (record { text = n; position = p }) (tail ts)
  atom_on (sign s.OpenParenthesis p) ts = in_parentheses (length ts) (tail ts)
  atom_on _ ts = Err (unfit (length ts))

  unfoldable pub atom : Parse ExpressionTree
  atom ts = atom_on (head ts) ts

  unfoldable pub primary : Parse ExpressionTree
  primary ts = atom ts >>= λ x. properties (length x.1) x.0 x.1

  unfoldable pub postfix : Parse ExpressionTree
  postfix ts = primary ts >>= λ x. after_operand x.0 x.1

  abbrev pub unary_on : List Lexeme → Option Step → Result (ExpressionTree × List Lexeme) Stop
  unary_on ts None = postfix ts
  unary_on ts (Some op) =
      below operand (length ts) (tail ts) >>= λ x. Ok (step_before op (position_of (head ts)) x.0, x.1)

  -- after its sign
  abbrev pub minus : ℕ → Parse ExpressionTree
  minus opening ts = below prefix opening ts >>= λ x. Ok (prefixed op.Minus x.0, x.1)

  unfoldable pub unary : Parse ExpressionTree
  unary ts = if is_sign s.Minus (head ts) then minus (length ts) (tail ts) else unary_on ts (stepping (head ts))

  -- an entry of a property of an object, after its sign
  unfoldable pub entry : ExpressionTree → Parse ExpressionTree
  entry e ts = entry_of ts >>= λ x. unary x.1 >>= λ y. Ok (property_entry e x.0 y.0, y.1)

  unfoldable pub after_owner : ExpressionTree → Parse ExpressionTree
  after_owner e ts = if is_sign s.DotAmpersand (head ts) then entry e (tail ts) else after_operand e ts

  unfoldable pub object_entry : Parse ExpressionTree
  object_entry ts = if prefixes (head ts) then unary ts else (primary ts >>= λ x. after_owner x.0 x.1)

  abbrev pub array_entry_on : List Lexeme → Option (NameTree × Width) → Result (ExpressionTree × List Lexeme) Stop
  array_entry_on ts None = object_entry ts
  array_entry_on ts (Some a) = unary (tail (tail ts)) >>= λ x. Ok (index a.0 a.1 x.0, x.1)

  unfoldable pub array_entry : Parse ExpressionTree
  array_entry ts = array_entry_on ts (array_at ts)

  unfoldable pub factor : Parse ExpressionTree
  factor ts =
      if is_sign s.Tilde (head ts) then (below complement (length ts) (tail ts)
      >>= λ x. Ok (prefixed op.Complement x.0, x.1))
      else array_entry ts

  unfoldable pub product : Parse ExpressionTree
  product ts = factor ts >>= λ x. chain scaling factor (length x.1) x.0 x.1

  unfoldable pub sum : Parse ExpressionTree
  sum ts = product ts >>= λ x. chain adding product (length x.1) x.0 x.1

  unfoldable pub equate_on : ExpressionTree → Equality → Parse ExpressionTree
  equate_on left op ts = list (is_word w.Or) sum ts >>= λ x. Ok (equal op left (trees_of x.0), x.1)

  -- the right side of a comparison of two, and of `in` and `notin`
  abbrev pub compare_on : ExpressionTree → Comparison → Parse ExpressionTree
  compare_on left op ts = sum ts >>= λ x. Ok (compare op left x.0, x.1)

  abbrev pub contain_on : ExpressionTree → Containment → Parse ExpressionTree
  contain_on left op ts = sum ts >>= λ x. Ok (contained op left x.0, x.1)

  abbrev pub contained_on : ExpressionTree → List Lexeme → Option Containment
      → Result (ExpressionTree × List Lexeme) Stop
  contained_on left ts None = tested_next left ts
  contained_on left ts (Some op) = contain_on left op (tail ts)

  abbrev pub equated_on : ExpressionTree → List Lexeme → Option Equality → Result (ExpressionTree × List Lexeme) Stop
  equated_on left ts None = contained_on left ts (containing (head ts))
  equated_on left ts (Some op) = equate_on left op (tail ts)

  abbrev pub compared_on : ExpressionTree → List Lexeme → Option Comparison
      → Result (ExpressionTree × List Lexeme) Stop
  compared_on left ts None = equated_on left ts (equating (head ts))
  compared_on left ts (Some op) = compare_on left op (tail ts)

  -- what follows a left side
  unfoldable pub after_left : ExpressionTree → Parse ExpressionTree
  after_left left ts = compared_on left ts (comparing (head ts))

  unfoldable pub comparison : Parse ExpressionTree
  comparison ts = sum ts >>= λ x. after_left x.0 x.1

  unfoldable pub logical_operand : Parse ExpressionTree
  logical_operand ts =
      if is_sign s.Not (head ts) then (below negation (length ts) (tail ts) >>= λ x. Ok (prefixed op.Not x.0, x.1))
      else comparison ts

  unfoldable pub condition : Parse ExpressionTree
  condition ts = logical_operand ts >>= λ x. chain logical logical_operand (length x.1) x.0 x.1

  -- the right side of an assignment is one nesting further in where it begins
  unfoldable pub right_side : Parse ExpressionTree
  right_side ts = if begins_expression (head ts) then below whole (length ts) ts else Err (unfit (length ts))

  -- after a left side
  unfoldable pub assignment : ExpressionTree → Parse ExpressionTree
  assignment left ts =
      if is_sign s.Assign (head ts)
      then (right_side (tail ts) >>= λ y. Ok (assign left (position_of (head ts)) y.0, y.1))
      else Ok (left, ts)

  unfoldable pub expression : Parse ExpressionTree
  expression ts = condition ts >>= λ x. assignment x.0 x.1

  -- the arguments of a call, after its parenthesis
  unfoldable pub rest_of_call : NameTree → Parse ExpressionTree
  rest_of_call n ts =
      if is_sign s.CloseParenthesis (head ts) then Ok (call n none, tail ts)
      else (list (is_sign s.Comma) expression ts >>= λ x. expect s.CloseParenthesis x.1
      >>= λ r. Ok (call n (trees_of x.0), r))

-- each level, with so many nestings at most, which the token opens from which on so many are left
unfoldable pub nested : ℕ → Level → ℕ → Parse ExpressionTree
nested zero l opening ts = Err (deep opening)
nested (suc d) whole opening ts = expression (nested d) ts
nested (suc d) negation opening ts = logical_operand (nested d) ts
nested (suc d) complement opening ts = factor (nested d) ts
nested (suc d) prefix opening ts = unary (nested d) ts
nested (suc d) operand opening ts = primary (nested d) ts
nested (suc d) (arguments n) opening ts = rest_of_call (nested d) n ts
