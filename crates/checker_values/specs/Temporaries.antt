-- How many temporaries an expression needs. A constant, word or variable needs 1; a form with operands e1, e2, .. in
-- order of evaluation needs the greatest of (i - 1) + need(ei), and at least 1. What `++` or `--` steps is an operand.
-- So is the left side of an assignment where, parentheses apart, it is no name and no word of a property; a name that
-- is assigned is no operand, and a word of a property has two, its object and its index. An entry of an array needs
-- what its index needs, also as the left side of an assignment; so does a property what its object needs.
use Rattle.std.specs.Prelude.{ℕ, max, List, [], ◌∷◌, ◌++◌}
use Rattle.syntax_trees.specs.Tree.{ExpressionTree, ExpressionTrees, constant, word, named, call, index, parenthesised}
use Rattle.syntax_trees.specs.Tree.{relative_of, property, property_length, property_entry, prefixed, step_before}
use Rattle.syntax_trees.specs.Tree.{step_after, binary, compare, equal, contained, tested, assign, none, more}
use Rattle.meaning.specs.Limits.{operands}

abbrev mutual
  pub need : ExpressionTree → ℕ
  need (constant n) = 1
  need (word s) = 1
  need (named n) = 1
  need (call n es) = operands 0 (needs es)
  need (index n width e) = operands 0 (need e ∷ [])
  need (parenthesised e) = need e
  need (relative_of r e) = operands 0 (need e ∷ [])
  need (property e n) = operands 0 (need e ∷ [])
  need (property_length e n) = operands 0 (need e ∷ [])
  need (property_entry e n i) = operands 0 (need e ∷ need i ∷ [])
  need (prefixed op e) = operands 0 (need e ∷ [])
  need (step_before op p e) = operands 0 (need e ∷ [])
  need (step_after e op p) = operands 0 (need e ∷ [])
  need (binary op a b) = operands 0 (need a ∷ need b ∷ [])
  need (compare op a b) = operands 0 (need a ∷ need b ∷ [])
  need (equal op a bs) = operands 0 (need a ∷ needs bs)
  need (contained op a b) = operands 0 (need a ∷ need b ∷ [])
  need (tested test e n) = operands 0 (need e ∷ [])
  need (assign a p b) = operands 0 (left_needs a (need a) ++ need b ∷ [])

  pub needs : ExpressionTrees → List ℕ
  needs none = []
  needs (more e es) = need e ∷ needs es

  -- what the operands of the left side of an assignment need; `own` is its need as an expression
  pub left_needs : ExpressionTree → ℕ → List ℕ
  left_needs (named n) own = []
  left_needs (parenthesised e) own = left_needs e own
  left_needs (property_entry e n i) own = need e ∷ need i ∷ []
  left_needs _ own = own ∷ []

-- the greatest of some needs
abbrev pub greatest : List ℕ → ℕ
greatest [] = 0
greatest (n ∷ ns) = max n (greatest ns)
