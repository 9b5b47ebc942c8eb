-- Words of proofs: what a walk over a name or an expression finds, and what it notes.
use Rattle.std.specs.Prelude.{◌≡◌, ℕ, List, map, Result, IfOk}
use Rattle.std.specs.Global.{Box}
use Rattle.std.specs.List.{flat_map}
use Rattle.syntax_lexer.specs.declared.token.Position.{Position}
use Rattle.syntax_trees.specs.declared.tree.Binary.{Binary}
use Rattle.syntax_trees.specs.declared.tree.Expression.{Expression}
use Rattle.syntax_trees.specs.declared.tree.Name.{Name}
use Rattle.syntax_trees.specs.Tree.{ExpressionTree, NameTree}
use Rattle.syntax_trees.specs.Views.{expression_tree, name_tree}
use Rattle.meaning.specs.declared.resolved.Variable.{Variable}
use Rattle.meaning.specs.declared.resolved.Value as code_value
use Rattle.meaning.specs.Resolved.{Value}
use Rattle.meaning.specs.Views.{value_of}
use Rattle.checker_values.specs.declared.breach.Breach.{Breach}
use Rattle.checker_values.specs.declared.noting.Tally.{Tally}
use Rattle.checker_values.specs.Names.{name_of, is_place, Seen}
use Rattle.checker_values.specs.Noted.{noted}
use Rattle.checker_values.specs.Expressions.{breaches, property_breaches, left_breaches, assigned_breaches, target}
use Rattle.checker_values.specs.Expressions.{property_of_binding, resolve, call_breaches, routine_of_binding}
use Rattle.checker_values.specs.Expressions.{array_name_breaches, array_of_binding}

-- what is found is what is meant, and the broken rules are noted over what was noted before
pub record IsWalked {A : Type 0} (broken : List Breach) (before after : Tally) (found meant : A) : Type 0
  where
    pub value : found ≡ meant
    pub breaches : after ≡ noted before broken

abbrev pub value_link : Binary × code_value.Value → Binary × Value
value_link l = (l.0, value_of l.1)

-- in a routine that sees so much of the file
module _ (seen : Seen) where
  -- Parts of the code's trees

  abbrev pub own_breaches : Expression → List Breach
  own_breaches e = breaches seen.look (expression_tree e)

  abbrev pub resolved : Expression → Value
  resolved e = resolve seen (expression_tree e)

  abbrev pub link_breaches : Binary × Expression → List Breach
  link_breaches l = breaches seen.look (expression_tree l.1)

  abbrev pub resolved_link : Binary × Expression → Binary × Value
  resolved_link l = (l.0, resolve seen (expression_tree l.1))

  abbrev pub own_property_breaches : Name → List Breach
  own_property_breaches n = property_breaches n.position (seen.look (name_tree n).text)

  abbrev pub resolved_property : Name → ℕ
  resolved_property n = property_of_binding (seen.look (name_tree n).text)

  -- Walks, from what was noted before to what is noted after

  abbrev pub IsResolved : ExpressionTree → Tally → Tally → Value → Type 0
  IsResolved e before after v = IsWalked (breaches seen.look e) before after v (resolve seen e)

  -- what is answered, unless memory was refused: what the expression resolves to
  abbrev pub GivesValue : {E : Type 0} → Result code_value.Value E → Tally → Tally → ExpressionTree
      → Type 0
  GivesValue result before after e = IfOk result (λ v. IsResolved e before after (value_of v))

  -- the same, in a box
  abbrev pub GivesBoxed : {E : Type 0} → Result (Box code_value.Value) E → Tally → Tally
      → ExpressionTree → Type 0
  GivesBoxed result before after e = IfOk result (λ v. IsResolved e before after (value_of v.value))

  abbrev pub AreResolved : List Expression → Tally → Tally → List Value → Type 0
  AreResolved es before after vs = IsWalked (flat_map own_breaches es) before after vs (map resolved es)

  abbrev pub AreLinks : List (Binary × Expression) → Tally → Tally → List (Binary × Value) → Type 0
  AreLinks ls before after vs = IsWalked (flat_map link_breaches ls) before after vs (map resolved_link ls)

  -- the number of the routine that a name stands for, which is called with so many arguments
  abbrev pub IsRoutine : NameTree → ℕ → Tally → Tally → ℕ → Type 0
  IsRoutine n given before after number =
      IsWalked (call_breaches n.position given (seen.look n.text)) before after number
      (routine_of_binding (seen.look n.text))

  -- that of an array
  abbrev pub IsArray : NameTree → Tally → Tally → ℕ → Type 0
  IsArray n before after number =
      IsWalked (array_name_breaches n.position (seen.look n.text)) before after number
      (array_of_binding (seen.look n.text))

  -- that of a property
  abbrev pub IsProperty : Name → Tally → Tally → ℕ → Type 0
  IsProperty n before after number = IsWalked (own_property_breaches n) before after number (resolved_property n)

  -- the numbers of properties
  abbrev pub AreProperties : List Name → Tally → Tally → List ℕ → Type 0
  AreProperties ns before after numbers =
      IsWalked (flat_map own_property_breaches ns) before after numbers (map resolved_property ns)

  -- what is stepped by an operator there
  abbrev pub IsTarget : Position → ExpressionTree → Tally → Tally → Variable → Type 0
  IsTarget operator e before after x =
      IsWalked (left_breaches seen.look operator (name_of e) (breaches seen.look e)) before after x
      (target seen (name_of e))

  -- the left side of an assignment there
  abbrev pub IsAssigned : Position → ExpressionTree → Tally → Tally → Value → Type 0
  IsAssigned operator e before after v =
      IsWalked (assigned_breaches seen.look operator (name_of e) (is_place e) (breaches seen.look e)) before after v
      (resolve seen e)
