-- Words of proofs: what a walk over a statement or a part of one finds, and what it notes.
use Rattle.std.specs.Prelude.{ℕ, Bool, List, Option, Some, None, map, Result, IfOk, true, ◌-◌, nat_le}
use Rattle.std.specs.Global.{Box}
use Rattle.std.specs.List.{flat_map}
use Rattle.std.specs.Option.{option_map}
use Rattle.syntax_lexer.specs.declared.token.Position.{Position}
use Rattle.syntax_trees.specs.declared.tree.Name.{Name}
use Rattle.syntax_trees.specs.Tree.{ExpressionTree}
use Rattle.syntax_statements.specs.declared.part_tree.PrintItem.{PrintItem}
use Rattle.syntax_statements.specs.declared.part_tree.Range.{Range}
use Rattle.syntax_statements.specs.PartTree.{RangeTree, PrintItemTree}
use Rattle.syntax_statements.specs.PartViews.{HeadingTree, range_tree, flag_tree, item_tree}
use Rattle.syntax_statements.specs.Tree.{StatementTree}
use Rattle.meaning.specs.declared.enclosure.Enclosure.{Enclosure}
use Rattle.meaning.specs.declared.resolved.Value as code_value
use Rattle.meaning.specs.declared.resolved.Action as code_action
use Rattle.meaning.specs.Resolved.{Value, RangeOf, Printed, Action}
use Rattle.meaning.specs.Views.{boxed_value, action_of}
use Rattle.checker_values.specs.declared.breach.Breach.{Breach}
use Rattle.checker_values.specs.declared.noting.Tally.{Tally}
use Rattle.checker_values.specs.Names.{Seen}
use Rattle.checker_values.specs.Expressions.{resolve}
use Rattle.checker_values.specs.Temporaries.{need}
use Rattle.checker_values.specs.Walk.{IsWalked}
use Rattle.checker_statements.specs.Statements.{heading_need, whole_breaches, part_breaches, heading_breaches}
use Rattle.checker_statements.specs.Statements.{range_breaches, resolve_range, flag_breaches, resolve_flag, item_breaches}
use Rattle.checker_statements.specs.Statements.{resolve_item, statement_breaches, resolve_statement}

abbrev pub parts_of : Option (Box code_value.Value) × Option (Box code_value.Value) × Option (Box code_value.Value)
    → Option Value × Option Value × Option Value
parts_of x = (option_map boxed_value x.0, option_map boxed_value x.1, option_map boxed_value x.2)

abbrev pub need_of_heading : HeadingTree → ℕ
need_of_heading h = heading_need h.before h.test h.after

-- a part of a `for` that is there needs at most so many, and leaves one less to those after it
abbrev pub part_fits : Option ExpressionTree → ℕ → Bool
part_fits None room = true
part_fits (Some e) room = nat_le (need e) room

abbrev pub room_after : Option ExpressionTree → ℕ → ℕ
room_after None room = room
room_after (Some e) room = room - 1

-- in a routine that sees so much of the file
module _ (seen : Seen) where
  -- Parts of the code's trees

  abbrev pub own_flag_breaches : Bool × Name → List Breach
  own_flag_breaches x = flag_breaches seen.look (flag_tree x)

  abbrev pub resolved_flag : Bool × Name → Bool × ℕ
  resolved_flag x = resolve_flag seen (flag_tree x)

  abbrev pub own_item_breaches : PrintItem → List Breach
  own_item_breaches x = item_breaches seen.look (item_tree x)

  abbrev pub resolved_item : PrintItem → Printed
  resolved_item x = resolve_item seen (item_tree x)

  abbrev pub own_range_breaches : Range → List Breach
  own_range_breaches g = range_breaches seen.look (range_tree g)

  abbrev pub resolved_range : Range → RangeOf
  resolved_range g = resolve_range seen (range_tree g)

  -- Walks, from what was noted before to what is noted after

  -- a whole expression of what begins there
  abbrev pub IsWhole : Position → ExpressionTree → Tally → Tally → Value → Type 0
  IsWhole position e before after v = IsWalked (whole_breaches seen.look position e) before after v (resolve seen e)

  -- the parts of a `for`

  abbrev pub IsPart : Option ExpressionTree → Tally → Tally → Option Value → Type 0
  IsPart e before after v = IsWalked (part_breaches seen.look e) before after v (option_map (resolve seen) e)

  abbrev pub resolve_heading : HeadingTree → Option Value × Option Value × Option Value
  resolve_heading h = (
    option_map (resolve seen) h.before,
    option_map (resolve seen) h.test,
    option_map (resolve seen) h.after,
  )

  abbrev pub IsHeading : Position → HeadingTree → Tally → Tally
      → Option Value × Option Value × Option Value → Type 0
  IsHeading position h before after x =
      IsWalked (heading_breaches seen.look position h.before h.test h.after) before after x (resolve_heading h)

  -- what begins a case

  abbrev pub IsRange : RangeTree → Tally → Tally → RangeOf → Type 0
  IsRange g before after r = IsWalked (range_breaches seen.look g) before after r (resolve_range seen g)

  abbrev pub AreRanges : List Range → Tally → Tally → List RangeOf → Type 0
  AreRanges gs before after rs = IsWalked (flat_map own_range_breaches gs) before after rs (map resolved_range gs)

  -- the attributes of a `give`

  abbrev pub IsFlag : Bool × Name → Tally → Tally → Bool × ℕ → Type 0
  IsFlag x before after found = IsWalked (own_flag_breaches x) before after found (resolved_flag x)

  abbrev pub AreFlags : List (Bool × Name) → Tally → Tally → List (Bool × ℕ) → Type 0
  AreFlags xs before after found = IsWalked (flat_map own_flag_breaches xs) before after found (map resolved_flag xs)

  abbrev pub IsItem : PrintItemTree → Tally → Tally → Printed → Type 0
  IsItem x before after i = IsWalked (item_breaches seen.look x) before after i (resolve_item seen x)

  abbrev pub AreItems : List PrintItem → Tally → Tally → List Printed → Type 0
  AreItems xs before after is = IsWalked (flat_map own_item_breaches xs) before after is (map resolved_item xs)

  -- statements that stand in what is around them

  abbrev pub IsAction : Enclosure → StatementTree → Tally → Tally → Action → Type 0
  IsAction around s before after a = IsWalked (statement_breaches seen.look around s) before after a
      (resolve_statement seen s)

  -- what is answered, unless memory was refused: what the statement resolves to
  abbrev pub GivesAction : {E : Type 0} → Enclosure → Result code_action.Action E → Tally → Tally
      → StatementTree → Type 0
  GivesAction around result before after s = IfOk result (λ a. IsAction around s before after (action_of a))
