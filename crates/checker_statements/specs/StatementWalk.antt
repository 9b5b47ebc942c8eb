-- Words of proofs: what a walk over statements in order, or over the cases of a `switch`, finds, and what it notes.
use Rattle.std.specs.Prelude.{List, [], ◌++◌, Option, Some, None, map}
use Rattle.std.specs.Global.{Vec}
use Rattle.std.specs.List.{flat_map}
use Rattle.std.specs.Option.{option_map}
use Rattle.syntax_statements.specs.declared.part_tree.Range.{Range}
use Rattle.syntax_statements.specs.declared.tree.Statement.{Statement}
use Rattle.syntax_statements.specs.Tree.{StatementTree}
use Rattle.syntax_statements.specs.Views.{CaseTree, trees_of, statement_tree, case_tree}
use Rattle.meaning.specs.declared.enclosure.Enclosure.{Enclosure}
use Rattle.meaning.specs.Resolved.{RangeOf, Action, Actions}
use Rattle.checker_values.specs.declared.breach.Breach.{Breach}
use Rattle.checker_values.specs.declared.noting.Tally.{Tally}
use Rattle.checker_values.specs.Names.{Seen}
use Rattle.checker_values.specs.Walk.{IsWalked}
use Rattle.checker_statements.specs.Statements.{range_breaches, resolve_range, statement_breaches, statements_breaches}
use Rattle.checker_statements.specs.Statements.{resolve_statement, resolve_statements}

-- in a routine that sees so much of the file
module _ (seen : Seen) where
  -- Parts of the code's trees

  -- a case, with its ranges and its statements
  abbrev pub case_breaches : Enclosure → CaseTree → List Breach
  case_breaches around c = flat_map (range_breaches seen.look) c.0 ++ statements_breaches seen.look around c.1

  abbrev pub resolve_case : CaseTree → List RangeOf × Actions
  resolve_case c = (map (resolve_range seen) c.0, resolve_statements seen c.1)

  abbrev pub own_case_breaches : Enclosure → Vec Range × Vec Statement → List Breach
  own_case_breaches around c = case_breaches around (case_tree c)

  abbrev pub resolved_case : Vec Range × Vec Statement → List RangeOf × Actions
  resolved_case c = resolve_case (case_tree c)

  -- the statements of `default`
  abbrev pub other_breaches : Enclosure → Option (List StatementTree) → List Breach
  other_breaches around None = []
  other_breaches around (Some xs) = statements_breaches seen.look around (trees_of xs)

  abbrev pub resolved_other : Option (List StatementTree) → Option (List Action)
  resolved_other other = option_map (λ xs. map (resolve_statement seen) xs) other

  abbrev pub own_statement_breaches : Enclosure → Statement → List Breach
  own_statement_breaches around s = statement_breaches seen.look around (statement_tree s)

  abbrev pub resolved_statement : Statement → Action
  resolved_statement s = resolve_statement seen (statement_tree s)

  -- Walks, from what was noted before to what is noted after

  abbrev pub AreActions : Enclosure → List Statement → Tally → Tally → List Action → Type 0
  AreActions around ss before after found = IsWalked (flat_map (own_statement_breaches around) ss) before after found
      (map resolved_statement ss)

  abbrev pub IsCase : Enclosure → Vec Range × Vec Statement → Tally → Tally → List RangeOf × Actions
      → Type 0
  IsCase around c before after found = IsWalked (own_case_breaches around c) before after found (resolved_case c)

  abbrev pub AreCases : Enclosure → List (Vec Range × Vec Statement) → Tally → Tally
      → List (List RangeOf × Actions) → Type 0
  AreCases around cs before after found =
      IsWalked (flat_map (own_case_breaches around) cs) before after found (map resolved_case cs)

  abbrev pub IsOther : Enclosure → Option (List StatementTree) → Tally → Tally → Option (List Action)
      → Type 0
  IsOther around other before after found =
      IsWalked (other_breaches around other) before after found (resolved_other other)
