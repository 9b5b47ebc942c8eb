-- The expressions of a program, where they begin, and how many temporaries they need.
use Rattle.std.specs.Prelude.{◌≡◌, ◌≤◌, ◌<◌, ℕ, min, nat_eq, if◌then◌else◌, List, [], ◌∷◌, ◌++◌, Option, Some, None}
use Rattle.std.specs.List.{All, flat_map}
use Rattle.syntax_lexer.specs.declared.token.Position.{Position}
use Rattle.syntax_statements.specs.PartTree as parts
use Rattle.syntax_statements.specs.PartTree.{PrintItemTree}
use Rattle.syntax_statements.specs.Tree as trees
use Rattle.syntax_statements.specs.Tree.{StatementTree, StatementTrees, CaseTrees}
use Rattle.syntax_directives.specs.Tree.{DirectiveTree, global, constant, array, attribute, property, object, routine}
use Rattle.syntax.specs.Tree.{ProgramTree}
use Rattle.meaning.specs.Limits.{most_temporaries}
use Rattle.checker_values.specs.Temporaries.{need}
use Rattle.checker_statements.specs.Statements.{heading_need, move_need}
use Rattle.messages_diagnosis.specs.declared.sought.Temporaries.{Temporaries}

-- where the statement or the item of a `print` begins, and how many temporaries its expression needs
abbrev pub PlacedNeed : Type 0
PlacedNeed = Position × ℕ

abbrev pub item_needs : PrintItemTree → List PlacedNeed
item_needs (parts.text_item s) = []
item_needs (parts.character_item p e) = (p, need e) ∷ []
item_needs (parts.object_item p e) = (p, need e) ∷ []
item_needs (parts.number_item p e) = (p, need e) ∷ []

-- In the order in which they begin. The operands of a `move` are those of one form, and so are the parts of a `for`.
abbrev mutual
  pub statement_needs : StatementTree → List PlacedNeed
  statement_needs trees.empty = []
  statement_needs (trees.block xs) = statements_needs xs
  statement_needs (trees.text_alone s) = []
  statement_needs (trees.print is) = flat_map item_needs is
  statement_needs (trees.print_return is) = flat_map item_needs is
  statement_needs trees.new_line = []
  statement_needs (trees.if_then p c x) = (p, need c) ∷ statement_needs x
  statement_needs (trees.if_else p c x y) = (p, need c) ∷ statement_needs x ++ statement_needs y
  statement_needs (trees.while_do p c x) = (p, need c) ∷ statement_needs x
  statement_needs (trees.do_until p x c) = (p, need c) ∷ statement_needs x
  statement_needs (trees.for_loop p a b c x) = (p, heading_need a b c) ∷ statement_needs x
  statement_needs (trees.switch_on p e cs) = (p, need e) ∷ cases_needs cs
  statement_needs (trees.break_at p) = []
  statement_needs (trees.continue_at p) = []
  statement_needs trees.return_alone = []
  statement_needs (trees.return_value p e) = (p, need e) ∷ []
  statement_needs trees.return_true = []
  statement_needs trees.return_false = []
  statement_needs trees.quit = []
  statement_needs (trees.read_line n m) = []
  statement_needs (trees.give p e xs) = (p, need e) ∷ []
  statement_needs (trees.move p a b) = (p, move_need a b) ∷ []
  statement_needs (trees.remove p e) = (p, need e) ∷ []
  statement_needs (trees.each n x) = statement_needs x
  statement_needs (trees.each_in p n e x) = (p, need e) ∷ statement_needs x
  statement_needs (trees.each_where p n c x) = (p, need c) ∷ statement_needs x
  statement_needs (trees.effect p e) = (p, need e) ∷ []

  pub statements_needs : StatementTrees → List PlacedNeed
  statements_needs trees.stop = []
  statements_needs (trees.next x xs) = statement_needs x ++ statements_needs xs

  pub cases_needs : CaseTrees → List PlacedNeed
  cases_needs trees.no_case = []
  cases_needs (trees.default_case xs) = statements_needs xs
  cases_needs (trees.case gs xs cs) = statements_needs xs ++ cases_needs cs

-- of a definition: only routines have expressions
abbrev pub directive_needs : DirectiveTree → List PlacedNeed
directive_needs (global n v) = []
directive_needs (constant n v) = []
directive_needs (array a) = []
directive_needs (attribute n) = []
directive_needs (property n v) = []
directive_needs (object o) = []
directive_needs (routine r) = statements_needs r.body

abbrev pub program_needs : ProgramTree → List PlacedNeed
program_needs p = flat_map directive_needs p.directives

-- no more than 48, as each of a program that breaks no rule (E29)
abbrev pub HasFew : PlacedNeed → Type 0
HasFew x = x.1 ≤ most_temporaries

-- The greatest number and the first place with it: fewer before it, and no more behind it. There is none in an empty
-- list alone.
abbrev pub IsFirstGreatest : List PlacedNeed → Option Temporaries → Type 0
IsFirstGreatest xs None = xs ≡ []
IsFirstGreatest xs (Some t) = (before : List PlacedNeed) × (behind : List PlacedNeed)
    × (xs ≡ before ++ (t.position, t.number) ∷ behind)
    × All (λ (x : PlacedNeed). x.1 < t.number) before × All (λ (x : PlacedNeed). x.1 ≤ t.number) behind

-- what the first of some needs that begins at an offset is, where more than 255 count as 255
abbrev pub first_at : ℕ → List PlacedNeed → Option ℕ
first_at o [] = None
first_at o (x ∷ xs) = if nat_eq x.0.offset o then Some (min 255 x.1) else first_at o xs
