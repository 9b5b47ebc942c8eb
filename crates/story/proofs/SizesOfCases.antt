-- The code of `switch` is no longer than its tree weighs: at most two tests for each range of a case.
use Rattle.std.proofs.Common.{◌≤◌, ◌+◌, ◌*◌, ◌==◌, ℕ, Bool, true, false, List, [], ◌∷◌, ◌++◌, length, map, arith}
use Rattle.std.specs.Prelude.{nat_lt, if◌then◌else◌}
use Rattle.std.proofs.lemmas.List.{length-map}
use Rattle.syntax_lexer.specs.declared.token.Position.{Position}
use Rattle.syntax_lexer.specs.Token.{Lexeme}
use Rattle.syntax_trees.specs.Tree.{ExpressionTree}
use Rattle.syntax_statements.specs.PartTree.{RangeTree}
use Rattle.syntax_statements.specs.PartGrammar.{IsRanges, ranges_last, ranges_comma}
use Rattle.syntax_statements.specs.Tree.{StatementTrees, CaseTrees}
use Rattle.syntax_statements.specs.Tree as statements
use Rattle.syntax_directives.specs.Weight.{range_weights, case_weights}
use Rattle.meaning.specs.Resolved.{RangeOf}
use Rattle.meaning.specs.Resolved as resolved
use Rattle.checker_values.specs.Names.{Seen}
use Rattle.checker_values.specs.Expressions.{resolve}
use Rattle.checker_statements.specs.Statements.{resolve_range, resolve_statements, resolve_cases}
use Rattle.code_drafts.specs.Items.{aside, value_count, value_items}
use Rattle.code_drafts.specs.Items as items
use Rattle.code_items.specs.Statements.{Group, numbers, range, with_number, groups_of, group_count, group_items}
use Rattle.code_items.specs.Statements.{tests_count, tests_items, over_count, over_items, actions_count, cases_count}
use Rattle.code_items.specs.Statements.{Exits, actions_items, cases_items}
use Rattle.story.proofs.Most.{most_of, most_append}
use Rattle.story.proofs.SizesOfExpressions.{few_value, FitsExpression}
use Rattle.story.proofs.SizesOfStatements.{StatementFits, BodyFits}

-- The tests of a case: at most two for each of its ranges

with_number_few : (n : ℕ) (gs : List Group) → length (with_number n gs) ≤ 1 + length gs
with_number_few n [] = omega arith
with_number_few n (range low high ∷ gs) = omega arith
with_number_few n (numbers ns ∷ gs) = go (nat_lt (length ns) 3)
  where
    go : (b : Bool) → length (if b then numbers (n ∷ ns) ∷ gs else numbers (n ∷ []) ∷ numbers ns ∷ gs)
        ≤ 1 + length (numbers ns ∷ gs)
    go true = omega arith
    go false = omega arith

groups_few : (gs : List RangeOf) → length (groups_of gs) ≤ length gs
groups_few [] = omega arith
groups_few (resolved.one n ∷ gs) = let more = groups_few gs in omega (arith, more, with_number_few n (groups_of gs))
groups_few (resolved.between low high ∷ gs) = let more = groups_few gs in omega (arith, more)

group_few : (at : ℕ) (g : Group) (inside : ℕ) → most_of (group_items at g inside) ≤ 26
group_few at (numbers ns) inside = omega arith
group_few at (range low high) inside = omega arith

tests_few : (at : ℕ) (gs : List Group) (inside behind : ℕ)
    → most_of (tests_items at gs inside behind) ≤ 3 + 26 * length gs
tests_few at [] inside behind = omega arith
tests_few at (numbers ns ∷ []) inside behind = omega arith
tests_few at (range low high ∷ []) inside behind = omega arith
tests_few at (g ∷ h ∷ gs) inside behind =
    let rest = tests_items (at + group_count g) (h ∷ gs) inside behind in
    let more = tests_few (at + group_count g) (h ∷ gs) inside behind in
    omega (arith, more, group_few at g inside, most_append (group_items at g inside) rest)

over_few : (later end : ℕ) → most_of (over_items later end) ≤ 3
over_few later end = go (later == 0)
  where
    go : (b : Bool) → most_of (if b then [] else items.jump end ∷ []) ≤ 3
    go true = omega arith
    go false = omega arith

ranges_weigh : (gs : List RangeTree) → 64 * length gs ≤ range_weights gs
ranges_weigh [] = omega arith
ranges_weigh (g ∷ gs) = let more = ranges_weigh gs in omega (arith, more)

some_ranges : {ts r : List Lexeme} {gs : List RangeTree} → IsRanges ts gs r → 1 ≤ length gs
some_ranges (ranges_last a) = omega arith
some_ranges (ranges_comma a b) = omega arith

-- in a routine that sees so much of the file
module _ (seen : Seen) where
  pub record CasesFit (cs : CaseTrees) : Type 0 where
    pub within : (e : Exits) (at end : ℕ) → most_of (cases_items e at (resolve_cases seen cs) end) ≤ case_weights cs

  pub no_case_fits : CasesFit statements.no_case
  no_case_fits = record { within = λ e at end. omega arith }

  pub default_fits : {xs : StatementTrees} → BodyFits seen xs → CasesFit (statements.default_case xs)
  default_fits g = record { within = λ e at end. omega (arith, g.within e at) }

  pub case_fits : {ts r : List Lexeme} {gs : List RangeTree} {xs : StatementTrees} {cs : CaseTrees} → IsRanges ts gs r
      → BodyFits seen xs → CasesFit cs → CasesFit (statements.case gs xs cs)
  case_fits {gs = gs} {xs = xs} {cs = cs} ranges f g =
      let groups = groups_of (map (resolve_range seen) gs) in
      let body = resolve_statements seen xs in
      let rest = resolve_cases seen cs in
      record {
        within = λ e at end.
            let n = at + tests_count groups in
            let over = over_items (cases_count rest) end in
            let later = n + actions_count body + over_count (cases_count rest) in
            let others = cases_items e later rest end in
            omega (
              arith,
              most_append (tests_items at groups n later) (actions_items e n body ++ (over ++ others)),
              most_append (actions_items e n body) (over ++ others),
              most_append over others,
              tests_few at groups n later,
              groups_few (map (resolve_range seen) gs),
              length-map gs (resolve_range seen),
              ranges_weigh gs,
              some_ranges ranges,
              over_few (cases_count rest) end,
              f.within e n,
              g.within e later end,
            );
      }

  pub switch_fits : {p : Position} {c : ExpressionTree} {cs : CaseTrees} → FitsExpression seen c → CasesFit cs
      → StatementFits seen (statements.switch_on p c cs)
  switch_fits {c = c} {cs = cs} f g =
      let v = resolve seen c in
      let rest = resolve_cases seen cs in
      record {
        within = λ e at.
            let n = at + value_count v aside in
            let end = n + cases_count rest in
            let inside = record e { breaks = end } in
            omega (
              arith,
              most_append (value_items at v aside) (cases_items inside n rest end),
              few_value seen c f aside at,
              g.within inside n end,
            );
      }
