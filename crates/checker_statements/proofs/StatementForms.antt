-- Lists of statements, cases and their parts: what they break and what they resolve to, part by part.
use Rattle.std.proofs.Common.{◌≡◌, List, [], ◌∷◌, ◌++◌, append_assoc, Option, Some, None, refl, sym, ap, ◌∙◌, subst}
use Rattle.std.specs.Prelude.{map, Result, Ok, Err, IfOk}
use Rattle.std.specs.Global.{Vec, Box}
use Rattle.std.specs.List.{flat_map}
use Rattle.syntax_lexer.specs.declared.token.Position.{Position}
use Rattle.syntax_trees.specs.Tree.{ExpressionTree}
use Rattle.syntax_statements.specs.declared.part_tree.Range.{Range}
use Rattle.syntax_statements.specs.PartViews.{range_tree}
use Rattle.syntax_statements.specs.declared.tree.Statement.{Statement}
use Rattle.syntax_statements.specs.declared.tree.Statement.TheVariants as said
use Rattle.syntax_statements.specs.Tree.{StatementTree}
use Rattle.syntax_statements.specs.Views.{statement_tree, case_tree, trees_of, cases_of}
use Rattle.syntax_statements.specs.Tree as written
use Rattle.meaning.proofs.Mapped.{mapped_twice}
use Rattle.meaning.specs.declared.enclosure.Enclosure.{Enclosure}
use Rattle.meaning.specs.Resolved as values
use Rattle.meaning.specs.declared.resolved.Action as code_action
use Rattle.meaning.specs.declared.resolved.Action.TheVariants as done
use Rattle.meaning.specs.declared.resolved.Span.{Span}
use Rattle.meaning.specs.declared.resolved.Variable.{Variable}
use Rattle.meaning.specs.Resolved.{Value, RangeOf, Action, Actions}
use Rattle.meaning.specs.Views.{range_of, actions_of, action_of, case_of}
use Rattle.meaning.specs.Views as views
use Rattle.meaning.specs.Enclosure.{in_switch}
use Rattle.checker_values.specs.declared.breach.Breach.{Breach}
use Rattle.checker_values.specs.declared.noting.Tally.{Tally}
use Rattle.checker_values.specs.Noted.{noted}
use Rattle.checker_values.proofs.Noted.{noted_two}
use Rattle.checker_values.specs.Names.{Seen}
use Rattle.checker_values.specs.Walk.{IsWalked}
use Rattle.checker_values.proofs.Walks.{leaf, two}
use Rattle.checker_statements.specs.Statements.{range_breaches, resolve_range, statements_breaches, cases_breaches}
use Rattle.checker_statements.specs.Statements.{resolve_statement, resolve_statements, resolve_cases}
use Rattle.checker_statements.specs.Walk.{own_range_breaches, resolved_range, IsWhole, IsAction, AreRanges}
use Rattle.checker_statements.specs.StatementWalk.{AreActions, own_statement_breaches, resolved_statement, IsCase}
use Rattle.checker_statements.specs.StatementWalk.{AreCases, IsOther, own_case_breaches, resolved_case, other_breaches}
use Rattle.checker_statements.specs.StatementWalk.{resolved_other}
use Rattle.checker_statements.proofs.Shapes.{is_empty_statement}
use Rattle.checker_statements.proofs.MadeStatements.{made_empty}

-- an action that was put in a box, where memory was not refused
pub kept_action : {E : Type 0} {bs : List Breach} {m n : Tally} {y : Action}
    (r : Result (Box code_action.Action) E) (x : code_action.Action) → IfOk r (λ b. b.value ≡ x)
    → IsWalked bs m n (action_of x) y → IfOk r (λ b. IsWalked bs m n (action_of b.value) y)
kept_action (Ok b) x h w = record { value = ap action_of h ∙ w.value; breaches = w.breaches }
kept_action (Err e) x h w = tt

-- a statement that runs by a value, after its variable
pub guarded_walked : {E : Type 0} {bs : List Breach} {m n : Tally} {x y : Variable}
    (f : Variable → Value → Action → Action) (r : Result code_action.Action E) (cs : List Breach) (o : Tally)
    (v : Value) (a : Action) → IsWalked bs m n x y → IfOk r (λ b. IsWalked cs n o (action_of b) (f x v a))
    → IfOk r (λ b. IsWalked (bs ++ cs) m o (action_of b) (f y v a))
guarded_walked {bs = bs} {m = m} {n = n} f (Ok b) cs o v a w z = record {
  value = z.value ∙ ap (λ x. f x v a) w.value;
  breaches = noted_two m n o bs cs w.breaches z.breaches;
}
guarded_walked f (Err e) cs o v a w z = tt

module _ (seen : Seen) where
  -- an empty statement breaks no rule, and is an action that does nothing
  pub empty_walked : (around : Enclosure) (s : Statement) (m : Tally) → s ≡ said.Empty
      → IsAction seen around (statement_tree s) m m (action_of done.Empty)
  empty_walked around s m same = rw (is_empty_statement s same, made_empty) (leaf m values.empty)

  pub statements_break : (around : Enclosure) (ss : List Statement)
      → statements_breaches seen.look around (trees_of (map statement_tree ss))
      ≡ flat_map (own_statement_breaches seen around) ss
  statements_break around [] = refl
  statements_break around (s ∷ ss) = ap (λ b. own_statement_breaches seen around s ++ b) (statements_break around ss)

  pub statements_resolve : (ss : List Statement)
      → resolve_statements seen (trees_of (map statement_tree ss))
      ≡ actions_of (map (resolved_statement seen) ss)
  statements_resolve [] = refl
  statements_resolve (s ∷ ss) = ap (λ r. values.next (resolved_statement seen s) r) (statements_resolve ss)

  pub statements_walked : (around : Enclosure) (ss : List Statement) (found : List Action) {m n : Tally}
      → AreActions seen around ss m n found
      → IsWalked (statements_breaches seen.look around (trees_of (map statement_tree ss))) m n
      (actions_of found)
      (resolve_statements seen (trees_of (map statement_tree ss)))
  statements_walked around ss found {m = m} w = record {
    value = ap actions_of w.value ∙ sym (statements_resolve ss);
    breaches = w.breaches ∙ ap (λ b. noted m b) (sym (statements_break around ss));
  }

  -- Ranges and cases

  ranges_break : (gs : List Range) → flat_map (range_breaches seen.look) (map range_tree gs)
      ≡ flat_map (own_range_breaches seen) gs
  ranges_break [] = refl
  ranges_break (g ∷ gs) = ap (λ b. own_range_breaches seen g ++ b) (ranges_break gs)

  ranges_walked : (gs : List Range) (found : List RangeOf) {m n : Tally} → AreRanges seen gs m n found
      → IsWalked (flat_map (range_breaches seen.look) (map range_tree gs)) m n found
      (map (resolve_range seen) (map range_tree gs))
  ranges_walked gs found {m = m} w = record {
    value = w.value ∙ sym (mapped_twice range_tree (resolve_range seen) (resolved_range seen) (λ g. refl) gs);
    breaches = w.breaches ∙ ap (λ b. noted m b) (sym (ranges_break gs));
  }

  pub case_walked : (around : Enclosure) (given : Vec Range × Vec Statement) (spans : Vec Span)
      (body : Vec code_action.Action) (gs : List Range) (ss : List Statement) {m n o : Tally}
      → gs ≡ given.0.items → ss ≡ given.1.items → AreRanges seen gs m n (map range_of spans.items)
      → AreActions seen around ss n o (map action_of body.items)
      → IsCase seen around given m o (case_of (spans, body))
  unfolding case_tree case_of
  case_walked around given spans body gs ss {m = m} {n = n} {o = o} g s w z =
      let ranges = subst (λ (xs : List Range). AreRanges seen xs m n (map range_of spans.items)) g w in
      let actions = subst (λ (xs : List Statement). AreActions seen around xs n o (map action_of body.items)) s z in
      two (λ (rs : List RangeOf) (xs : Actions). (rs, xs))
      (ranges_walked given.0.items (map range_of spans.items) ranges)
      (statements_walked around given.1.items (map action_of body.items) actions)

  pub other_walked : (around : Enclosure) (ss all : List Statement) (found : List Action) {m n : Tally}
      → ss ≡ all → AreActions seen around ss m n found
      → IsOther seen around (Some (map statement_tree all)) m n (Some found)
  other_walked around ss all found {m = m} same w = rw (sym same) (record {
    value = ap Some (w.value
        ∙ sym (mapped_twice statement_tree (resolve_statement seen) (resolved_statement seen) (λ s. refl) ss));
    breaches = w.breaches ∙ ap (λ b. noted m b) (sym (statements_break around ss));
  })

  cases_break : (around : Enclosure) (cs : List (Vec Range × Vec Statement)) (other : Option (List StatementTree))
      → cases_breaches seen.look around (cases_of (map case_tree cs) other)
      ≡ flat_map (own_case_breaches seen around) cs ++ other_breaches seen around other
  cases_break around [] None = refl
  cases_break around [] (Some xs) = refl
  cases_break around (c ∷ cs) other =
      let ranges = flat_map (range_breaches seen.look) (case_tree c).0 in
      let body = statements_breaches seen.look around (case_tree c).1 in
      let rest = flat_map (own_case_breaches seen around) cs in
      let last = other_breaches seen around other in
      ap (λ b. ranges ++ (body ++ b)) (cases_break around cs other) ∙ sym (append_assoc ranges body (rest ++ last))
      ∙ sym (append_assoc (ranges ++ body) rest last)

  trees_resolve : (xs : List StatementTree)
      → resolve_statements seen (trees_of xs) ≡ actions_of (map (resolve_statement seen) xs)
  trees_resolve [] = refl
  trees_resolve (x ∷ xs) = ap (λ r. values.next (resolve_statement seen x) r) (trees_resolve xs)

  cases_resolve : (cs : List (Vec Range × Vec Statement)) (other : Option (List StatementTree))
      → resolve_cases seen (cases_of (map case_tree cs) other)
      ≡ views.cases_of (map (resolved_case seen) cs) (resolved_other seen other)
  cases_resolve [] None = refl
  cases_resolve [] (Some xs) = ap values.default_case (trees_resolve xs)
  cases_resolve (c ∷ cs) other = ap
      (λ r. values.case (map (resolve_range seen) (case_tree c).0) (resolve_statements seen (case_tree c).1) r)
      (cases_resolve cs other)

  cases_walked : (around : Enclosure) (cs : List (Vec Range × Vec Statement)) (other : Option (List StatementTree))
      (found : List (List RangeOf × Actions)) (last : Option (List Action)) {m n o : Tally}
      → AreCases seen around cs m n found → IsOther seen around other n o last
      → IsWalked (cases_breaches seen.look around (cases_of (map case_tree cs) other)) m o
      (views.cases_of found last) (resolve_cases seen (cases_of (map case_tree cs) other))
  cases_walked around cs other found last {m = m} w z =
      let both = two views.cases_of w z in
      record {
        value = both.value ∙ sym (cases_resolve cs other);
        breaches = both.breaches ∙ ap (λ b. noted m b) (sym (cases_break around cs other));
      }

  pub switch_walked : (around inside : Enclosure) (p : Position) (e : ExpressionTree) (v : Value)
      (cs : List (Vec Range × Vec Statement)) (other : Option (List StatementTree))
      (found : List (List RangeOf × Actions)) (last : Option (List Action)) {m n o q : Tally}
      → inside ≡ in_switch around → IsWhole seen p e m n v → AreCases seen inside cs n o found
      → IsOther seen inside other o q last
      → IsAction seen around (written.switch_on p e (cases_of (map case_tree cs) other)) m q
      (values.switch_on v (views.cases_of found last))
  switch_walked around inside p e v cs other found last {n = n} {q = q} is w x y =
      let tree = cases_of (map case_tree cs) other in
      two values.switch_on w
      (subst (λ (a : Enclosure). IsWalked (cases_breaches seen.look a tree) n q (views.cases_of found last)
      (resolve_cases seen tree)) is (cases_walked inside cs other found last x y))
