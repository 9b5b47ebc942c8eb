-- Lists of expressions, chains, calls and assignments: what they break and what they resolve to, part by part.
use Rattle.std.proofs.Common.{◌≡◌, ℕ, List, [], ◌∷◌, ◌++◌, length, Bool, true, false, cond, Option, Some, None, refl}
use Rattle.std.proofs.Common.{sym, ap, ◌∙◌, arith}
use Rattle.std.specs.Prelude.{map}
use Rattle.std.specs.List.{flat_map}
use Rattle.syntax_lexer.specs.declared.token.Position.{Position}
use Rattle.syntax_trees.specs.declared.tree.Binary.{Binary}
use Rattle.syntax_trees.specs.declared.tree.Expression.{Expression}
use Rattle.syntax_trees.specs.declared.tree.Width.{Width}
use Rattle.syntax_trees.specs.Tree as trees
use Rattle.syntax_trees.specs.declared.tree.Name.{Name}
use Rattle.syntax_trees.specs.Tree.{NameTree, ExpressionTree}
use Rattle.syntax_trees.specs.Views.{name_tree, expression_tree, trees_of, chained, link, propertied}
use Rattle.meaning.specs.Resolved as values
use Rattle.meaning.specs.Resolved.{Value}
use Rattle.meaning.specs.Views.{values_of}
use Rattle.meaning.specs.Views as views
use Rattle.meaning.specs.declared.resolved.Variable.TheVariants as variables
use Rattle.checker_values.specs.declared.binding.Binding.{Binding}
use Rattle.checker_values.specs.declared.breach.Breach.{Breach}
use Rattle.checker_values.specs.declared.noting.Tally.{Tally}
use Rattle.checker_values.specs.Noted.{noted}
use Rattle.checker_values.specs.Names.{name_of, is_place, Seen}
use Rattle.checker_values.specs.Breaches.{at}
use Rattle.checker_values.proofs.Noted.{noted_none, noted_append, noted_two}
use Rattle.checker_values.specs.Expressions.{breaches, all_breaches, resolve, resolve_all, count, call_breaches}
use Rattle.checker_values.specs.Expressions.{routine_of_binding, value_of_binding, array_name_breaches}
use Rattle.checker_values.specs.Expressions.{array_of_binding, target_breaches, assigned_breaches, assigned}
use Rattle.checker_values.specs.Walk.{own_breaches, resolved, link_breaches, resolved_link, IsWalked, IsResolved}
use Rattle.checker_values.specs.Walk.{AreResolved, IsAssigned, AreLinks, own_property_breaches, resolved_property}
use Rattle.checker_values.specs.Walk.{AreProperties}
use Rattle.checker_values.proofs.Walks.{two}

pub count_all : (es : List Expression) → count (trees_of (map expression_tree es)) ≡ length es
count_all [] = refl
count_all (e ∷ es) = let h = count_all es in omega arith

-- what a chain is has no name
pub chain_name : (op : Binary) (a b : ExpressionTree) (ls : List (Binary × ExpressionTree))
    → name_of (chained (trees.binary op a b) ls) ≡ None
chain_name op a b [] = refl
chain_name op a b (l ∷ ls) = chain_name l.0 (trees.binary op a b) l.1 ls

-- nor is there an assignment to it
pub chain_assigned : (op : Binary) (a b : Value) (ls : List (Binary × Value)) (v : Value)
    → assigned (views.chained (values.binary op a b) ls) v ≡ values.assign (variables.Local 0) v
chain_assigned op a b [] v = refl
chain_assigned op a b (l ∷ ls) v = chain_assigned l.0 (values.binary op a b) l.1 ls v

-- an assignment to properties, one after another, is one to the last of them
pub last_assigned : (v : Value) (n : ℕ) (ns : List ℕ) (p : ℕ) (w : Value)
    → assigned (views.propertied (values.property v n) (ns ++ p ∷ [])) w
    ≡ values.assign_property (views.propertied (values.property v n) ns) p w
last_assigned v n [] p w = refl
last_assigned v n (m ∷ ns) p w = last_assigned (values.property v n) m ns p w

-- a chain is no place
pub chain_place : (op : Binary) (a b : ExpressionTree) (ls : List (Binary × ExpressionTree))
    → is_place (chained (trees.binary op a b) ls) ≡ false
chain_place op a b [] = refl
chain_place op a b (l ∷ ls) = chain_place l.0 (trees.binary op a b) l.1 ls

-- properties, one after another, have no name and are a place

pub properties_name : (e : ExpressionTree) (n : NameTree) (ns : List Name)
    → name_of (propertied (trees.property e n) ns) ≡ None
properties_name e n [] = refl
properties_name e n (m ∷ ns) = properties_name (trees.property e n) (name_tree m) ns

pub properties_place : (e : ExpressionTree) (n : NameTree) (ns : List Name)
    → is_place (propertied (trees.property e n) ns) ≡ true
properties_place e n [] = refl
properties_place e n (m ∷ ns) = properties_place (trees.property e n) (name_tree m) ns

module _ (seen : Seen) where
  -- what a name resolves to, in parentheses or not
  pub named_resolves : (e : ExpressionTree) (n : NameTree) → name_of e ≡ Some n
      → resolve seen e ≡ value_of_binding seen.number (seen.look n.text)
  named_resolves (trees.constant m) n h = absurd cc
  named_resolves (trees.word s) n h = absurd cc
  named_resolves (trees.named m) n h =
      let same : m ≡ n = cc in ap (λ (x : NameTree). value_of_binding seen.number (seen.look x.text)) same
  named_resolves (trees.call m es) n h = absurd cc
  named_resolves (trees.index m w e) n h = absurd cc
  named_resolves (trees.parenthesised e) n h = named_resolves e n h
  named_resolves (trees.relative_of r e) n h = absurd cc
  named_resolves (trees.property e m) n h = absurd cc
  named_resolves (trees.property_length e m) n h = absurd cc
  named_resolves (trees.property_entry e m i) n h = absurd cc
  named_resolves (trees.prefixed op e) n h = absurd cc
  named_resolves (trees.step_before op p e) n h = absurd cc
  named_resolves (trees.step_after e op p) n h = absurd cc
  named_resolves (trees.binary op a b) n h = absurd cc
  named_resolves (trees.compare op a b) n h = absurd cc
  named_resolves (trees.equal op a bs) n h = absurd cc
  named_resolves (trees.contained op a b) n h = absurd cc
  named_resolves (trees.tested test e m) n h = absurd cc
  named_resolves (trees.assign a p b) n h = absurd cc

  pub all_break : (es : List Expression) → all_breaches seen.look (trees_of (map expression_tree es))
      ≡ flat_map (own_breaches seen) es
  all_break [] = refl
  all_break (e ∷ es) = ap (λ b. own_breaches seen e ++ b) (all_break es)

  pub all_resolve : (es : List Expression) → resolve_all seen (trees_of (map expression_tree es))
      ≡ values_of (map (resolved seen) es)
  all_resolve [] = refl
  all_resolve (e ∷ es) = ap (λ r. values.more (resolved seen e) r) (all_resolve es)

  pub chain_break : (m : Tally) (e : ExpressionTree) (ls : List (Binary × Expression))
      → noted m (breaches seen.look (chained e (map link ls)))
      ≡ noted (noted m (breaches seen.look e)) (flat_map (link_breaches seen) ls)
  chain_break m e [] = sym (noted_none (noted m (breaches seen.look e)))
  chain_break m e (l ∷ ls) =
      chain_break m (trees.binary l.0 e (expression_tree l.1)) ls
      ∙ ap (λ q. noted q (flat_map (link_breaches seen) ls))
      (noted_append m (breaches seen.look e) (link_breaches seen l))
      ∙ sym (noted_append (noted m (breaches seen.look e)) (link_breaches seen l) (flat_map (link_breaches seen) ls))

  pub chain_resolve : (e : ExpressionTree) (ls : List (Binary × Expression))
      → resolve seen (chained e (map link ls)) ≡ views.chained (resolve seen e) (map (resolved_link seen) ls)
  chain_resolve e [] = refl
  chain_resolve e (l ∷ ls) = chain_resolve (trees.binary l.0 e (expression_tree l.1)) ls

  properties_break : (m : Tally) (e : ExpressionTree) (ns : List Name)
      → noted m (breaches seen.look (propertied e ns))
      ≡ noted (noted m (breaches seen.look e)) (flat_map (own_property_breaches seen) ns)
  properties_break m e [] = sym (noted_none (noted m (breaches seen.look e)))
  properties_break m e (n ∷ ns) =
      properties_break m (trees.property e (name_tree n)) ns
      ∙ ap (λ q. noted q (flat_map (own_property_breaches seen) ns))
      (noted_append m (breaches seen.look e) (own_property_breaches seen n))
      ∙ sym
      (noted_append (noted m (breaches seen.look e)) (own_property_breaches seen n)
      (flat_map (own_property_breaches seen) ns))

  properties_resolve : (e : ExpressionTree) (ns : List Name)
      → resolve seen (propertied e ns) ≡ views.propertied (resolve seen e) (map (resolved_property seen) ns)
  properties_resolve e [] = refl
  properties_resolve e (n ∷ ns) = properties_resolve (trees.property e (name_tree n)) ns

  -- Lists, walked

  pub all_walked : (es : List Expression) (vs : List Value) {m n : Tally} → AreResolved seen es m n vs
      → IsWalked (all_breaches seen.look (trees_of (map expression_tree es))) m n (values_of vs)
      (resolve_all seen (trees_of (map expression_tree es)))
  all_walked es vs {m = m} w = record {
    value = ap values_of w.value ∙ sym (all_resolve es);
    breaches = w.breaches ∙ ap (λ b. noted m b) (sym (all_break es));
  }

  pub chain_walked : (e : ExpressionTree) (ls : List (Binary × Expression)) (v : Value)
      (vs : List (Binary × Value)) {m n o : Tally}
      → IsResolved seen e m n v → AreLinks seen ls n o vs
      → IsResolved seen (chained e (map link ls)) m o (views.chained v vs)
  chain_walked e ls v vs {m = m} w z = record {
    value = ap (λ a. views.chained a vs) w.value ∙ ap (λ l. views.chained (resolve seen e) l) z.value
        ∙ sym (chain_resolve e ls);
    breaches = z.breaches ∙ ap (λ q. noted q (flat_map (link_breaches seen) ls)) w.breaches
        ∙ sym (chain_break m e ls);
  }

  pub properties_walked : (e : ExpressionTree) (ns : List Name) (v : Value) (numbers : List ℕ)
      {m n o : Tally} → IsResolved seen e m n v → AreProperties seen ns n o numbers
      → IsResolved seen (propertied e ns) m o (views.propertied v numbers)
  properties_walked e ns v numbers {m = m} w z = record {
    value = ap (λ a. views.propertied a numbers) w.value ∙ ap (λ l. views.propertied (resolve seen e) l) z.value
        ∙ sym (properties_resolve e ns);
    breaches = z.breaches ∙ ap (λ q. noted q (flat_map (own_property_breaches seen) ns)) w.breaches
        ∙ sym (properties_break m e ns);
  }

  pub call_walked : (name : NameTree) (number given : ℕ) (found : Option Binding) (es : List Expression)
      (vs : List Value) {m o p : Tally}
      → found ≡ seen.look name.text → given ≡ length es → number ≡ routine_of_binding found
      → o ≡ noted m (call_breaches name.position given found) → AreResolved seen es o p vs
      → IsResolved seen (trees.call name (trees_of (map expression_tree es))) m p (values.call number (values_of vs))
  call_walked name number given found es vs {m = m} {o = o} f g n b w =
      let own : IsWalked (call_breaches name.position (count (trees_of (map expression_tree es))) (seen.look name.text))
      m o number (routine_of_binding (seen.look name.text)) = record {
        value = n ∙ ap routine_of_binding f;
        breaches = b ∙ ap (λ x. noted m (call_breaches name.position given x)) f
            ∙ ap (λ x. noted m (call_breaches name.position x (seen.look name.text))) (g ∙ sym (count_all es));
      } in
      two values.call own (all_walked es vs w)

  pub index_walked : (name : NameTree) (w : Width) (number : ℕ) (found : Option Binding) (e : ExpressionTree)
      (v : Value) {m o p : Tally}
      → found ≡ seen.look name.text → number ≡ array_of_binding found
      → o ≡ noted m (array_name_breaches name.position found) → IsResolved seen e o p v
      → IsResolved seen (trees.index name w e) m p (values.entry w number v)
  index_walked name w number found e v {m = m} {o = o} f n b x =
      let own : IsWalked (array_name_breaches name.position (seen.look name.text)) m o number
      (array_of_binding (seen.look name.text)) = record {
        value = n ∙ ap array_of_binding f;
        breaches = b ∙ ap (λ y. noted m (array_name_breaches name.position y)) f;
      } in
      two (values.entry w) own x

  -- the left side of an assignment

  pub name_assigned : (operator : Position) (e : ExpressionTree) (name : NameTree) (found : Option Binding)
      (v : Value) {m o : Tally} → name_of e ≡ Some name → found ≡ seen.look name.text
      → v ≡ value_of_binding seen.number found
      → o ≡ noted m (target_breaches name.position operator found)
      → IsAssigned seen operator e m o v
  name_assigned operator e name found v {m = m} is f n b = record {
    value = n ∙ ap (value_of_binding seen.number) f ∙ sym (named_resolves e name is);
    breaches = b ∙ ap (λ y. noted m (target_breaches name.position operator y)) f
        ∙ ap (λ (y : Option NameTree). noted m
        (assigned_breaches seen.look operator y (is_place e) (breaches seen.look e)))
        (sym is);
  }

  no_name_breaks : (operator : Position) (c : Bool) (inside : List Breach) (m o q : Tally)
      → o ≡ noted m inside → q ≡ noted o (cond c [] (at operator 26))
      → q ≡ noted m (assigned_breaches seen.look operator None c inside)
  no_name_breaks operator true inside m o q a b = b ∙ noted_none o ∙ a
  no_name_breaks operator false inside m o q a b = noted_two m o q inside (at operator 26) a b

  pub part_assigned : (operator : Position) (e : ExpressionTree) (c : Bool) (v : Value) {m o q : Tally}
      → name_of e ≡ None → c ≡ is_place e → IsResolved seen e m o v → q ≡ noted o (cond c [] (at operator 26))
      → IsAssigned seen operator e m q v
  part_assigned operator e c v {m = m} {o = o} {q = q} none one w b = record {
    value = w.value;
    breaches = no_name_breaks operator c (breaches seen.look e) m o q w.breaches b
        ∙ ap (λ (y : Option NameTree). noted m (assigned_breaches seen.look operator y c (breaches seen.look e)))
        (sym none)
        ∙ ap (λ (y : Bool). noted m (assigned_breaches seen.look operator (name_of e) y (breaches seen.look e))) one;
  }
