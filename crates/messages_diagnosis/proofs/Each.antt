-- What lists of parts need, part by part.
use Rattle.std.proofs.Common.{◌≡◌, ℕ, zero, suc, ◌+◌, ◌<◌, ◌≤◌, List, [], ◌∷◌, ◌++◌, append_assoc, length, drop}
use Rattle.std.proofs.Common.{slice_index_or, Option, Some, None, refl, sym, ap, ◌∙◌, arith}
use Rattle.std.specs.Prelude.{map}
use Rattle.std.specs.Global.{Vec}
use Rattle.std.specs.List.{flat_map}
use Rattle.syntax_lexer.specs.declared.token.Position.{Position}
use Rattle.syntax_statements.specs.declared.part_tree.PrintItem.{PrintItem}
use Rattle.syntax_statements.specs.declared.part_tree.Range.{Range}
use Rattle.syntax_statements.specs.PartTree.{LoopTree, over_all, over_in, over_where}
use Rattle.syntax_statements.specs.PartViews.{item_tree}
use Rattle.syntax_statements.specs.declared.tree.Statement.{Statement}
use Rattle.syntax_statements.specs.Tree as written
use Rattle.syntax_statements.specs.Tree.{StatementTree}
use Rattle.syntax_statements.specs.Views.{statement_tree, case_tree, trees_of, cases_of}
use Rattle.syntax_directives.specs.declared.tree.Directive.{Directive}
use Rattle.syntax_directives.specs.Views.{directive_tree}
use Rattle.messages_diagnosis.specs.declared.sought.Sought.{Sought}
use Rattle.messages_diagnosis.specs.Needs.{PlacedNeed, item_needs, statement_needs, statements_needs, cases_needs}
use Rattle.messages_diagnosis.specs.Needs.{directive_needs}
use Rattle.messages_diagnosis.specs.Walk.{raised_all, own_item_needs, own_needs, own_case_needs, other_needs}
use Rattle.messages_diagnosis.specs.Walk.{own_directive_needs, loop_needs}
use Rattle.messages_diagnosis.proofs.Raising.{raised_none, raised_append}

module _ {A : Type 0} (f : A → List PlacedNeed) where
  from_here : (xs : List A) (i : ℕ) (x : A) → i < length xs
      → flat_map f (drop i xs) ≡ f (slice_index_or xs i x) ++ flat_map f (drop (suc i) xs)
  from_here [] i x h = absurd (omega arith)
  from_here (y ∷ xs) zero x h = refl
  from_here (y ∷ xs) (suc i) x h = from_here xs i x (omega arith)

  -- what is still to be taken, before one of the list and after it
  pub each_next : (s t : Sought) (xs : List A) (i : ℕ) (x : A) → i < length xs
      → x ≡ slice_index_or xs i x → t ≡ raised_all s (f x)
      → raised_all t (flat_map f (drop (i + 1) xs)) ≡ raised_all s (flat_map f (drop i xs))
  each_next s t xs i x lt is here =
      let j : i + 1 ≡ suc i = omega arith in
      let e : flat_map f (drop i xs) ≡ f x ++ flat_map f (drop (suc i) xs) = from_here xs i x lt
      ∙ ap (λ (y : A). f y ++ flat_map f (drop (suc i) xs)) (sym is) in
      rw (j, e, here) (sym (raised_append s (f x) (flat_map f (drop (suc i) xs))))

  -- nothing is left at the end
  pub each_end : (s : Sought) (xs : List A) (i : ℕ) → length xs ≤ i
      → raised_all s (flat_map f (drop i xs)) ≡ s
  each_end s [] zero h = raised_none s
  each_end s [] (suc i) h = raised_none s
  each_end s (x ∷ xs) zero h = absurd (omega arith)
  each_end s (x ∷ xs) (suc i) h = each_end s xs i (omega arith)

-- Lists of the code and of its trees

pub items_need : (is : List PrintItem) → flat_map item_needs (map item_tree is) ≡ flat_map own_item_needs is
items_need [] = refl
items_need (i ∷ is) = ap (λ r. own_item_needs i ++ r) (items_need is)

pub statements_need : (ss : List Statement)
    → statements_needs (trees_of (map statement_tree ss)) ≡ flat_map own_needs ss
statements_need [] = refl
statements_need (s ∷ ss) = ap (λ r. own_needs s ++ r) (statements_need ss)

pub case_need : (c : Vec Range × Vec Statement) (ss : List Statement) → ss ≡ c.1.items
    → flat_map own_needs ss ≡ own_case_needs c
unfolding case_tree
case_need c ss is = ap (flat_map own_needs) is ∙ sym (statements_need c.1.items)

pub cases_need : (cs : List (Vec Range × Vec Statement)) (other : Option (List StatementTree))
    → cases_needs (cases_of (map case_tree cs) other) ≡ flat_map own_case_needs cs ++ other_needs other
cases_need [] None = refl
cases_need [] (Some xs) = refl
cases_need (c ∷ cs) other = ap (λ r. own_case_needs c ++ r) (cases_need cs other)
    ∙ sym (append_assoc (own_case_needs c) (flat_map own_case_needs cs) (other_needs other))

-- an `objectloop`
pub loop_need : (p : Position) (l : LoopTree) (x : StatementTree)
    → statement_needs (written.loop_over p l x) ≡ loop_needs p l ++ statement_needs x
loop_need p (over_all n) x = refl
loop_need p (over_in n e) x = refl
loop_need p (over_where n e) x = refl

pub directives_need : (ds : List Directive)
    → flat_map directive_needs (map directive_tree ds) ≡ flat_map own_directive_needs ds
directives_need [] = refl
directives_need (d ∷ ds) = ap (λ r. own_directive_needs d ++ r) (directives_need ds)
