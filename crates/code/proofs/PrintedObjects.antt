-- The items of what an expression asks of objects print no texts.
use Rattle.std.proofs.Common.{ℕ, ◌+◌, [], ◌∷◌, ◌++◌, Bool, true}
use Rattle.syntax_trees.specs.declared.tree.Containment.{Containment}
use Rattle.syntax_trees.specs.declared.tree.Relative.{Relative}
use Rattle.meaning.specs.Resolved.{Value}
use Rattle.meaning.specs.Resolved as source
use Rattle.code_drafts.specs.Items.{Item, Operand, pushed, Destination, push, first_of, alone, left_of, if_pushed}
use Rattle.code_drafts.specs.Items.{agrees, operand_count, truth_items, value_items, branch_items}
use Rattle.code_drafts.specs.Items as items
use Rattle.code.proofs.PrintedLists.{HasPrintableText, Fine, nothing, first, joined, last, pushed_fine, truth_fine}
use Rattle.code.proofs.PrintedLists.{two_fine}
use Rattle.code.proofs.PrintedOperations.{ValueFine}

-- one operand, an item that gives a word of it, and a branch by that word
one_fine : (v : Value) (item : Operand → Destination → Item)
    → ((o : Operand) (d : Destination) → HasPrintableText (item o d))
    → ValueFine v
    → ((at : ℕ) (d : Destination) → Fine (if_pushed (alone v) (value_items at v push) [] ++ item (alone v) d ∷ []))
    × ((at : ℕ) (when : Bool) (t : ℕ)
    → Fine (if_pushed (alone v) (value_items at v push) []
    ++ item (alone v) push ∷ items.branch_true pushed when t ∷ []))
one_fine v item text f = (
  λ at d. last (if_pushed (alone v) (value_items at v push) []) _ (pushed_fine (alone v) _ (f.value at push))
      (text (alone v) d),
  λ at when t. joined (if_pushed (alone v) (value_items at v push) []) _
      (pushed_fine (alone v) _ (f.value at push)) (first _ _ (text (alone v) push) (first _ _ tt nothing)),
)

-- one operand, and an item that branches by it
tested_fine : (v : Value) (item : Bool → ℕ → Item) → ((when : Bool) (t : ℕ) → HasPrintableText (item when t))
    → ValueFine v
    → ((at : ℕ) (d : Destination) → Fine (truth_items at (operand_count v (alone v) + 1) d
    (λ t. if_pushed (alone v) (value_items at v push) [] ++ item true t ∷ [])))
    × ((at : ℕ) (when : Bool) (t : ℕ) → Fine (if_pushed (alone v) (value_items at v push) [] ++ item when t ∷ []))
tested_fine v item text f =
    let branches : (at : ℕ) (when : Bool) (t : ℕ)
    → Fine (if_pushed (alone v) (value_items at v push) [] ++ item when t ∷ []) =
    λ at when t. last (if_pushed (alone v) (value_items at v push) []) _ (pushed_fine (alone v) _ (f.value at push))
    (text when t) in (
      λ at d. truth_fine at (operand_count v (alone v) + 1) d
          (λ t. if_pushed (alone v) (value_items at v push) [] ++ item true t ∷ []) (λ t. branches at true t),
      branches,
    )

pub relative_fine : (r : Relative) (v : Value) → ValueFine v → ValueFine (source.relative r v)
relative_fine r v f =
    let both = one_fine v (λ o d. items.relative r o d) (λ o d. tt) f in
    record { value = both.0; branch = both.1 }

pub property_fine : (v : Value) (q : ℕ) → ValueFine v → ValueFine (source.property v q)
property_fine v q f =
    let both = one_fine v (λ o d. items.property o q d) (λ o d. tt) f in
    record { value = both.0; branch = both.1 }

pub property_size_fine : (v : Value) (q : ℕ) → ValueFine v → ValueFine (source.property_size v q)
property_size_fine v q f =
    let both = one_fine v (λ o d. items.property_size o q d) (λ o d. tt) f in
    record { value = both.0; branch = both.1 }

pub has_fine : (positive : Bool) (v : Value) (n : ℕ) → ValueFine v → ValueFine (source.has positive v n)
has_fine positive v n f =
    let both = tested_fine v (λ when t. items.has (alone v) n (agrees positive when) t) (λ when t. tt) f in
    record { value = both.0; branch = both.1 }

pub provides_fine : (v : Value) (q : ℕ) → ValueFine v → ValueFine (source.provides v q)
provides_fine v q f =
    let both = tested_fine v (λ when t. items.provides (alone v) q when t) (λ when t. tt) f in
    record { value = both.0; branch = both.1 }

pub contained_fine : (op : Containment) (a b : Value) → ValueFine a → ValueFine b → ValueFine (source.contained op a b)
contained_fine op a b f g =
    let branches : (at : ℕ) (when : Bool) (t : ℕ) → Fine (branch_items at (source.contained op a b) when t) =
    λ at when t. two_fine (left_of a b) (alone b) _ _ _ (f.value at push)
    (g.value (at + operand_count a (left_of a b)) push) (first _ _ tt nothing) in
    record {
      value = λ at d. truth_fine at (operand_count a (left_of a b) + operand_count b (alone b) + 1) d
          (λ t. branch_items at (source.contained op a b) true t) (λ t. branches at true t);
      branch = branches;
    }

pub property_word_fine : (v : Value) (q : ℕ) (i : Value) → ValueFine v → ValueFine i
    → ValueFine (source.property_word v q i)
property_word_fine v q i f g = record {
  value = λ at d. two_fine (left_of v i) (alone i) _ _ _ (f.value at push)
      (g.value (at + operand_count v (left_of v i)) push) (first _ _ tt nothing);
  branch = λ at when t. two_fine (left_of v i) (alone i) _ _ _ (f.value at push)
      (g.value (at + operand_count v (left_of v i)) push) (first _ _ tt (first _ _ tt nothing));
}

pub assign_property_fine : (v : Value) (q : ℕ) (w : Value) → ValueFine v → ValueFine w
    → ValueFine (source.assign_property v q w)
assign_property_fine v q w f g = record {
  value = λ at d. two_fine (left_of v w) (alone w) _ _ _ (f.value at push)
      (g.value (at + operand_count v (left_of v w)) push) (first _ _ tt nothing);
  branch = λ at when t. two_fine (left_of v w) (alone w) _ _ _ (f.value at push)
      (g.value (at + operand_count v (left_of v w)) push) (first _ _ tt (first _ _ tt nothing));
}

pub assign_property_word_fine : (v : Value) (q : ℕ) (i w : Value) → ValueFine v → ValueFine i → ValueFine w
    → ValueFine (source.assign_property_word v q i w)
assign_property_word_fine v q i w f g h = record {
  value = λ at d. joined (if_pushed (first_of v i w) (value_items at v push) []) _
      (pushed_fine (first_of v i w) _ (f.value at push))
      (two_fine (left_of i w) (alone w) _ _ _ (g.value (at + operand_count v (first_of v i w)) push)
      (h.value (at + operand_count v (first_of v i w) + operand_count i (left_of i w)) push) (first _ _ tt nothing));
  branch = λ at when t. joined (if_pushed (first_of v i w) (value_items at v push) []) _
      (pushed_fine (first_of v i w) _ (f.value at push))
      (two_fine (left_of i w) (alone w) _ _ _ (g.value (at + operand_count v (first_of v i w)) push)
      (h.value (at + operand_count v (first_of v i w) + operand_count i (left_of i w)) push)
      (first _ _ tt (first _ _ tt nothing)));
}
