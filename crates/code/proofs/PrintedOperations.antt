-- The items of an operation, and of an entry of an array, print no texts.
use Rattle.std.proofs.Common.{ℕ, ◌+◌, List, [], ◌∷◌, ◌++◌, Bool, true, false}
use Rattle.std.specs.Prelude.{not, if◌then◌else◌}
use Rattle.syntax_trees.specs.declared.tree.Binary.{Binary}
use Rattle.syntax_trees.specs.declared.tree.Binary.TheVariants as binaries
use Rattle.syntax_trees.specs.declared.tree.Equality.{Equality}
use Rattle.syntax_trees.specs.declared.tree.Prefix.{Prefix}
use Rattle.syntax_trees.specs.declared.tree.Prefix.TheVariants as prefixes
use Rattle.syntax_trees.specs.declared.tree.Width.{Width}
use Rattle.meaning.specs.Resolved.{Value, Values}
use Rattle.meaning.specs.Resolved as source
use Rattle.code_drafts.specs.Items.{Item, Operand, pushed, number, variable, Destination, push, into, aside, nowhere}
use Rattle.code_drafts.specs.Items.{right_place, operation_item, operand_of, operands_of, alone, left_of, if_pushed}
use Rattle.code_drafts.specs.Items.{is_direct, same_count, same_items, value_count, is_any_pushed}
use Rattle.code_drafts.specs.Items.{entry_item, index_place, assign_entry_item}
use Rattle.code_drafts.specs.Items.{operand_count, operands_count, branch_count, many_count, value_items}
use Rattle.code_drafts.specs.Items.{operands_items, arguments_items, branch_items, many_items, also_items}
use Rattle.code_drafts.specs.Items as items
use Rattle.code.proofs.PrintedLists.{HasPrintableText, Fine, nothing, first, joined, last, pushed_fine, either_fine, truth_fine, two_fine}

-- Expressions

pub record ValueFine (v : Value) : Type 0 where
  pub value : (at : ℕ) (d : Destination) → Fine (value_items at v d)
  pub branch : (at : ℕ) (when : Bool) (t : ℕ) → Fine (branch_items at v when t)

pub record ValuesFine (vs : Values) : Type 0 where
  pub all : (at : ℕ) → Fine (operands_items at vs)
  pub arguments : (several : Bool) (at : ℕ) → Fine (arguments_items several at vs)
  pub also : (at : ℕ) (op : Equality) (when : Bool) (t : ℕ) → Fine (also_items at op vs when t)
  pub many : (at : ℕ) (op : Equality) (when : Bool) (t : ℕ) → Fine (many_items at op vs when t)

pub prefixed_fine : (op : Prefix) (v : Value) → ValueFine v → ValueFine (source.prefixed op v)
prefixed_fine prefixes.Not v f = record {
  value = λ at d. truth_fine at (branch_count v false) d (λ t. branch_items at v false t) (λ t. f.branch at false t);
  branch = λ at when t. f.branch at (not when) t;
}
prefixed_fine op v f = record {
  value = λ at d. last (if_pushed (alone v) (value_items at v push) []) _ (pushed_fine (alone v) _ (f.value at push))
      tt;
  branch = λ at when t. joined (if_pushed (alone v) (value_items at v push) []) _
      (pushed_fine (alone v) _ (f.value at push)) (first _ _ tt (first _ _ tt nothing));
}

-- an operation prints no text
no_text : (place : Destination) (op : Binary) (o q : Operand) (d : Destination)
    → HasPrintableText (operation_item place op o q d)
no_text aside op o pushed d = tt
no_text aside op o (number n) d = tt
no_text aside op o (variable x) d = tt
no_text push op o q d = tt
no_text (into x) op o q d = tt
no_text nowhere op o q d = tt

pub binary_fine : (op : Binary) (a b : Value) → ValueFine a → ValueFine b → ValueFine (source.binary op a b)
binary_fine binaries.AndAlso a b f g = record {
  value = λ at d. truth_fine at (branch_count a false + branch_count b true) d
      (λ t. branch_items at (source.binary binaries.AndAlso a b) true t)
      (λ t. joined (branch_items at a false _) _ (f.branch at false _) (g.branch (at + branch_count a false) true t));
  branch = λ at when t. joined (branch_items at a false _) _ (f.branch at false _)
      (g.branch (at + branch_count a false) when t);
}
binary_fine binaries.OrElse a b f g = record {
  value = λ at d. truth_fine at (branch_count a true + branch_count b true) d
      (λ t. branch_items at (source.binary binaries.OrElse a b) true t)
      (λ t. joined (branch_items at a true _) _ (f.branch at true _) (g.branch (at + branch_count a true) true t));
  branch = λ at when t. joined (branch_items at a true _) _ (f.branch at true _)
      (g.branch (at + branch_count a true) when t);
}
binary_fine op a b f g =
    let o = left_of a b in
    let place = right_place op o in
    record {
      value = λ at d. two_fine o (alone b) _ _ _ (f.value at push) (g.value (at + operand_count a o) place)
          (first _ _ (no_text place op o (alone b) d) nothing);
      branch = λ at when t. two_fine o (alone b) _ _ _ (f.value at push) (g.value (at + operand_count a o) place)
          (first _ _ (no_text place op o (alone b) push) (first _ _ tt nothing));
    }

pub compare_fine : (op : _) (a b : Value) → ValueFine a → ValueFine b → ValueFine (source.compare op a b)
compare_fine op a b f g =
    let branches : (at : ℕ) (when : Bool) (t : ℕ) → Fine (branch_items at (source.compare op a b) when t) =
    λ at when t. two_fine (left_of a b) (alone b) _ _ _ (f.value at push)
    (g.value (at + operand_count a (left_of a b)) push) (first _ _ tt nothing) in
    record {
      value = λ at d. truth_fine at (operand_count a (left_of a b) + operand_count b (alone b) + 1) d
          (λ t. branch_items at (source.compare op a b) true t) (λ t. branches at true t);
      branch = branches;
    }

same_fine : (o : Operand) (os : List Operand) (at : ℕ) (when : Bool) (t : ℕ) → Fine (same_items o os at when t)
same_fine o [] at when t = first _ _ tt nothing
same_fine o (x ∷ []) at when t = first _ _ tt nothing
same_fine o (x ∷ y ∷ []) at when t = first _ _ tt nothing
same_fine o (x ∷ y ∷ z ∷ []) at when t = first _ _ tt nothing
same_fine o (x ∷ y ∷ z ∷ u ∷ os) at when t = first _ _ tt (same_fine o (u ∷ os) (at + 1) when t)

pub equal_fine : (op : Equality) (a : Value) (bs : Values) → ValueFine a → ValuesFine bs
    → ValueFine (source.equal op a bs)
equal_fine op a bs f g = record {
  value = λ at d. either_fine (is_direct a bs) _ _
      (truth_fine at (operand_count a (operand_of a bs) + operands_count bs + same_count (operands_of bs)) d
      (direct_items at true) (direct at true))
      (truth_fine at (value_count a push + many_count bs) d (several_items at true) (several at true));
  branch = λ at when t. either_fine (is_direct a bs) _ _ (direct at when t) (several at when t);
}
  where
    direct_items : ℕ → Bool → ℕ → List Item
    direct_items at when t = if_pushed (operand_of a bs) (value_items at a push) []
        ++ (operands_items (at + operand_count a (operand_of a bs)) bs
        ++ same_items (operand_of a bs) (operands_of bs)
        (at + operand_count a (operand_of a bs) + operands_count bs) (items.equality_when op when) t)

    several_items : ℕ → Bool → ℕ → List Item
    several_items at when t = value_items at a push ++ many_items (at + value_count a push) op bs when t

    direct : (at : ℕ) (when : Bool) (t : ℕ) → Fine (direct_items at when t)
    direct at when t =
        joined (if_pushed (operand_of a bs) (value_items at a push) []) _
        (pushed_fine (operand_of a bs) _ (f.value at push))
        (joined (operands_items (at + operand_count a (operand_of a bs)) bs) _
        (g.all (at + operand_count a (operand_of a bs)))
        (same_fine (operand_of a bs) (operands_of bs) (at + operand_count a (operand_of a bs) + operands_count bs)
        (items.equality_when op when) t))

    several : (at : ℕ) (when : Bool) (t : ℕ) → Fine (several_items at when t)
    several at when t = joined (value_items at a push) _ (f.value at push)
        (g.many (at + value_count a push) op when t)

loaded_text : (width : Width) (n : ℕ) (o : Operand) (d : Destination) → HasPrintableText (entry_item width n o d)
loaded_text width n pushed d = tt
loaded_text width n (number k) d = tt
loaded_text width n (variable x) d = tt

stored_text : (width : Width) (n : ℕ) (o q : Operand) (d : Destination) → HasPrintableText (assign_entry_item width n o q d)
stored_text width n o q d = go (is_any_pushed (o ∷ q ∷ []))
  where
    go : (b : Bool)
        → HasPrintableText (if b then items.assign_entry_aside width n o q d else items.assign_entry width n o q d)
    go true = tt
    go false = tt

pub entry_fine : (width : Width) (n : ℕ) (i : Value) → ValueFine i → ValueFine (source.entry width n i)
entry_fine width n i f = record {
  value = λ at d. last (if_pushed (alone i) (value_items at i aside) []) _
      (pushed_fine (alone i) _ (f.value at aside)) (loaded_text width n (alone i) d);
  branch = λ at when t. joined (if_pushed (alone i) (value_items at i aside) []) _
      (pushed_fine (alone i) _ (f.value at aside))
      (first _ _ (loaded_text width n (alone i) push) (first _ _ tt nothing));
}

pub assign_entry_fine : (width : Width) (n : ℕ) (i v : Value) → ValueFine i → ValueFine v
    → ValueFine (source.assign_entry width n i v)
assign_entry_fine width n i v f g =
    let o = left_of i v in
    let place = index_place (alone v) in
    record {
      value = λ at d. two_fine o (alone v) _ _ _ (f.value at place)
          (g.value (at + if_pushed o (value_count i place) 0) aside)
          (first _ _ (stored_text width n o (alone v) d) nothing);
      branch = λ at when t. two_fine o (alone v) _ _ _ (f.value at place)
          (g.value (at + if_pushed o (value_count i place) 0) aside)
          (first _ _ (stored_text width n o (alone v) push) (first _ _ tt nothing));
    }
