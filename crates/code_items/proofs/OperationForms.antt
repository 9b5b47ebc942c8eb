-- What is written for operations, chains, comparisons and entries.
use Rattle.std.proofs.Common.{◌≡◌, ℕ, ◌+◌, ◌-◌, List, [], ◌∷◌, ◌++◌, Bool, true, false, refl, sym, ap, ◌∙◌}
use Rattle.std.proofs.Common.{append_assoc, subst}
use Rattle.std.specs.Prelude.{if◌then◌else◌}
use Rattle.syntax_trees.specs.declared.tree.Binary.{Binary}
use Rattle.syntax_trees.specs.declared.tree.Binary.TheVariants as binaries
use Rattle.syntax_trees.specs.declared.tree.Comparison.{Comparison}
use Rattle.syntax_trees.specs.declared.tree.Width.{Width}
use Rattle.meaning.specs.Resolved.{Value}
use Rattle.meaning.specs.Views.{chained}
use Rattle.meaning.specs.Resolved as source
use Rattle.code_drafts.specs.Items.{Item, Operand, pushed, number, Destination, push, Test, alone, left_of}
use Rattle.code_drafts.specs.Items.{if_pushed, branch_true, comparison_test, comparison_when, value_count, value_items}
use Rattle.code_drafts.specs.Items.{branch_items, right_place, operation_item, into, aside, nowhere, variable, is_any_pushed}
use Rattle.code_drafts.specs.Items.{entry_item, index_place, assign_entry_item}
use Rattle.code_drafts.specs.Items as items
use Rattle.code_drafts.specs.declared.item.Destination.TheVariants as destinations
use Rattle.code_drafts.specs.declared.wanted.Wanted.{Wanted}
use Rattle.code_drafts.specs.declared.wanted.Wanted.TheVariants.{Word}
use Rattle.code_drafts.specs.Writing.{numbered, wanted_items, is_logical, ReducesWord, ReducesTruth, WritesBefore}
use Rattle.code_drafts.proofs.WrittenItems.{both, as_items, after_one}
use Rattle.code_items.specs.ValueWriting.{pushes, operand_items, first_items, ReducesLink, ReducesLinks, ReducesComparison}
use Rattle.code_items.specs.ValueWriting.{ReducesAssignedEntry}
use Rattle.code_items.proofs.Values.{pushes_length, placed_length}

-- Other operations

abbrev operation : Binary → Operand → Value → Operand → Value → ℕ → Destination → List Item → List Item
operation op o v ob b at d more = if_pushed o (value_items at v push) []
    ++ (if_pushed ob (value_items (at + if_pushed o (value_count v push) 0) b (right_place op o)) []
    ++ operation_item (right_place op o) op o ob d ∷ more)

record IsPlain (op : Binary) (v b : Value) : Type 0 where
  value : (at : ℕ) (d : Destination) → value_items at (source.binary op v b) d
      ≡ operation op (left_of v b) v (alone b) b at d []
  branch : (at t : ℕ) (when : Bool) → branch_items at (source.binary op v b) when t
      ≡ operation op (left_of v b) v (alone b) b at push (branch_true pushed when t ∷ [])
  other : is_logical op ≡ false

plain : (op : Binary) (v b : Value) → is_logical op ≡ false → IsPlain op v b
plain binaries.AndAlso v b e = absurd (cc)
plain binaries.OrElse v b e = absurd (cc)
plain binaries.Add v b e = record { value = λ at d. refl; branch = λ at t when. refl; other = e }
plain binaries.Subtract v b e = record { value = λ at d. refl; branch = λ at t when. refl; other = e }
plain binaries.Multiply v b e = record { value = λ at d. refl; branch = λ at t when. refl; other = e }
plain binaries.Divide v b e = record { value = λ at d. refl; branch = λ at t when. refl; other = e }
plain binaries.Remainder v b e = record { value = λ at d. refl; branch = λ at t when. refl; other = e }
plain binaries.And v b e = record { value = λ at d. refl; branch = λ at t when. refl; other = e }
plain binaries.Or v b e = record { value = λ at d. refl; branch = λ at t when. refl; other = e }

pub not_logical : (op : Binary) → (op ≡ binaries.AndAlso → ⊥) → (op ≡ binaries.OrElse → ⊥) → is_logical op ≡ false
not_logical binaries.AndAlso a b = absurd (a refl)
not_logical binaries.OrElse a b = absurd (b refl)
not_logical op a b = refl

-- an operation has no target
number_kept : (place : Destination) (op : Binary) (o ob : Operand) (d : Destination) (n : ℕ)
    → numbered n (operation_item place op o ob d) ≡ operation_item place op o ob d
number_kept aside op o pushed d n = refl
number_kept aside op o (number k) d n = refl
number_kept aside op o (variable x) d n = refl
number_kept push op o ob d n = refl
number_kept (into x) op o ob d n = refl
number_kept nowhere op o ob d n = refl

pub operate_link : (c c1 c2 c3 : List Item) (wanted : Wanted) (d : Destination) (op : Binary) (o ob : Operand)
    (b : Value) → is_logical op ≡ false → ReducesWord c c1 wanted d → ob ≡ alone b
    → c2 ≡ c1 ++ operation_item (right_place op o) op o ob d ∷ [] → WritesBefore c2 c3 (operand_items (right_place op o) ob b)
    → ReducesLink c c3 wanted (Word destinations.Push) op o b
operate_link c c1 c2 c3 wanted d op o ob b other reduces eb e wb v eo =
    let is = plain op v b other in
    let k = if_pushed o (value_count v push) 0 in
    record {
      with_rest = λ c4 w.
          let first : WritesBefore c3 c4 (pushes o v) =
          as_items (λ n at _. ap
          (λ t. if t then value_items at v push else if_pushed o (value_items at v push) []) other) w in
          (reduces (source.binary op v b)
          (λ at t when. is.branch at t when
          ∙ regroup (left_of v b) (alone b) at (branch_true pushed when t ∷ []) push
          ∙ ap (λ l. l ++ branch_true pushed when t ∷ []) (sym (is.value at push)))).with_rest c4
          (as_items (λ n at _. ap (λ x. operation op x v ob b at d []) eo
          ∙ ap (λ y. operation op (left_of v b) v y b at d []) eb ∙ sym (is.value at d))
          (both k (λ n at. pushes_length o v n at)
          (as_items (λ n at _. ap (λ i. operand_items (right_place op o) ob b n at ++ i ∷ [])
          (number_kept (right_place op o) op o ob d n))
          (after_one _ (operation_item (right_place op o) op o ob d)
          (λ n at. placed_length (right_place op o) ob b n at) e wb)) first));
    }
  where
    regroup : (oa ob : Operand) (at : ℕ) (more : List Item) (d : Destination) → operation op oa v ob b at d more
        ≡ operation op oa v ob b at d [] ++ more
    regroup oa ob at more d = simp append_assoc

-- The first operand

either : {A : Type 0} (b : Bool) (x : A) → x ≡ (if b then x else x)
either true x = refl
either false x = refl

pub first_pushed : (c c1 : List Item) (op : Binary) (wanted : Wanted) (v : Value)
    → WritesBefore c c1 (wanted_items wanted v) → WritesBefore c c1 (first_items op pushed wanted v)
first_pushed c c1 op wanted v w = as_items (λ n at _. either (is_logical op) (wanted_items wanted v n at)) w

-- Chains

pub links_next : (c c1 c2 : List Item) (wanted w1 w2 : Wanted) (op : Binary) (b : Value) (ls : List (Binary × Value))
    → ReducesLinks c c1 wanted w1 ls → ReducesLink c1 c2 w1 w2 op pushed b
    → ReducesLinks c c2 wanted w2 ((op, b) ∷ ls)
links_next c c1 c2 wanted w1 w2 op b ls many link v is =
    record {
      with_rest = λ end w. (many (source.binary op v b) (λ _. refl)).with_rest end
          ((link v (is b)).with_rest end (first_pushed c2 end op w2 v w));
    }

pub chain_more : (c c1 c2 c3 : List Item) (wanted w1 w2 : Wanted) (op : Binary) (o : Operand) (a b : Value)
    (ls : List (Binary × Value)) → ReducesLinks c c1 wanted w1 ls → o ≡ left_of a b → ReducesLink c1 c2 w1 w2 op o b
    → WritesBefore c2 c3 (first_items op o w2 a)
    → WritesBefore c c3 (wanted_items wanted (chained (source.binary op a b) ls))
chain_more c c1 c2 c3 wanted w1 w2 op o a b ls many e link w = (many (source.binary op a b) (λ _. refl)).with_rest c3
    ((link a e).with_rest c3 w)

-- Comparisons

abbrev comparison : Test → Operand → Value → Operand → Value → Bool → ℕ → ℕ → List Item
comparison test o v ob b when at t = if_pushed o (value_items at v push) []
    ++ (if_pushed ob (value_items (at + if_pushed o (value_count v push) 0) b push) [] ++ items.branch test
    (o ∷ ob ∷ []) when t ∷ [])

pub compare_link : (c c1 c2 c3 : List Item) (wanted : Wanted) (when : Bool) (target : ℕ) (op : Comparison)
    (o ob : Operand) (b : Value) → ReducesTruth c c1 wanted when target → ob ≡ alone b
    → c2 ≡ c1 ++ items.branch (comparison_test op) (o ∷ ob ∷ []) (comparison_when op when) target ∷ []
    → WritesBefore c2 c3 (pushes ob b) → ReducesComparison c c3 wanted op o b
compare_link c c1 c2 c3 wanted when target op o ob b reduces eb e wb v eo =
    let k = if_pushed o (value_count v push) 0 in
    record {
      with_rest = λ c4 w.
          (reduces (source.compare op v b) (λ at d. refl)).with_rest c4
          (as_items (λ n at _. ap
          (λ x. comparison (comparison_test op) x v ob b (comparison_when op when) at (n - target)) eo
          ∙ ap (λ y. comparison (comparison_test op) (left_of v b) v y b (comparison_when op when) at
          (n - target)) eb)
          (both k (λ n at. pushes_length o v n at)
          (after_one _ (items.branch (comparison_test op) (o ∷ ob ∷ []) (comparison_when op when) target)
          (λ n at. pushes_length ob b n at) e wb) w));
    }

pub compare_more : (c c1 c2 : List Item) (wanted : Wanted) (op : Comparison) (o : Operand) (a b : Value) → o
    ≡ left_of a b → ReducesComparison c c1 wanted op o b → WritesBefore c1 c2 (pushes o a)
    → WritesBefore c c2 (wanted_items wanted (source.compare op a b))
compare_more c c1 c2 wanted op o a b e link w = (link a e).with_rest c2 w

-- Entries

-- what reads or assigns an entry has no target
load_kept : (width : Width) (a : ℕ) (o : Operand) (d : Destination) (n : ℕ)
    → numbered n (entry_item width a o d) ≡ entry_item width a o d
load_kept width a pushed d n = refl
load_kept width a (number k) d n = refl
load_kept width a (variable x) d n = refl

store_kept : (width : Width) (a : ℕ) (o q : Operand) (d : Destination) (n : ℕ)
    → numbered n (assign_entry_item width a o q d) ≡ assign_entry_item width a o q d
store_kept width a o q d n = go (is_any_pushed (o ∷ q ∷ []))
  where
    go : (b : Bool)
        → numbered n (if b then items.assign_entry_aside width a o q d else items.assign_entry width a o q d)
        ≡ (if b then items.assign_entry_aside width a o q d else items.assign_entry width a o q d)
    go true = refl
    go false = refl

pub entry_more : (c c1 c2 c3 : List Item) (wanted : Wanted) (d : Destination) (width : Width) (a : ℕ) (o : Operand)
    (i : Value) (k : Item) → ReducesWord c c1 wanted d → o ≡ alone i → k ≡ entry_item width a o d → c2 ≡ c1 ++ k ∷ []
    → WritesBefore c2 c3 (operand_items aside o i)
    → WritesBefore c c3 (wanted_items wanted (source.entry width a i))
entry_more c c1 c2 c3 wanted d width a o i k reduces eo is e w =
    (reduces (source.entry width a i)
    (λ at t when. sym (append_assoc (if_pushed (alone i) (value_items at i aside) [])
    (entry_item width a (alone i) push ∷ []) (branch_true pushed when t ∷ [])))).with_rest c3
    (as_items (λ n at _. ap (λ k. if_pushed o (value_items at i aside) [] ++ k ∷ []) (load_kept width a o d n)
    ∙ ap (λ o. if_pushed o (value_items at i aside) [] ++ entry_item width a o d ∷ []) eo)
    (after_one _ (entry_item width a o d) (λ n at. placed_length aside o i n at) (e ∙ ap (λ k. c1 ++ k ∷ []) is) w))

abbrev entry_assigned : Width → ℕ → Operand → Value → Operand → Value → ℕ → Destination → List Item → List Item
entry_assigned width a o i ov v at d more = if_pushed o (value_items at i (index_place (alone v))) []
    ++ (if_pushed ov (value_items (at + if_pushed o (value_count i (index_place (alone v))) 0) v aside) []
    ++ assign_entry_item width a o ov d ∷ more)

pub assigned_entry_link : (c c1 c2 c3 : List Item) (wanted : Wanted) (d : Destination) (width : Width) (a : ℕ)
    (o ov : Operand) (v : Value) (k : Item) → ReducesWord c c1 wanted d → ov ≡ alone v → k ≡ assign_entry_item width a o ov d
    → c2 ≡ c1 ++ k ∷ [] → WritesBefore c2 c3 (operand_items aside ov v)
    → ReducesAssignedEntry c c3 wanted width a o v
assigned_entry_link c c1 c2 c3 wanted d width a o ov v k reduces ev is e wv i eo =
    let place = index_place (alone v) in
    record {
      with_rest = λ c4 w.
          (reduces (source.assign_entry width a i v)
          (λ at t when. regroup (left_of i v) (alone v) at (branch_true pushed when t ∷ []) push)).with_rest c4
          (as_items (λ n at _.
          ap (λ k. if_pushed o (value_items at i place) []
          ++ (if_pushed ov (value_items (at + if_pushed o (value_count i place) 0) v aside) [] ++ k ∷ []))
          (store_kept width a o ov d n)
          ∙ ap (λ x. entry_assigned width a x i ov v at d []) eo
          ∙ ap (λ y. entry_assigned width a (left_of i v) i y v at d []) ev)
          (both (if_pushed o (value_count i place) 0) (λ n at. placed_length place o i n at)
          (after_one _ (assign_entry_item width a o ov d) (λ n at. placed_length aside ov v n at) (e ∙ ap (λ k. c1 ++ k ∷ []) is)
          wv) w));
    }
  where
    regroup : (oi ov : Operand) (at : ℕ) (more : List Item) (d : Destination)
        → entry_assigned width a oi i ov v at d more ≡ entry_assigned width a oi i ov v at d [] ++ more
    regroup oi ov at more d = simp append_assoc

pub assigned_entry_more : (c c1 c2 : List Item) (wanted : Wanted) (width : Width) (a : ℕ) (o word : Operand)
    (place : Destination) (i v : Value) → o ≡ left_of i v → ReducesAssignedEntry c c1 wanted width a o v
    → word ≡ alone v → place ≡ index_place word → WritesBefore c1 c2 (operand_items place o i)
    → WritesBefore c c2 (wanted_items wanted (source.assign_entry width a i v))
assigned_entry_more c c1 c2 wanted width a o word place i v e link ew is w =
    (link i e).with_rest c2 (subst (λ p. WritesBefore c1 c2 (operand_items p o i)) (is ∙ ap index_place ew) w)
