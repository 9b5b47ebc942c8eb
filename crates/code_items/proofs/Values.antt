-- What is written for the forms of expressions.
use Rattle.std.proofs.Common.{◌≡◌, ℕ, ◌+◌, ◌-◌, List, [], ◌∷◌, ◌++◌, length, Bool, true, false, refl, sym, ap, subst}
use Rattle.std.proofs.Common.{◌∙◌, arith, append_assoc}
use Rattle.std.specs.Prelude.{not, if◌then◌else◌}
use Rattle.syntax_trees.specs.declared.tree.Binary.{Binary}
use Rattle.syntax_trees.specs.declared.tree.Binary.TheVariants as binaries
use Rattle.syntax_trees.specs.declared.tree.Prefix.{Prefix}
use Rattle.syntax_trees.specs.declared.tree.Prefix.TheVariants as prefixes
use Rattle.meaning.specs.Resolved.{Value, Values}
use Rattle.meaning.specs.Resolved as source
use Rattle.code_drafts.specs.Items.{Item, Operand, pushed, Destination, push, operands_of, alone, if_pushed}
use Rattle.code_drafts.specs.Items.{branch_true, value_count, branch_count, value_items}
use Rattle.code_drafts.specs.Items.{branch_items, are_more_pushed, call_item, arguments_count, arguments_items}
use Rattle.code_drafts.specs.Items as items
use Rattle.code_drafts.specs.declared.wanted.Wanted.{Wanted}
use Rattle.code_drafts.specs.declared.wanted.Wanted.TheVariants.{Branch}
use Rattle.code_drafts.specs.Writing.{numbered, wanted_items, ReducesWord, ReducesTruth, WritesBefore}
use Rattle.code_drafts.proofs.CountedForms.{if_length}
use Rattle.code_drafts.proofs.Counts.{value_length, branch_length, arguments_length}
use Rattle.code_drafts.proofs.WrittenItems.{counted, both, as_items, after_one}
use Rattle.code_items.specs.ValueWriting.{pushes, operand_items, ReducesLink}

pub pushes_length : (o : Operand) (v : Value) (n at : ℕ)
    → length (pushes o v n at) ≡ if_pushed o (value_count v push) 0
pushes_length o v n at = if_length o (value_items at v push) (value_count v push) (value_length v push at)

pub placed_length : (place : Destination) (o : Operand) (v : Value) (n at : ℕ)
    → length (operand_items place o v n at) ≡ if_pushed o (value_count v place) 0
placed_length place o v n at = if_length o (value_items at v place) (value_count v place) (value_length v place at)

-- a call has no target
call_kept : (several : Bool) (r : ℕ) (os : List Operand) (d : Destination) (n : ℕ)
    → numbered n (call_item several r os d) ≡ call_item several r os d
call_kept true r os d n = refl
call_kept false r os d n = refl

pub call_more : (c c1 c2 c3 : List Item) (wanted : Wanted) (d : Destination) (r : ℕ) (vs : Values)
    → ReducesWord c c1 wanted d → c2 ≡ c1 ++ call_item (are_more_pushed (operands_of vs)) r (operands_of vs) d ∷ []
    → WritesBefore c2 c3 (λ n at. arguments_items (are_more_pushed (operands_of vs)) at vs)
    → WritesBefore c c3 (wanted_items wanted (source.call r vs))
call_more c c1 c2 c3 wanted d r vs reduces e w =
    let several = are_more_pushed (operands_of vs) in
    (reduces (source.call r vs)
    (λ at t when. sym (append_assoc (arguments_items several at vs) (call_item several r (operands_of vs) push ∷ [])
    (branch_true pushed when t ∷ [])))).with_rest c3
    (as_items (λ n at _. ap (λ i. arguments_items several at vs ++ i ∷ []) (call_kept several r (operands_of vs) d n))
    (after_one (arguments_count several vs) (call_item several r (operands_of vs) d)
    (λ n at. arguments_length several vs at) e w))

pub not_more : (c c1 c2 : List Item) (wanted : Wanted) (when : Bool) (left : ℕ) (v : Value)
    → ReducesTruth c c1 wanted when left → WritesBefore c1 c2 (wanted_items (Branch (not when) left) v)
    → WritesBefore c c2 (wanted_items wanted (source.prefixed prefixes.Not v))
not_more c c1 c2 wanted when left v reduces w = (reduces (source.prefixed prefixes.Not v) (λ at d. refl)).with_rest
    c2 w

-- an operator that is not `~~`
module _ (op : Prefix) (v : Value)
    (value_is : (at : ℕ) (d : Destination) → value_items at (source.prefixed op v) d
    ≡ if_pushed (alone v) (value_items at v push) [] ++ items.apply_prefix op (alone v) d ∷ [])
    (branch_is : (at t : ℕ) (when : Bool) → branch_items at (source.prefixed op v) when t
    ≡ if_pushed (alone v) (value_items at v push) [] ++ items.apply_prefix op
    (alone v) push ∷ branch_true pushed when t ∷ []) where
  plain_prefix : (c c1 c2 c3 : List Item) (wanted : Wanted) (d : Destination) (o : Operand)
      → ReducesWord c c1 wanted d → o ≡ alone v → c2 ≡ c1 ++ items.apply_prefix op o d ∷ []
      → WritesBefore c2 c3 (pushes o v)
      → WritesBefore c c3 (wanted_items wanted (source.prefixed op v))
  plain_prefix c c1 c2 c3 wanted d o reduces eo e w =
      (reduces (source.prefixed op v)
      (λ at t when. branch_is at t when
      ∙ sym (append_assoc (if_pushed (alone v) (value_items at v push) [])
      (items.apply_prefix op (alone v) push ∷ []) (branch_true pushed when t ∷ []))
      ∙ ap (λ l. l ++ branch_true pushed when t ∷ []) (sym (value_is at push)))).with_rest c3
      (as_items (λ n at _. ap (λ o. if_pushed o (value_items at v push) [] ++ items.apply_prefix op o d ∷ []) eo
      ∙ sym (value_is at d)) (after_one _ (items.apply_prefix op o d) (λ n at. pushes_length o v n at) e w))

pub prefix_more : (c c1 c2 c3 : List Item) (wanted : Wanted) (d : Destination) (op : Prefix) (o : Operand) (v : Value)
    → (op ≡ prefixes.Not → ⊥) → ReducesWord c c1 wanted d → o ≡ alone v → c2 ≡ c1 ++ items.apply_prefix op o d ∷ []
    → WritesBefore c2 c3 (pushes o v)
    → WritesBefore c c3 (wanted_items wanted (source.prefixed op v))
prefix_more c c1 c2 c3 wanted d prefixes.Not o v other = absurd (other refl)
prefix_more c c1 c2 c3 wanted d prefixes.Minus o v other =
    plain_prefix prefixes.Minus v (λ at d. refl) (λ at t when. refl) c c1 c2 c3 wanted d o
prefix_more c c1 c2 c3 wanted d prefixes.Complement o v other = plain_prefix prefixes.Complement v (λ at d. refl)
    (λ at t when. refl) c c1 c2 c3 wanted d o

-- `&&` and `||`

pub and_link : (c c1 c2 : List Item) (wanted : Wanted) (when : Bool) (target end : ℕ) (o : Operand) (b : Value)
    → ReducesTruth c c1 wanted when target → end ≡ length c1 → WritesBefore c1 c2 (wanted_items (Branch when target) b)
    → ReducesLink c c2 wanted (Branch false (if when then end else target)) binaries.AndAlso o b
and_link c c1 c2 wanted when target end o b reduces ee wb v _ =
    let na = branch_count v false in
    let l2 = counted (branch_count b when) (λ n at. branch_length b when at (n - target)) wb in
    record {
      with_rest = λ c3 w.
          let l3 = counted na (λ n at. branch_length v false at (n - (if when then end else target))) w in
          (reduces (source.binary binaries.AndAlso v b) (λ at d. refl)).with_rest c3
          (as_items (λ n at h. ap (λ t. branch_items at v false t ++ branch_items (at + na) b when (n - target))
          (skip when n at (omega (arith, h, ee, l2, l3))))
          (both na (λ n at. branch_length v false at (n - (if when then end else target))) wb w));
    }
  where
    skip : (w : Bool) (n at : ℕ) → n - end ≡ at + branch_count v false + branch_count b when
        → n - (if w then end else target)
        ≡ (if w then at + branch_count v false + branch_count b when else n - target)
    skip true n at e = e
    skip false n at e = refl

pub or_link : (c c1 c2 : List Item) (wanted : Wanted) (when : Bool) (target end : ℕ) (o : Operand) (b : Value)
    → ReducesTruth c c1 wanted when target → end ≡ length c1 → WritesBefore c1 c2 (wanted_items (Branch when target) b)
    → ReducesLink c c2 wanted (Branch true (if when then target else end)) binaries.OrElse o b
or_link c c1 c2 wanted when target end o b reduces ee wb v _ =
    let na = branch_count v true in
    let l2 = counted (branch_count b when) (λ n at. branch_length b when at (n - target)) wb in
    record {
      with_rest = λ c3 w.
          let l3 = counted na (λ n at. branch_length v true at (n - (if when then target else end))) w in
          (reduces (source.binary binaries.OrElse v b) (λ at d. refl)).with_rest c3
          (as_items (λ n at h. ap (λ t. branch_items at v true t ++ branch_items (at + na) b when (n - target))
          (skip when n at (omega (arith, h, ee, l2, l3))))
          (both na (λ n at. branch_length v true at (n - (if when then target else end))) wb w));
    }
  where
    skip : (w : Bool) (n at : ℕ) → n - end ≡ at + branch_count v true + branch_count b when
        → n - (if w then target else end) ≡ (if w then n - target else at + branch_count v true + branch_count b when)
    skip true n at e = refl
    skip false n at e = e

-- as the code comes to them

pub and_link_at : (c c1 c2 : List Item) (wanted : Wanted) (when : Bool) (target end next : ℕ) (op : Binary)
    (o : Operand) (b : Value) → op ≡ binaries.AndAlso → ReducesTruth c c1 wanted when target → end ≡ length c1
    → WritesBefore c1 c2 (wanted_items (Branch when target) b) → (if when then end else target)
    ≡ next → ReducesLink c c2 wanted (Branch false next) op o b
and_link_at c c1 c2 wanted when target end next op o b is reduces ee w e =
    subst (λ op. ReducesLink c c2 wanted (Branch false next) op o b) (sym is)
    (subst (λ t. ReducesLink c c2 wanted (Branch false t) binaries.AndAlso o b) e
    (and_link c c1 c2 wanted when target end o b reduces ee w))

pub or_link_at : (c c1 c2 : List Item) (wanted : Wanted) (when : Bool) (target end next : ℕ) (op : Binary)
    (o : Operand) (b : Value) → op ≡ binaries.OrElse → ReducesTruth c c1 wanted when target → end ≡ length c1
    → WritesBefore c1 c2 (wanted_items (Branch when target) b) → (if when then target else end)
    ≡ next → ReducesLink c c2 wanted (Branch true next) op o b
or_link_at c c1 c2 wanted when target end next op o b is reduces ee w e =
    subst (λ op. ReducesLink c c2 wanted (Branch true next) op o b) (sym is)
    (subst (λ t. ReducesLink c c2 wanted (Branch true t) binaries.OrElse o b) e
    (or_link c c1 c2 wanted when target end o b reduces ee w))

pub not_more_at : (c c1 c2 : List Item) (wanted : Wanted) (when : Bool) (left : ℕ) (op : Prefix) (v : Value) → op
    ≡ prefixes.Not → ReducesTruth c c1 wanted when left → WritesBefore c1 c2 (wanted_items (Branch (not when) left) v)
    → WritesBefore c c2 (wanted_items wanted (source.prefixed op v))
not_more_at c c1 c2 wanted when left op v is reduces w =
    subst (λ op. WritesBefore c c2 (wanted_items wanted (source.prefixed op v))) (sym is)
    (not_more c c1 c2 wanted when left v reduces w)
