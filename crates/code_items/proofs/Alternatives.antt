-- What is written for `==` and `~=`, and for lists of expressions.
use Rattle.std.proofs.Common.{◌≡◌, ℕ, zero, suc, ◌+◌, ◌-◌, ◌<◌, List, [], ◌∷◌, ◌++◌, length, map, drop, slice_index_or}
use Rattle.std.proofs.Common.{Bool, true, false, refl, sym, ap, subst, ◌∙◌, arith, append_assoc, length-append}
use Rattle.std.specs.Prelude.{nat_lt, if◌then◌else◌}
use Rattle.syntax_trees.specs.declared.tree.Binary.{Binary}
use Rattle.syntax_trees.specs.declared.tree.Equality.{Equality}
use Rattle.meaning.specs.declared.resolved.Value as code_value
use Rattle.meaning.specs.Resolved.{Value, Values, none, more}
use Rattle.meaning.specs.Views.{value_of, values_of}
use Rattle.meaning.specs.Resolved as source
use Rattle.meaning.specs.Accepted.{count_of}
use Rattle.code_drafts.specs.Items.{Item, Operand, pushed, push, same, operand_of, operands_of, if_pushed}
use Rattle.code_drafts.specs.Items.{is_in_place, all_in_place, is_direct, branch_true, equality_when, value_count}
use Rattle.code_drafts.specs.Items.{operands_count, truth_items, same_items, value_items, operands_items, also_items}
use Rattle.code_drafts.specs.Items as items
use Rattle.code_drafts.specs.declared.wanted.Wanted.{Wanted}
use Rattle.code_drafts.specs.declared.wanted.Wanted.TheVariants.{Word}
use Rattle.code_drafts.specs.declared.item.Destination.TheVariants as destinations
use Rattle.code_drafts.specs.Writing.{wanted_items, first_operand, second_operand, alones, link_of, IsCondition}
use Rattle.code_drafts.specs.Writing.{WritesBefore, Leaves, ReducesTruth}
use Rattle.code_drafts.proofs.Counts.{value_length, operands_length}
use Rattle.code_drafts.proofs.InPlace.{are_few, both_true, operands_placed, nothing_pushed, nothing_counted}
use Rattle.code_drafts.proofs.InPlace.{direct_few, placed, on_stack, in_instructions, same_last, few_counted}
use Rattle.code_drafts.proofs.WrittenItems.{one, both, as_items, then_one, after_one}
use Rattle.code_items.specs.ValueWriting.{pushes, both_push, folded_items, ReducesLinks, ReducesLink, ReducesEquality}
use Rattle.code_items.proofs.OperationForms.{links_next}
use Rattle.code_items.proofs.Values.{pushes_length}

equal_condition : (op : Equality) (a : Value) (bs : Values) → IsCondition (source.equal op a bs)
equal_condition op a bs at d = go (is_direct a bs) _ _ _ _
  where
    go : (b : Bool) (m k : ℕ) (f g : ℕ → List Item) → (if b then truth_items at m d f else truth_items at k d g)
        ≡ truth_items at (if b then m else k) d (λ t. if b then f t else g t)
    go true m k f g = refl
    go false m k f g = refl

pub both_length : (oa ob : Operand) (a b : Value) (n at : ℕ) → length (both_push oa a ob b n at)
    ≡ if_pushed oa (value_count a push) 0 + if_pushed ob (value_count b push) 0
both_length oa ob a b n at =
    omega (
      arith,
      length-append (if_pushed oa (value_items at a push) [])
          (if_pushed ob (value_items (at + if_pushed oa (value_count a push) 0) b push) []),
      pushes_length oa a n at,
      pushes_length ob b n (at + if_pushed oa (value_count a push) 0),
    )

then_is : {A : Type 0} (t : Bool) → t ≡ true → (x y : A) → x ≡ (if t then x else y)
then_is t e x y = ap (λ b. if b then x else y) (sym e)

else_is : {A : Type 0} (t : Bool) → t ≡ false → (x y : A) → y ≡ (if t then x else y)
else_is t e x y = ap (λ b. if b then x else y) (sym e)

-- all right sides by instructions alone
direct_link : (c c1 c3 : List Item) (wanted : Wanted) (when : Bool) (target : ℕ) (op : Equality) (oa ob : Operand)
    (a b : Value) (bs : Values) → is_direct a (more b bs) ≡ true → oa ≡ operand_of a (more b bs) → ob ≡ operand_of b bs
    → ReducesTruth c c1 wanted when target
    → WritesBefore c1 c3 (λ n at. operands_items at bs
    ++ same_items oa (ob ∷ operands_of bs) (at + operands_count bs) (equality_when op when) (n - target))
    → Leaves c c3 (wanted_items wanted (source.equal op a (more b bs))) (both_push oa a ob b)
direct_link c c1 c3 wanted when target op oa ob a b bs is fa fb reduces wb =
    let ka = if_pushed oa (value_count a push) 0 in
    let kb = if_pushed ob (value_count b push) 0 in
    record {
      with_rest = λ c4 w.
          (reduces (source.equal op a (more b bs)) (equal_condition op a (more b bs))).with_rest c4
          (as_items (λ n at _.
          let there : at + (ka + kb) ≡ at + ka + kb = omega arith in
          ap (λ m. both_push oa a ob b n at ++ (operands_items m bs ++ same_items oa (ob ∷ operands_of bs)
          (m + operands_count bs) (equality_when op when) (n - target))) there
          ∙ ap (λ x. whole x ob n at) fa ∙ ap (λ y. whole (operand_of a (more b bs)) y n at) fb
          ∙ regroup (operand_of a (more b bs)) (operand_of b bs) n at
          ∙ then_is (is_direct a (more b bs)) is _ _)
          (both (ka + kb) (λ n at. both_length oa ob a b n at) wb w));
    }
  where
    whole : Operand → Operand → ℕ → ℕ → List Item
    whole x y n at =
        let m = at + if_pushed x (value_count a push) 0 + if_pushed y (value_count b push) 0 in
        both_push x a y b n at ++ (operands_items m bs ++ same_items x (y ∷ operands_of bs)
        (m + operands_count bs) (equality_when op when) (n - target))

    direct_items : Operand → Operand → ℕ → ℕ → List Item
    direct_items x y n at =
        if_pushed x (value_items at a push) []
        ++ ((if_pushed y (value_items (at + if_pushed x (value_count a push) 0) b push) [] ++ operands_items
        (at + if_pushed x (value_count a push) 0 + if_pushed y (value_count b push) 0) bs)
        ++ same_items x (y ∷ operands_of bs)
        (at + if_pushed x (value_count a push) 0 + (if_pushed y (value_count b push) 0 + operands_count bs))
        (equality_when op when) (n - target))

    grouped : (xs ys zs us : List Item) → (xs ++ ys) ++ (zs ++ us) ≡ xs ++ ((ys ++ zs) ++ us)
    grouped xs ys zs us = simp append_assoc

    regroup : (x y : Operand) (n at : ℕ) → whole x y n at ≡ direct_items x y n at
    regroup x y n at =
        let kx = if_pushed x (value_count a push) 0 in
        let ky = if_pushed y (value_count b push) 0 in
        let there : at + kx + ky + operands_count bs ≡ at + kx + (ky + operands_count bs) = omega arith in
        grouped (if_pushed x (value_items at a push) []) (if_pushed y (value_items (at + kx) b push) [])
        (operands_items (at + kx + ky) bs)
        (same_items x (y ∷ operands_of bs) (at + kx + ky + operands_count bs) (equality_when op when) (n - target))
        ∙ ap (λ m. if_pushed x (value_items at a push) []
        ++ ((if_pushed y (value_items (at + kx) b push) [] ++ operands_items (at + kx + ky) bs)
        ++ same_items x (y ∷ operands_of bs) m (equality_when op when) (n - target))) there

-- by one
pub few_link : (c c1 c2 c3 : List Item) (wanted : Wanted) (when : Bool) (target : ℕ) (op : Equality) (oa ob : Operand)
    (bs : Values) → nat_lt (count_of bs) 3 ≡ true → ReducesTruth c c1 wanted when target
    → c2 ≡ c1 ++ items.branch same (oa ∷ ob ∷ operands_of bs) (equality_when op when) target ∷ []
    → WritesBefore c2 c3 (λ n at. operands_items at bs) → ReducesEquality c c3 wanted op oa ob bs
few_link c c1 c2 c3 wanted when target op oa ob bs few reduces e wb a b ea eb =
    let is = direct_few a (more b bs) (are_few b bs true few) in
    let fa : oa ≡ operand_of a (more b bs) = ea ∙ ap (λ t. if t then operand_of a (more b bs) else pushed) is in
    let fb : ob ≡ operand_of b bs = eb ∙ ap (λ t. if t then operand_of b bs else pushed) is in
    direct_link c c1 c3 wanted when target op oa ob a b bs is fa fb reduces
    (as_items (λ n at _. ap (λ l. operands_items at bs ++ l) (sym (same_last oa (ob ∷ operands_of bs)
    (at + operands_count bs) (equality_when op when) (n - target) (few_counted ob bs few))))
    (after_one _ (items.branch same (oa ∷ ob ∷ operands_of bs) (equality_when op when) target)
    (λ n at. operands_length bs at) e wb))

-- by several, where all stand in place
pub placed_link : (c c1 c2 : List Item) (wanted : Wanted) (when : Bool) (target : ℕ) (op : Equality)
    (oa ob : Operand) (bs : Values) → nat_lt (count_of bs) 3 ≡ false → if_pushed oa true false ≡ false
    → ReducesTruth c c1 wanted when target
    → WritesBefore c1 c2 (λ n at. same_items oa (ob ∷ alones bs) at (equality_when op when) (n - target))
    → ReducesEquality c c2 wanted op oa ob bs
placed_link c c1 c2 wanted when target op oa ob bs many off reduces w a b ea eb =
    let is = in_instructions oa a b bs ea off in
    let fa : oa ≡ operand_of a (more b bs) = ea ∙ ap (λ t. if t then operand_of a (more b bs) else pushed) is in
    let fb : ob ≡ operand_of b bs = eb ∙ ap (λ t. if t then operand_of b bs else pushed) is in
    let h = placed a (more b bs) (are_few b bs false many) is in
    let p = (both_true (is_in_place b) (all_in_place bs) h.1).1 in
    direct_link c c1 c2 wanted when target op oa ob a b bs is fa fb reduces
    (as_items (λ n at _.
    let there : at ≡ at + operands_count bs = omega (arith, nothing_counted bs p) in
    ap (λ os. same_items oa (ob ∷ os) at (equality_when op when) (n - target)) (sym (operands_placed bs p))
    ∙ ap (λ m. same_items oa (ob ∷ operands_of bs) m (equality_when op when) (n - target)) there
    ∙ ap (λ is. is ++ same_items oa (ob ∷ operands_of bs) (at + operands_count bs) (equality_when op when)
    (n - target)) (sym (nothing_pushed bs at p))) w)

also_are : (vs : Values) (op : Equality) (when : Bool) (at t : ℕ) → also_items at op vs when t
    ≡ folded_items at vs ++ items.drop_below ∷ branch_true pushed (equality_when op when) t ∷ []
also_are none op when at t = refl
also_are (more v vs) op when at t =
    ap (λ l. value_items at v push ++ items.also_equal ∷ l) (also_are vs op when (at + value_count v push + 1) t)
    ∙ sym (append_assoc (value_items at v push) (items.also_equal ∷ folded_items (at + value_count v push + 1) vs)
    (items.drop_below ∷ branch_true pushed (equality_when op when) t ∷ []))

abbrev folded_count : Values → ℕ
folded_count none = 0
folded_count (more v vs) = value_count v push + 1 + folded_count vs

folded_length : (vs : Values) (at : ℕ) → length (folded_items at vs) ≡ folded_count vs
folded_length none at = refl
folded_length (more v vs) at =
    omega (
      arith,
      length-append (value_items at v push)
          (items.also_equal ∷ folded_items (at + value_count v push + 1) vs),
      value_length v push at,
      folded_length vs
          (at + value_count v push + 1),
    )

-- each right side by itself
pub many_link : (c c1 c2 c3 c4 c5 : List Item) (wanted : Wanted) (when : Bool) (target : ℕ) (op : Equality)
    (oa ob : Operand) (bs : Values) → nat_lt (count_of bs) 3 ≡ false → if_pushed oa true false ≡ true
    → ReducesTruth c c1 wanted when target
    → c2 ≡ c1 ++ branch_true pushed (equality_when op when) target ∷ [] → c3 ≡ c2 ++ items.drop_below ∷ []
    → WritesBefore c3 c4 (λ n at. folded_items at bs) → c5 ≡ c4 ++ items.first_equal ∷ []
    → ReducesEquality c c5 wanted op oa ob bs
many_link c c1 c2 c3 c4 c5 wanted when target op oa ob bs many on reduces e2 e3 wf e5 a b ea eb =
    let is = on_stack oa a b bs many ea on in
    let ka = value_count a push in
    let kb = value_count b push in
    let fa : oa ≡ pushed = ea ∙ ap (λ t. if t then operand_of a (more b bs) else pushed) is in
    let fb : ob ≡ pushed = eb ∙ ap (λ t. if t then operand_of b bs else pushed) is in
    record {
      with_rest = λ c6 w.
          let pushes_both : WritesBefore c5 c6 (both_push pushed a pushed b) =
          as_items (λ n at _. ap (λ x. both_push x a ob b n at) fa ∙ ap (λ y. both_push pushed a y b n at) fb) w in
          (reduces (source.equal op a (more b bs)) (equal_condition op a (more b bs))).with_rest c6
          (as_items (λ n at _.
          let there : at + (ka + kb) + 1 ≡ at + ka + kb + 1 = omega arith in
          ap (λ m. both_push pushed a pushed b n at ++ items.first_equal ∷
          (folded_items m bs ++ items.drop_below ∷ branch_true pushed (equality_when op when) (n - target) ∷ []))
          there
          ∙ ap (λ l. both_push pushed a pushed b n at ++ items.first_equal ∷ l)
          (sym (also_are bs op when (at + ka + kb + 1) (n - target)))
          ∙ append_assoc (value_items at a push) (value_items (at + ka) b push)
          (items.first_equal ∷ also_items (at + ka + kb + 1) op bs when (n - target))
          ∙ else_is (is_direct a (more b bs)) is _ _)
          (both (ka + kb) (λ n at. both_length pushed pushed a b n at)
          (then_one items.first_equal
          (both (folded_count bs) (λ n at. folded_length bs at)
          (then_one items.drop_below (one c1 c2 _ e2) e3) wf) e5) pushes_both));
    }

pub equal_more : (c c1 c2 c3 : List Item) (wanted : Wanted) (op : Equality) (oa ob : Operand) (a b : Value)
    (bs : Values) → oa ≡ first_operand a b bs → ob ≡ second_operand a b bs → ReducesEquality c c1 wanted op oa ob bs
    → WritesBefore c1 c2 (pushes ob b) → WritesBefore c2 c3 (pushes oa a)
    → WritesBefore c c3 (wanted_items wanted (source.equal op a (more b bs)))
equal_more c c1 c2 c3 wanted op oa ob a b bs ea eb link wb wa = (link a b ea eb).with_rest c3
    (both (if_pushed oa (value_count a push) 0) (λ n at. pushes_length oa a n at) wb wa)

-- Lists, from the last to the first

operands_from : (xs : List code_value.Value) (i : ℕ) (x : code_value.Value) (at : ℕ) → i < length xs
    → operands_items at (values_of (map value_of (drop i xs)))
    ≡ if_pushed (operand_of (value_of (slice_index_or xs i x)) (values_of (map value_of (drop (suc i) xs))))
    (value_items at (value_of (slice_index_or xs i x)) push) []
    ++ operands_items (at + if_pushed
    (operand_of (value_of (slice_index_or xs i x)) (values_of (map value_of (drop (suc i) xs))))
    (value_count (value_of (slice_index_or xs i x)) push) 0) (values_of (map value_of (drop (suc i) xs)))
operands_from [] i x at h = absurd (omega (arith, h))
operands_from (y ∷ xs) zero x at h = refl
operands_from (y ∷ xs) (suc i) x at h = operands_from xs i x at (omega (arith, h))

pub operand_next : (c c1 c2 : List Item) (xs : List code_value.Value) (i : ℕ) (x : code_value.Value) (o : Operand)
    → i < length xs
    → x ≡ slice_index_or xs i x → o ≡ operand_of (value_of x) (values_of (map value_of (drop (i + 1) xs)))
    → WritesBefore c c1 (λ n at. operands_items at (values_of (map value_of (drop (i + 1) xs))))
    → WritesBefore c1 c2 (pushes o (value_of x))
    → WritesBefore c c2 (λ n at. operands_items at (values_of (map value_of (drop i xs))))
operand_next c c1 c2 xs i x o lt is eo many w =
    let j : i + 1 ≡ suc i = omega arith in
    as_items (λ n at _. ap (λ p. item_at x p (i + 1) at) eo
    ∙ ap (λ k. item_at x (operand_of (value_of x) (values_of (map value_of (drop k xs)))) k at) j
    ∙ ap (λ y. item_at y (operand_of (value_of y) (values_of (map value_of (drop (suc i) xs)))) (suc i) at) is
    ∙ sym (operands_from xs i x at lt))
    (both (if_pushed o (value_count (value_of x) push) 0) (λ n at. pushes_length o (value_of x) n at) many w)
  where
    item_at : code_value.Value → Operand → ℕ → ℕ → List Item
    item_at y p k at = if_pushed p (value_items at (value_of y) push) [] ++ operands_items
        (at + if_pushed p (value_count (value_of y) push) 0) (values_of (map value_of (drop k xs)))

folded_from : (xs : List code_value.Value) (i : ℕ) (x : code_value.Value) (at : ℕ) → i < length xs
    → folded_items at (values_of (map value_of (drop i xs)))
    ≡ value_items at (value_of (slice_index_or xs i x)) push ++ items.also_equal ∷ folded_items
    (at + value_count (value_of (slice_index_or xs i x)) push + 1) (values_of (map value_of (drop (suc i) xs)))
folded_from [] i x at h = absurd (omega (arith, h))
folded_from (y ∷ xs) zero x at h = refl
folded_from (y ∷ xs) (suc i) x at h = folded_from xs i x at (omega (arith, h))

pub folded_next : (c c1 c2 c3 : List Item) (xs : List code_value.Value) (i : ℕ) (x : code_value.Value)
    → i < length xs → x
    ≡ slice_index_or xs i x → WritesBefore c c1 (λ n at. folded_items at (values_of (map value_of (drop (i + 1) xs))))
    → c2 ≡ c1 ++ items.also_equal ∷ [] → WritesBefore c2 c3 (wanted_items (Word destinations.Push) (value_of x))
    → WritesBefore c c3 (λ n at. folded_items at (values_of (map value_of (drop i xs))))
folded_next c c1 c2 c3 xs i x lt is many e w =
    let j : i + 1 ≡ suc i = omega arith in
    as_items
    (λ n at _. ap (λ k. item_at x k at) j ∙ ap (λ y. item_at y (suc i) at) is ∙ sym (folded_from xs i x at lt))
    (both (value_count (value_of x) push) (λ n at. value_length (value_of x) push at)
    (then_one items.also_equal many e) w)
  where
    item_at : code_value.Value → ℕ → ℕ → List Item
    item_at y k at = value_items at (value_of y) push ++ items.also_equal ∷ folded_items
        (at + value_count (value_of y) push + 1) (values_of (map value_of (drop k xs)))

links_from : (xs : List (Binary × code_value.Value)) (i : ℕ) (x : Binary × code_value.Value) → i < length xs
    → map link_of (drop i xs) ≡ link_of (slice_index_or xs i x) ∷ map link_of (drop (suc i) xs)
links_from [] i x h = absurd (omega (arith, h))
links_from (y ∷ xs) zero x h = refl
links_from (y ∷ xs) (suc i) x h = links_from xs i x (omega (arith, h))

pub link_next : (c c1 c2 : List Item) (wanted w1 w2 : Wanted) (xs : List (Binary × code_value.Value)) (i : ℕ)
    (x : Binary × code_value.Value) → i < length xs → x ≡ slice_index_or xs i x
    → ReducesLinks c c1 wanted w1 (map link_of (drop (i + 1) xs))
    → ReducesLink c1 c2 w1 w2 x.0 pushed (value_of x.1) → ReducesLinks c c2 wanted w2 (map link_of (drop i xs))
link_next c c1 c2 wanted w1 w2 xs i x lt is many link =
    let j : i + 1 ≡ suc i = omega arith in
    let here : map link_of (drop i xs) ≡ link_of x ∷ map link_of (drop (i + 1) xs) = links_from xs i x lt
    ∙ ap (λ k. link_of (slice_index_or xs i x) ∷ map link_of (drop k xs)) (sym j)
    ∙ ap (λ y. link_of y ∷ map link_of (drop (i + 1) xs)) (sym is) in
    subst (λ ls. ReducesLinks c c2 wanted w2 ls) (sym here)
    (links_next c c1 c2 wanted w1 w2 x.0 (value_of x.1) (map link_of (drop (i + 1) xs)) many link)
