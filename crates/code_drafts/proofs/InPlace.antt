-- What stands in place: nothing is pushed for it, whatever is evaluated later, and it is read by one branch or several.
use Rattle.std.proofs.Common.{◌≡◌, ℕ, zero, suc, ◌+◌, ◌<◌, ◌≤◌, List, [], ◌∷◌, ◌++◌, length, map, drop, slice_index_or}
use Rattle.std.proofs.Common.{Bool, true, false, refl, sym, ap, ◌∙◌, arith, append_assoc, append-nil}
use Rattle.std.proofs.lemmas.List.{map-append}
use Rattle.std.specs.Prelude.{◌&&◌, ◌||◌, nat_lt, nat_le, if◌then◌else◌}
use Rattle.std.proofs.lemmas.Bool.{ltb-true}
use Rattle.meaning.specs.declared.resolved.Variable.{Variable}
use Rattle.meaning.specs.declared.resolved.Value as code_value
use Rattle.meaning.specs.Resolved.{Value, Values, none, more}
use Rattle.meaning.specs.Views.{value_of, values_of}
use Rattle.meaning.specs.Resolved as source
use Rattle.meaning.specs.Accepted.{count_of}
use Rattle.code_drafts.specs.Items.{Operand, pushed, number, variable, push, same, prefix_operand, operand_of}
use Rattle.code_drafts.specs.Items.{operands_of, alone, if_pushed, changes, change, is_few, is_in_place, all_in_place}
use Rattle.code_drafts.specs.Items.{is_direct, same_count, same_items, value_count, operands_count, operand_count}
use Rattle.code_drafts.specs.Items.{value_items, operands_items}
use Rattle.code_drafts.specs.Items as items
use Rattle.code_drafts.specs.declared.item.Operand as code
use Rattle.code_drafts.specs.Code.{as_operand, as_operands}
use Rattle.code_drafts.specs.Writing.{first_operand, second_operand, alones}
use Rattle.code_drafts.proofs.SideOperands.{kept, before_is}

-- one instruction does, or it does not
few_or_not : (n : ℕ) → nat_lt n 3 ≡ nat_le (n + 1) 3
few_or_not n = let e : suc n ≡ n + 1 = omega arith in ap (λ m. nat_le m 3) e

pub are_few : (b : Value) (bs : Values) (known : Bool) → nat_lt (count_of bs) 3 ≡ known → is_few (more b bs) ≡ known
are_few b bs known e = sym (few_or_not (count_of bs)) ∙ e

pub both_true : (x y : Bool) → (x && y) ≡ true → (x ≡ true) × (y ≡ true)
both_true true y e = (refl, e)
both_true false y e = absurd (cc)

pub not_pushed : {A : Type 0} (o : Operand) (x y : A) → if_pushed o false true ≡ true → if_pushed o x y ≡ y
not_pushed pushed x y e = absurd (cc)
not_pushed (number n) x y e = refl
not_pushed (variable z) x y e = refl

-- no evaluation changes a variable
still : (v : Value) (x : Variable) → is_in_place v ≡ true → changes x v ≡ false
still (source.number n) x e = refl
still (source.read y) x e = refl
still (source.prefixed op v) x e = still v x (go (alone v) e)
  where
    go : (o : Operand) → if_pushed (prefix_operand op o) false true ≡ true → if_pushed o false true ≡ true
    go pushed e = absurd (cc)
    go (variable y) e = absurd (cc)
    go (number n) e = refl
still v x e = absurd (cc)

all_still : (vs : Values) (x : Variable) → all_in_place vs ≡ true → change x vs ≡ false
all_still none x e = refl
all_still (more v vs) x e =
    let h = both_true (is_in_place v) (all_in_place vs) e in
    ap (λ b. b || change x vs) (still v x h.0) ∙ all_still vs x h.1

pub operand_placed : (v : Value) (later : Values) → all_in_place later ≡ true → operand_of v later ≡ alone v
operand_placed v later e = before_is v later ∙ go (alone v)
  where
    go : (o : Operand) → kept o later ≡ o
    go pushed = refl
    go (number n) = refl
    go (variable x) = ap (λ b. if b then pushed else variable x) (all_still later x e)

pub operands_placed : (vs : Values) → all_in_place vs ≡ true → operands_of vs ≡ alones vs
operands_placed none e = refl
operands_placed (more v vs) e =
    let h = both_true (is_in_place v) (all_in_place vs) e in
    ap (λ o. o ∷ operands_of vs) (operand_placed v vs h.1) ∙ ap (λ os. alone v ∷ os) (operands_placed vs h.1)

-- the operand for one that stands in place, before others that do
pub stays_placed : (v : Value) (vs : Values) → is_in_place v ≡ true → all_in_place vs ≡ true
    → if_pushed (operand_of v vs) false true ≡ true
stays_placed v vs e f = ap (λ o. if_pushed o false true) (operand_placed v vs f) ∙ e

-- nothing is pushed
pub nothing_pushed : (vs : Values) (at : ℕ) → all_in_place vs ≡ true → operands_items at vs ≡ []
nothing_pushed none at e = refl
nothing_pushed (more v vs) at e =
    let h = both_true (is_in_place v) (all_in_place vs) e in
    let o = operand_of v vs in
    ap (λ is. is ++ operands_items (at + operand_count v o) vs)
    (not_pushed o (value_items at v push) [] (stays_placed v vs h.0 h.1))
    ∙ nothing_pushed vs (at + operand_count v o) h.1

pub nothing_counted : (vs : Values) → all_in_place vs ≡ true → operands_count vs ≡ 0
nothing_counted none e = refl
nothing_counted (more v vs) e =
    let h = both_true (is_in_place v) (all_in_place vs) e in
    omega (
      arith,
      not_pushed (operand_of v vs) (value_count v push) 0 (stays_placed v vs h.0 h.1),
      nothing_counted vs h.1,
    )

-- The sides of `==`

pub direct_few : (a : Value) (bs : Values) → is_few bs ≡ true → is_direct a bs ≡ true
direct_few a bs e = ap (λ b. b || (is_in_place a && all_in_place bs)) e

pub direct_placed : (a : Value) (bs : Values) (placed : Bool) → is_few bs ≡ false
    → (is_in_place a && all_in_place bs) ≡ placed
    → is_direct a bs ≡ placed
direct_placed a bs placed e f = ap (λ b. b || (is_in_place a && all_in_place bs)) e ∙ f

-- more than three that are compared by instructions alone stand in place
pub placed : (a : Value) (bs : Values) → is_few bs ≡ false → is_direct a bs ≡ true
    → (is_in_place a ≡ true) × (all_in_place bs ≡ true)
placed a bs e f = both_true (is_in_place a) (all_in_place bs)
    (sym (ap (λ b. b || (is_in_place a && all_in_place bs)) e) ∙ f)

-- a left side that is pushed before more than three is compared on the stack
pub on_stack : (o : Operand) (a b : Value) (bs : Values) → nat_lt (count_of bs) 3 ≡ false → o ≡ first_operand a b bs
    → if_pushed o true false ≡ true → is_direct a (more b bs) ≡ false
on_stack o a b bs many is on = go (is_direct a (more b bs)) refl
  where
    go : (direct : Bool) → is_direct a (more b bs) ≡ direct → direct ≡ false
    go false e = refl
    go true e =
        let h = placed a (more b bs) (are_few b bs false many) e in
        let there : o ≡ operand_of a (more b bs) = is ∙ ap (λ t. if t then operand_of a (more b bs) else pushed) e in
        let none : if_pushed o true false ≡ false = ap (λ q. if_pushed q true false) there
        ∙ not_pushed (operand_of a (more b bs)) true false (stays_placed a (more b bs) h.0 h.1) in
        absurd (cc)

-- one that is not pushed is compared by instructions alone
pub in_instructions : (o : Operand) (a b : Value) (bs : Values) → o ≡ first_operand a b bs
    → if_pushed o true false ≡ false → is_direct a (more b bs) ≡ true
in_instructions o a b bs is off = go (is_direct a (more b bs)) refl
  where
    go : (direct : Bool) → is_direct a (more b bs) ≡ direct → direct ≡ true
    go true e = refl
    go false e =
        let there : o ≡ pushed = is ∙ ap (λ t. if t then operand_of a (more b bs) else pushed) e in
        let one : if_pushed o true false ≡ true = ap (λ q. if_pushed q true false) there in
        absurd (cc)

-- the operands that are chosen

pub left_few : (o : Operand) (a b : Value) (bs : Values) (few : Bool) → few ≡ nat_lt (count_of bs) 3 → few ≡ true
    → o ≡ operand_of a (more b bs) → o ≡ first_operand a b bs
left_few o a b bs few counted is e =
    e ∙ sym (ap (λ t. if t then operand_of a (more b bs) else pushed)
    (direct_few a (more b bs) (are_few b bs true (sym counted ∙ is))))

pub right_few : (o : Operand) (a b : Value) (bs : Values) (few : Bool) → few ≡ nat_lt (count_of bs) 3 → few ≡ true
    → o ≡ operand_of b bs → o ≡ second_operand a b bs
right_few o a b bs few counted is e =
    e ∙ sym (ap (λ t. if t then operand_of b bs else pushed)
    (direct_few a (more b bs) (are_few b bs true (sym counted ∙ is))))

pub left_each : (a b : Value) (bs : Values) (few stand : Bool) → few ≡ nat_lt (count_of bs) 3 → few ≡ false
    → stand ≡ (is_in_place a && all_in_place (more b bs)) → stand ≡ false → pushed ≡ first_operand a b bs
left_each a b bs few stand counted is there isnt =
    sym (ap (λ t. if t then operand_of a (more b bs) else pushed)
    (direct_placed a (more b bs) false (are_few b bs false (sym counted ∙ is)) (sym there ∙ isnt)))

pub right_each : (a b : Value) (bs : Values) (few stand : Bool) → few ≡ nat_lt (count_of bs) 3 → few ≡ false
    → stand ≡ (is_in_place a && all_in_place (more b bs)) → stand ≡ false → pushed ≡ second_operand a b bs
right_each a b bs few stand counted is there isnt =
    sym (ap (λ t. if t then operand_of b bs else pushed)
    (direct_placed a (more b bs) false (are_few b bs false (sym counted ∙ is)) (sym there ∙ isnt)))

pub left_placed : (o : Operand) (a b : Value) (bs : Values) (few stand : Bool) → few ≡ nat_lt (count_of bs) 3
    → few ≡ false → stand ≡ (is_in_place a && all_in_place (more b bs)) → stand ≡ true → o ≡ alone a
    → o ≡ first_operand a b bs
left_placed o a b bs few stand counted is there so e =
    let both = sym there ∙ so in
    let h = both_true (is_in_place a) (all_in_place (more b bs)) both in
    e ∙ sym (operand_placed a (more b bs) h.1)
    ∙ sym (ap (λ t. if t then operand_of a (more b bs) else pushed)
    (direct_placed a (more b bs) true (are_few b bs false (sym counted ∙ is)) both))

pub right_placed : (o : Operand) (a b : Value) (bs : Values) (few stand : Bool) → few ≡ nat_lt (count_of bs) 3
    → few ≡ false → stand ≡ (is_in_place a && all_in_place (more b bs)) → stand ≡ true → o ≡ alone b
    → o ≡ second_operand a b bs
right_placed o a b bs few stand counted is there so e =
    let both = sym there ∙ so in
    let h = both_true (is_in_place a) (all_in_place (more b bs)) both in
    let k = both_true (is_in_place b) (all_in_place bs) h.1 in
    e ∙ sym (operand_placed b bs k.1)
    ∙ sym (ap (λ t. if t then operand_of b bs else pushed)
    (direct_placed a (more b bs) true (are_few b bs false (sym counted ∙ is)) both))

-- Branches by an operand that equals one of others

pub same_length : (o : Operand) (os : List Operand) (at : ℕ) (when : Bool) (t : ℕ)
    → length (same_items o os at when t) ≡ same_count os
same_length o [] at when t = refl
same_length o (x ∷ []) at when t = refl
same_length o (x ∷ y ∷ []) at when t = refl
same_length o (x ∷ y ∷ z ∷ []) at when t = refl
same_length o (x ∷ y ∷ z ∷ u ∷ os) at when t =
    omega (arith, same_length o (u ∷ os) (at + 1) when t)

-- up to three others are compared by one
pub same_last : (o : Operand) (os : List Operand) (at : ℕ) (when : Bool) (t : ℕ) → length os ≤ 3
    → same_items o os at when t ≡ items.branch same (o ∷ os) when t ∷ []
same_last o [] at when t few = refl
same_last o (x ∷ []) at when t few = refl
same_last o (x ∷ y ∷ []) at when t few = refl
same_last o (x ∷ y ∷ z ∷ []) at when t few = refl
same_last o (x ∷ y ∷ z ∷ u ∷ os) at when t few = absurd (omega (arith, few))

pub operands_counted : (vs : Values) → length (operands_of vs) ≡ count_of vs
operands_counted none = refl
operands_counted (more v vs) = omega (arith, operands_counted vs)

pub few_counted : (o : Operand) (vs : Values) → nat_lt (count_of vs) 3 ≡ true → length (o ∷ operands_of vs) ≤ 3
few_counted o vs few = omega (arith, operands_counted vs, ltb-true _ _ few)

-- Operands of a list

alones_from : (xs : List code_value.Value) (i : ℕ) (x : code_value.Value) → i < length xs
    → alones (values_of (map value_of (drop i xs)))
    ≡ alone (value_of (slice_index_or xs i x)) ∷ alones (values_of (map value_of (drop (suc i) xs)))
alones_from [] i x h = absurd (omega (arith, h))
alones_from (y ∷ xs) zero x h = refl
alones_from (y ∷ xs) (suc i) x h = alones_from xs i x (omega (arith, h))

pub alone_next : (os os' : List code.Operand) (xs : List code_value.Value) (i : ℕ) (x : code_value.Value)
    (o : code.Operand) → i < length xs → x ≡ slice_index_or xs i x → as_operand o ≡ alone (value_of x)
    → os' ≡ os ++ o ∷ []
    → as_operands os' ++ alones (values_of (map value_of (drop (i + 1) xs)))
    ≡ as_operands os ++ alones (values_of (map value_of (drop i xs)))
alone_next os os' xs i x o lt is e e' =
    let j : suc i ≡ i + 1 = omega arith in
    let rest = alones (values_of (map value_of (drop (i + 1) xs))) in
    let here : alones (values_of (map value_of (drop i xs))) ≡ as_operand o ∷ rest =
    alones_from xs i x lt
    ∙ ap (λ n. alone (value_of (slice_index_or xs i x)) ∷ alones (values_of (map value_of (drop n xs)))) j
    ∙ ap (λ y. alone (value_of y) ∷ rest) (sym is) ∙ ap (λ p. p ∷ rest) (sym e) in
    ap (λ l. as_operands l ++ rest) e' ∙ ap (λ l. l ++ rest) (map-append as_operand os (o ∷ []))
    ∙ append_assoc (as_operands os) (as_operand o ∷ []) rest ∙ ap (λ l. as_operands os ++ l) (sym here)

pub alones_end : (os : List Operand) (xs : List code_value.Value) (i : ℕ) → length xs ≤ i
    → os ++ alones (values_of (map value_of (drop i xs))) ≡ os
alones_end os [] zero h = append-nil os
alones_end os [] (suc i) h = append-nil os
alones_end os (x ∷ xs) zero h = absurd (omega (arith, h))
alones_end os (x ∷ xs) (suc i) h = alones_end os xs i (omega (arith, h))
