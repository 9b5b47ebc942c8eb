-- What is written for statements.
use Rattle.std.proofs.Common.{◌≡◌, ℕ, zero, suc, ◌+◌, ◌-◌, ◌<◌, List, [], ◌∷◌, ◌++◌, length, map, drop, slice_set}
use Rattle.std.proofs.Common.{slice_index_or, false, refl, sym, ap, ◌∙◌, arith, append_assoc, length-append}
use Rattle.std.specs.Prelude.{OnOk, Result, Ok, Err}
use Rattle.std.proofs.Math.Seq.{set-append_seam}
use Rattle.meaning.specs.declared.resolved.Printed as code_printed
use Rattle.meaning.specs.declared.resolved.Action as code_action
use Rattle.meaning.specs.Resolved.{Value, Printed, Action, Actions}
use Rattle.meaning.specs.Views.{actions_of, action_of, printed_of}
use Rattle.meaning.specs.Resolved as source
use Rattle.code_drafts.specs.Items.{Item, Operand, alone, if_pushed, push, branch_count, value_count, value_items}
use Rattle.code_drafts.specs.Items.{branch_items, alone_items, left_of, operand_count}
use Rattle.code_drafts.specs.Items as items
use Rattle.code_drafts.specs.declared.wanted.Wanted.TheVariants.{Branch}
use Rattle.code_drafts.specs.Writing.{in_order, wanted_items, WritesBefore}
use Rattle.code_drafts.proofs.Counts.{branch_length}
use Rattle.code_drafts.proofs.WrittenItems.{in_order_append, one, counted, both, as_items, then_one, after_one}
use Rattle.code_items.specs.ValueWriting.{pushes}
use Rattle.code_items.proofs.Values.{pushes_length}
use Rattle.code_items.specs.Statements.{printed_count, prints_count, action_count, printed_items, prints_items}
use Rattle.code_items.specs.Statements.{actions_count, action_items, actions_items, return_true}
use Rattle.code_items.specs.Statements as statements
use Rattle.code_items.specs.declared.exits.Exits.{Exits}
use Rattle.code_items.specs.Writing.{taken_items, exits_of}
use Rattle.code_items.proofs.StatementCounts.{printed_length, prints_length, action_length, actions_length}

pub end_more : (c c1 c2 : List Item) → c1 ≡ c ++ return_true ∷ [] → c2 ≡ c1 ++ items.new_line ∷ []
    → WritesBefore c c2 (λ n at. items.new_line ∷ return_true ∷ [])
end_more c c1 c2 e1 e2 = then_one items.new_line (one c c1 return_true e1) e2

pub after_more : (c c1 c2 : List Item) (o : Operand) (i : Item) (v : Value) → c1 ≡ c ++ i ∷ []
    → WritesBefore c1 c2 (pushes o v) → WritesBefore c c2 (taken_items o i v)
after_more c c1 c2 o i v e w = after_one (if_pushed o (value_count v push) 0) i (λ n at. pushes_length o v n at) e w

pub text_more : (c c1 c2 : List Item) (x : Exits) (bytes : List ℕ) → WritesBefore c c1
    (λ n at. items.new_line ∷ return_true ∷ []) → c2
    ≡ c1 ++ items.print_text bytes ∷ [] → WritesBefore c c2
    (λ n at. action_items (exits_of n x) at (source.text_alone bytes))
text_more c c1 c2 x bytes w e = then_one (items.print_text bytes) w e

pub print_return_more : (c c1 c2 : List Item) (x : Exits) (is : List Printed)
    → WritesBefore c c1 (λ n at. items.new_line ∷ return_true ∷ []) → WritesBefore c1 c2 (λ n at. prints_items at is)
    → WritesBefore c c2 (λ n at. action_items (exits_of n x) at (source.print_return is))
print_return_more c c1 c2 x is v w = both (prints_count is) (λ n at. prints_length is at) v w

pub return_more : (c c1 : List Item) (o : Operand) (v : Value) → o
    ≡ alone v → WritesBefore c c1 (taken_items o (items.return o) v)
    → WritesBefore c c1 (λ n at. alone_items at v ++ items.return (alone v) ∷ [])
return_more c c1 o v e w =
    as_items (λ n at _. ap (λ x. if_pushed x (value_items at v push) [] ++ items.return x ∷ []) e) w

-- both objects, and then the first goes into the second
pub move_more : (c c1 c2 : List Item) (o ow : Operand) (v w : Value) → o ≡ left_of v w → ow ≡ alone w
    → WritesBefore c c1 (taken_items ow (items.move_object o ow) w) → WritesBefore c1 c2 (pushes o v)
    → WritesBefore c c2 (λ n at. if_pushed (left_of v w) (value_items at v push) []
    ++ (if_pushed (alone w) (value_items (at + operand_count v (left_of v w)) w push) []
    ++ items.move_object (left_of v w) (alone w) ∷ []))
move_more c c1 c2 o ow v w eo ew wt wv =
    as_items (λ n at _. ap (λ x. whole x ow at) eo ∙ ap (λ y. whole (left_of v w) y at) ew)
    (both (if_pushed o (value_count v push) 0) (λ n at. pushes_length o v n at) wt wv)
  where
    whole : Operand → Operand → ℕ → List Item
    whole x y at = if_pushed x (value_items at v push) []
        ++ (if_pushed y (value_items (at + if_pushed x (value_count v push) 0) w push) []
        ++ items.move_object x y ∷ [])

pub if_more : (c c1 c2 : List Item) (x : Exits) (v : Value) (a : Action) (end : ℕ) → end
    ≡ length c → WritesBefore c c1 (λ n at. action_items (exits_of n x) at a)
    → WritesBefore c1 c2 (wanted_items (Branch false end) v)
    → WritesBefore c c2 (λ n at. action_items (exits_of n x) at (source.if_then v a))
if_more c c1 c2 x v a end ee wa wv =
    let k = branch_count v false in
    let l1 = counted (action_count a) (λ n at. action_length (exits_of n x) a at) wa in
    let l2 = counted k (λ n at. branch_length v false at (n - end)) wv in
    as_items (λ n at h. let t : n - end ≡ at + k + action_count a = omega (arith, h, l1, l2, ee) in
    ap (λ t. branch_items at v false t ++ action_items (exits_of n x) (at + k) a) t)
    (both k (λ n at. branch_length v false at (n - end)) wa wv)

pub else_more : (c c1 c2 c3 c4 : List Item) (x : Exits) (v : Value) (a b : Action) (end next : ℕ) → end
    ≡ length c → WritesBefore c c1 (λ n at. action_items (exits_of n x) at b) → next ≡ length c1 → c2 ≡ c1
    ++ items.jump end ∷ []
    → WritesBefore c2 c3 (λ n at. action_items (exits_of n x) at a)
    → WritesBefore c3 c4 (wanted_items (Branch false next) v)
    → WritesBefore c c4 (λ n at. action_items (exits_of n x) at (source.if_else v a b))
else_more c c1 c2 c3 c4 x v a b end next ee wb en e wa wv =
    let k = branch_count v false in
    let m = action_count a in
    let lb = counted (action_count b) (λ n at. action_length (exits_of n x) b at) wb in
    let wj = then_one (items.jump end) wb e in
    let l2 = counted 1 (λ n at. refl) (one c1 c2 (items.jump end) e) in
    let l3 = counted m (λ n at. action_length (exits_of n x) a at) wa in
    let l4 = counted k (λ n at. branch_length v false at (n - next)) wv in
    as_items (λ n at h.
    let t : n - next ≡ at + k + m + 1 = omega (arith, h, l2, l3, l4, en) in
    let j : n - end ≡ at + k + m + 1 + action_count b = omega (arith, h, lb, l2, l3, l4, ee) in
    ap (λ t. branch_items at v false t
    ++ (action_items (exits_of n x) (at + k) a ++ items.jump (n - end)
    ∷ action_items (exits_of n x) (at + k + m + 1) b)) t
    ∙ ap (λ j. branch_items at v false (at + k + m + 1)
    ++ (action_items (exits_of n x) (at + k) a ++ items.jump j
    ∷ action_items (exits_of n x) (at + k + m + 1) b)) j)
    (both k (λ n at. branch_length v false at (n - next))
    (both m (λ n at. action_length (exits_of n x) a at) wj wa) wv)

pub while_more : (c c1 c2 c3 c4 : List Item) (v : Value) (a : Action) (x : Exits) → x.breaks ≡ length c → c1
    ≡ c ++ items.back 0 ∷ [] → x.continues ≡ length c1 → WritesBefore c1 c2 (λ n at. action_items (exits_of n x) at a)
    → WritesBefore c2 c3 (wanted_items (Branch false x.breaks) v)
    → c4 ≡ slice_set c3 x.breaks (items.back (length c3)) → (y : Exits)
    → WritesBefore c c4 (λ n at. action_items (exits_of n y) at (source.while_do v a))
while_more c c1 c2 c3 c4 v a x ee e1 ec wa wv e4 y =
    let k = branch_count v false in
    let m = action_count a in
    let end = x.breaks in
    let there = items.back (length c3) in
    let w = both k (λ n at. branch_length v false at (n - end)) wa wv in
    let l1 = counted 1 (λ n at. refl) (one c c1 (items.back 0) e1) in
    let l2 = counted m (λ n at. action_length (exits_of n x) a at) wa in
    let l3 = counted k (λ n at. branch_length v false at (n - end)) wv in
    let whole : c3 ≡ c ++ items.back 0 ∷ w.more = w.is ∙ ap (λ l. l ++ w.more) e1
    ∙ append_assoc c (items.back 0 ∷ []) w.more in
    let led : c4 ≡ c ++ there ∷ w.more = e4 ∙ ap (λ l. slice_set l end there) whole
    ∙ ap (λ i. slice_set (c ++ items.back 0 ∷ w.more) i there) ee ∙ set-append_seam c (items.back 0) w.more there in
    let l4 : length c4 ≡ length c3 = ap length led
    ∙ omega (arith, length-append c (there ∷ w.more), length-append c (items.back 0 ∷ w.more))
    ∙ sym (ap length whole) in
    let w4 : WritesBefore (c ++ there ∷ []) c4 (λ n at. branch_items at v false (n - end)
    ++ action_items (exits_of n x) (at + k) a) =
    record {
      more = w.more;
      is = led ∙ sym (append_assoc c (there ∷ []) w.more);
      are =
          λ n le. w.are n (omega (arith, le, l4))
          ∙ ap (λ i. branch_items (n - i) v false (n - end) ++ action_items (exits_of n x) (n - i + k) a) (sym l4);
    } in
    as_items (λ n at h.
    let t : n - end ≡ at + k + m + 1 = omega (arith, h, l1, l2, l3, l4, ee) in
    let s : n - x.continues ≡ at + k + m = omega (arith, h, l1, l2, l3, l4, ec) in
    let b : n - length c3 ≡ at = omega (arith, h, l4) in
    ap (λ t. (branch_items at v false t ++ action_items (statements.exits_to (n - x.continues) t) (at + k) a)
    ++ items.back (n - length c3) ∷ []) t
    ∙ ap (λ s. (branch_items at v false (at + k + m + 1)
    ++ action_items (statements.exits_to s (at + k + m + 1)) (at + k) a) ++ items.back (n - length c3) ∷ []) s
    ∙ ap (λ b. (branch_items at v false (at + k + m + 1)
    ++ action_items (statements.exits_to (at + k + m) (at + k + m + 1)) (at + k) a) ++ items.back b ∷ []) b
    ∙ append_assoc (branch_items at v false (at + k + m + 1))
    (action_items (statements.exits_to (at + k + m) (at + k + m + 1)) (at + k) a) (items.back at ∷ []))
    (both (k + m) (λ n at. omega (
      arith,
      length-append (branch_items at v false (n - end)) (action_items (exits_of n x) (at + k) a),
      branch_length v false at
          (n - end),
      action_length (exits_of n x) a (at + k),
    )) (one c (c ++ there ∷ []) there refl) w4)

-- Lists, from the last to the first

actions_from : (e : statements.Exits) (xs : List code_action.Action) (i : ℕ) (x : code_action.Action) (at : ℕ)
    → i < length xs → actions_items e at (actions_of (map action_of (drop i xs)))
    ≡ action_items e at (action_of (slice_index_or xs i x))
    ++ actions_items e (at + action_count (action_of (slice_index_or xs i x)))
    (actions_of (map action_of (drop (suc i) xs)))
actions_from e [] i x at h = absurd (omega (arith, h))
actions_from e (y ∷ xs) zero x at h = refl
actions_from e (y ∷ xs) (suc i) x at h = actions_from e xs i x at (omega (arith, h))

pub action_next : (c c1 c2 : List Item) (e : Exits) (xs : List code_action.Action) (i : ℕ) (x : code_action.Action)
    → i < length xs
    → x ≡ slice_index_or xs i x
    → WritesBefore c c1 (λ n at. actions_items (exits_of n e) at (actions_of (map action_of (drop (i + 1) xs))))
    → WritesBefore c1 c2 (λ n at. action_items (exits_of n e) at (action_of x))
    → WritesBefore c c2 (λ n at. actions_items (exits_of n e) at (actions_of (map action_of (drop i xs))))
action_next c c1 c2 e xs i x lt is many w =
    let j : i + 1 ≡ suc i = omega arith in
    as_items (λ n at _. ap (λ k. item_at (exits_of n e) x k at) j
    ∙ ap (λ (y : code_action.Action). item_at (exits_of n e) y (suc i) at) is
    ∙ sym (actions_from (exits_of n e) xs i x at lt))
    (both (action_count (action_of x)) (λ n at. action_length (exits_of n e) (action_of x) at) many w)
  where
    item_at : statements.Exits → code_action.Action → ℕ → ℕ → List Item
    item_at out y k at = action_items out at (action_of y) ++ actions_items out (at + action_count (action_of y))
        (actions_of (map action_of (drop k xs)))

prints_from : (xs : List code_printed.Printed) (i : ℕ) (x : code_printed.Printed) (at : ℕ) → i < length xs
    → prints_items at (map printed_of (drop i xs)) ≡ printed_items at (printed_of (slice_index_or xs i x))
    ++ prints_items (at + printed_count (printed_of (slice_index_or xs i x))) (map printed_of (drop (suc i) xs))
prints_from [] i x at h = absurd (omega (arith, h))
prints_from (y ∷ xs) zero x at h = refl
prints_from (y ∷ xs) (suc i) x at h = prints_from xs i x at (omega (arith, h))

pub printed_next : (c c1 c2 : List Item) (xs : List code_printed.Printed) (i : ℕ) (x : code_printed.Printed)
    → i < length xs → x
    ≡ slice_index_or xs i x → WritesBefore c c1 (λ n at. prints_items at (map printed_of (drop (i + 1) xs)))
    → WritesBefore c1 c2 (λ n at. printed_items at (printed_of x))
    → WritesBefore c c2 (λ n at. prints_items at (map printed_of (drop i xs)))
printed_next c c1 c2 xs i x lt is many w =
    let j : i + 1 ≡ suc i = omega arith in
    as_items (λ n at _. ap (λ k. item_at x k at) j ∙ ap (λ (y : code_printed.Printed). item_at y (suc i) at) is
    ∙ sym (prints_from xs i x at lt))
    (both (printed_count (printed_of x)) (λ n at. printed_length (printed_of x) at) many w)
  where
    item_at : code_printed.Printed → ℕ → ℕ → List Item
    item_at y k at = printed_items at (printed_of y) ++ prints_items (at + printed_count (printed_of y))
        (map printed_of (drop k xs))

-- The whole

pub routine_more : (c c1 code : List Item) (x : Exits) (locals : ℕ) (xs : Actions) → c ≡ [] ++ return_true ∷ []
    → WritesBefore c c1 (λ n at. actions_items (exits_of n x) at xs) → x.breaks ≡ length c → x.continues ≡ length c
    → code ≡ in_order (length c1) c1 → code ≡ statements.routine_items (record { locals = locals; body = xs })
routine_more c c1 code x locals xs e w eb es ec =
    let n = length c1 in
    let k = actions_count xs in
    let none : n - n ≡ 0 = omega arith in
    let l = counted k (λ n at. actions_length (exits_of n x) xs at) w in
    let b : n - x.breaks ≡ k = omega (arith, l, eb) in
    let s : n - x.continues ≡ k = omega (arith, l, es) in
    ec ∙ ap (in_order n) (w.is ∙ ap (λ l. l ++ w.more) e) ∙ whole w.more
    ∙ ap (λ l. l ++ return_true ∷ []) (w.are n (omega arith))
    ∙ ap (λ at. actions_items (exits_of n x) at xs ++ return_true ∷ []) none
    ∙ ap (λ b. actions_items (statements.exits_to (n - x.continues) b) 0 xs ++ return_true ∷ []) b
    ∙ ap (λ s. actions_items (statements.exits_to s k) 0 xs ++ return_true ∷ []) s
  where
    whole : (more : List Item) → in_order (length c1) ((return_true ∷ []) ++ more)
        ≡ in_order (length c1) more ++ return_true ∷ []
    whole more = in_order_append (length c1) (return_true ∷ []) more

-- ---- what was written, by what it is called

pub on_ok : {T E P Q : Type 0} (result : Result T E) → (P → Q) → OnOk result P → OnOk result Q
on_ok (Ok x) more h = more h
on_ok (Err e) more h = tt
