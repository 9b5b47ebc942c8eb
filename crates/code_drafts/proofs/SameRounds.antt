-- The rounds of a loop over groups of three operands, from the last to the first.
use Rattle.std.proofs.Common.{◌≡◌, ℕ, ◌+◌, ◌-◌, ◌*◌, ◌<◌, ◌≤◌, List, [], ◌∷◌, ◌++◌, length, drop, take}
use Rattle.std.proofs.Common.{Bool, true, false, refl, sym, ap, subst, ◌∙◌, arith, length-append}
use Rattle.std.specs.Prelude.{if◌then◌else◌}
use Rattle.std.proofs.lemmas.List.{length-map, length-drop, drop-drop, take_rest}
use Rattle.code_drafts.specs.Items.{Item, Operand, same, same_count, same_items}
use Rattle.code_drafts.specs.Items as items
use Rattle.code_drafts.specs.declared.item.Operand as code
use Rattle.code_drafts.specs.Code.{as_operand, as_operands}
use Rattle.code_drafts.specs.Writing.{WritesBefore}
use Rattle.code_drafts.proofs.InPlace.{same_length, same_last}
use Rattle.code_drafts.proofs.WrittenItems.{one, counted, as_items, then_one}

-- the last group
pub last_group : (c c1 : List Item) (o : Operand) (os : List code.Operand) (when : Bool) (target : ℕ) → length os ≤ 3
    → c1 ≡ c ++ items.branch same (o ∷ as_operands os) when target ∷ []
    → WritesBefore c c1 (λ n at. same_items o (as_operands os) at when (n - target))
last_group c c1 o os when target few e =
    as_items (λ n at _. sym (same_last o (as_operands os) at when (n - target) (omega (
      arith,
      few,
      length-map os as_operand,
    )))) (one c c1 (items.branch same (o ∷ as_operands os) when target) e)

-- a group before others
group_before : (c c1 c2 : List Item) (o : Operand) (os : List code.Operand) (when : Bool) (target end : ℕ)
    → 3 < length os → end ≡ length c
    → WritesBefore c c1 (λ n at. same_items o (as_operands (drop 3 os)) at when (n - target))
    → c2 ≡ c1 ++ items.branch same (o ∷ as_operands (take 3 os)) true (if when then target else end) ∷ []
    → WritesBefore c c2 (λ n at. same_items o (as_operands os) at when (n - target))
group_before c c1 c2 o [] when target end many there w e = absurd (omega (arith, many))
group_before c c1 c2 o (x ∷ []) when target end many there w e = absurd (omega (arith, many))
group_before c c1 c2 o (x ∷ y ∷ []) when target end many there w e = absurd (omega (arith, many))
group_before c c1 c2 o (x ∷ y ∷ z ∷ []) when target end many there w e = absurd (omega (arith, many))
group_before c c1 c2 o (x ∷ y ∷ z ∷ u ∷ os) when target end many there w e =
    as_items (λ n at h.
    ap (λ m. items.branch same (o ∷ as_operands (x ∷ y ∷ z ∷ [])) true m
    ∷ same_items o (as_operands (u ∷ os)) (at + 1) when (n - target)) (leads when n at h))
    (then_one (items.branch same (o ∷ as_operands (x ∷ y ∷ z ∷ [])) true (if when then target else end)) w e)
  where
    others : ℕ
    others = same_count (as_operands (u ∷ os))

    long : length c1 ≡ length c + others
    long = counted others (λ n at. same_length o (as_operands (u ∷ os)) at when (n - target)) w

    longer : length c2 ≡ length c1 + 1
    longer = ap length e ∙ length-append c1 _

    leads : (b : Bool) (n at : ℕ) → at + length c2 ≡ n
        → n - (if b then target else end) ≡ (if b then n - target else at + 1 + others)
    leads true n at h = refl
    leads false n at h = omega (arith, there, long, longer, h)

-- the first round is that of the last group
pub round_begins : (c c1 : List Item) (o : Operand) (xs : List code.Operand) (when : Bool) (target count : ℕ)
    → length xs ≤ 3 * count + 3
    → c1 ≡ c ++ items.branch same (o ∷ as_operands (take (length xs - 3 * count) (drop (3 * count) xs))) when target
    ∷ []
    → WritesBefore c c1 (λ n at. same_items o (as_operands (drop (3 * (count - 0)) xs)) at when (n - target))
round_begins c c1 o xs when target count many e =
    let is : 3 * count ≡ 3 * (count - 0) = omega arith in
    subst (λ k. WritesBefore c c1 (λ n at. same_items o (as_operands (drop k xs)) at when (n - target))) is
    (last_group c c1 o (drop (3 * count) xs) when target (omega (arith, length-drop (3 * count) xs, many))
    (e ∙ ap (λ os. c ++ items.branch same (o ∷ as_operands os) when target ∷ []) (take_rest xs (3 * count))))

pub same_round : (c c1 c2 : List Item) (o : Operand) (xs : List code.Operand) (when : Bool)
    (target end found count done first size : ℕ) → done < count → 3 * count ≤ length xs - 1 → end ≡ length c
    → found ≡ (if when then target else end) → first ≡ 3 * (count - 1 - done) → size ≡ 3
    → WritesBefore c c1 (λ n at. same_items o (as_operands (drop (3 * (count - done)) xs)) at when (n - target))
    → c2 ≡ c1 ++ items.branch same (o ∷ as_operands (take size (drop first xs))) true found ∷ []
    → WritesBefore c c2 (λ n at. same_items o (as_operands (drop (3 * (count - (done + 1))) xs)) at when (n - target))
same_round c c1 c2 o xs when target end found count done first size lt within there is at three w e =
    let here : first ≡ 3 * (count - (done + 1)) = omega (arith, at) in
    let next : 3 * (count - done) ≡ first + 3 = omega (arith, at, lt) in
    let P : List code.Operand → Type 0 =
    λ os. WritesBefore c c1 (λ n at. same_items o (as_operands os) at when (n - target)) in
    let Q : ℕ → Type 0 =
    λ k. WritesBefore c c2 (λ n at. same_items o (as_operands (drop k xs)) at when (n - target)) in
    let others = subst P (ap (λ k. drop k xs) next ∙ sym (drop-drop 3 first xs)) w in
    subst Q here (group_before c c1 c2 o (drop first xs) when target end
    (omega (arith, length-drop first xs, at, lt, within)) there others
    (e ∙ ap (λ k. c1 ++ items.branch same (o ∷ as_operands (take k (drop first xs))) true found ∷ []) three
    ∙ ap (λ k. c1 ++ items.branch same (o ∷ as_operands (take 3 (drop first xs))) true k ∷ []) is))

-- the last round was that of the first group
pub groups_done : (c c1 : List Item) (o : Operand) (xs : List code.Operand) (when : Bool) (target count done : ℕ)
    → count ≤ done
    → WritesBefore c c1 (λ n at. same_items o (as_operands (drop (3 * (count - done)) xs)) at when (n - target))
    → WritesBefore c c1 (λ n at. same_items o (as_operands xs) at when (n - target))
groups_done c c1 o xs when target count done end w =
    let none : 3 * (count - done) ≡ 0 = omega (arith, end) in
    subst (λ k. WritesBefore c c1 (λ n at. same_items o (as_operands (drop k xs)) at when (n - target))) none w
