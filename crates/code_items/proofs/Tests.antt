-- What is written for the tests of a case.
use Rattle.std.proofs.Common.{◌≡◌, ℕ, zero, suc, ◌+◌, ◌-◌, ◌<◌, ◌≤◌, List, [], ◌∷◌, ◌++◌, length, map, take, drop}
use Rattle.std.proofs.Common.{reverse, slice_index_or, Bool, false, refl, sym, ap, subst, ◌∙◌, arith}
use Rattle.std.specs.Prelude.{◌==◌}
use Rattle.std.proofs.lemmas.Bool.{eqb-false}
use Rattle.std.proofs.lemmas.List.{map-append, reverse-append, take_more, take_all}
use Rattle.code_drafts.specs.Items.{Item}
use Rattle.code_items.specs.Statements.{Group, group_count, group_items, tests_items}
use Rattle.code_items.specs.declared.group.Group as code_group
use Rattle.code_items.specs.Code.{group_of}
use Rattle.code_drafts.specs.Writing.{WritesBefore}
use Rattle.code_items.proofs.StatementCounts.{group_length}
use Rattle.code_drafts.proofs.WrittenItems.{both, as_items}

pub not_empty : (b : Bool) (n : ℕ) → b ≡ (n == 0) → b ≡ false → 0 < n
not_empty b zero e is = absurd (eqb-false 0 0 (sym e ∙ is) refl)
not_empty b (suc n) e is = omega arith

-- a group before others, of which the last one is known
before_last : (g last : Group) (gs : List Group) (at inside behind : ℕ)
    → group_items at g inside ++ tests_items (at + group_count g) (gs ++ last ∷ []) inside behind
    ≡ tests_items at (g ∷ gs ++ last ∷ []) inside behind
before_last g last [] at inside behind = refl
before_last g last (h ∷ gs) at inside behind = refl

-- groups from the last to the first, and one more
turned : (xs : List code_group.Group) (i : ℕ) (x : code_group.Group) → i < length xs → x ≡ slice_index_or xs i x
    → reverse (map group_of (take (i + 1) xs)) ≡ group_of x ∷ reverse (map group_of (take i xs))
turned xs i x lt is =
    ap (λ l. reverse (map group_of l)) (take_more xs i x lt)
    ∙ ap (λ (y : code_group.Group). reverse (map group_of (take i xs ++ y ∷ []))) (sym is)
    ∙ ap reverse (map-append group_of (take i xs) (x ∷ []))
    ∙ reverse-append (map group_of (take i xs)) (group_of x ∷ [])

pub test_next : (c c1 c2 : List Item) (xs : List code_group.Group) (i : ℕ) (x : code_group.Group) (last : Group)
    (inside behind : ℕ) → i < length xs → x ≡ slice_index_or xs i x
    → WritesBefore c c1
    (λ n at. tests_items at (reverse (map group_of (take i xs)) ++ last ∷ []) (n - inside) (n - behind))
    → WritesBefore c1 c2 (λ n at. group_items at (group_of x) (n - inside))
    → WritesBefore c c2
    (λ n at. tests_items at (reverse (map group_of (take (i + 1) xs)) ++ last ∷ []) (n - inside) (n - behind))
test_next c c1 c2 xs i x last inside behind lt is before here =
    let gs = reverse (map group_of (take i xs)) in
    as_items (λ n at _. before_last (group_of x) last gs at (n - inside) (n - behind)
    ∙ ap (λ l. tests_items at (l ++ last ∷ []) (n - inside) (n - behind)) (sym (turned xs i x lt is)))
    (both (group_count (group_of x)) (λ n at. group_length (group_of x) at (n - inside)) before here)

-- all of them, of which the first that was written is the last
pub tests_whole : (c c1 : List Item) (xs : List code_group.Group) (x : code_group.Group) (gs : List Group)
    (i inside behind : ℕ) → 0 < length xs → x ≡ slice_index_or xs 0 x → reverse (map group_of xs) ≡ gs
    → length (take (length xs - 1) (drop 1 xs)) ≤ i
    → WritesBefore c c1
    (λ n at. tests_items at (reverse (map group_of (take i (take (length xs - 1) (drop 1 xs)))) ++ group_of x ∷ [])
    (n - inside) (n - behind))
    → WritesBefore c c1 (λ n at. tests_items at gs (n - inside) (n - behind))
tests_whole c c1 [] x gs i inside behind some is e le w = absurd (omega (arith, some))
tests_whole c c1 (y ∷ ys) x gs i inside behind some is e le w =
    let rest : take (length (y ∷ ys) - 1) ys ≡ ys = take_all (length (y ∷ ys) - 1) ys (omega arith) in
    let all : take i (take (length (y ∷ ys) - 1) ys) ≡ ys = take_all i (take (length (y ∷ ys) - 1) ys) le ∙ rest in
    let P : List Group → Type 0 = λ l. WritesBefore c c1 (λ n at. tests_items at l (n - inside) (n - behind)) in
    subst P (ap (λ l. reverse (map group_of l) ++ group_of x ∷ []) all
    ∙ ap (λ (z : code_group.Group). reverse (map group_of ys) ++ group_of z ∷ []) is
    ∙ sym (reverse-append (group_of y ∷ []) (map group_of ys)) ∙ e) w
