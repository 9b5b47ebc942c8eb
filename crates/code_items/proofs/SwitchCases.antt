-- What is written for `switch`.
use Rattle.std.proofs.Common.{◌≡◌, ℕ, zero, suc, ◌+◌, ◌-◌, ◌<◌, List, [], ◌∷◌, ◌++◌, length, map, drop, slice_index_or}
use Rattle.std.proofs.Common.{Option, refl, sym, ap, subst, ◌∙◌, arith}
use Rattle.std.specs.Global.{Vec}
use Rattle.meaning.specs.declared.resolved.Span.{Span}
use Rattle.meaning.specs.declared.resolved.Action as code_action
use Rattle.meaning.specs.Resolved.{Value, RangeOf, Action, Actions, CasesOf}
use Rattle.meaning.specs.Views.{case_of, actions_of, action_of, range_of, cases_of}
use Rattle.meaning.specs.Resolved as source
use Rattle.code_drafts.specs.Items.{Item, aside, value_count, value_items}
use Rattle.code_drafts.specs.declared.draft.Draft.{Draft}
use Rattle.code_drafts.specs.Writing.{written_in, WritesBefore}
use Rattle.code_drafts.proofs.WrittenItems.{counted, both, as_items}
use Rattle.code_drafts.proofs.Counts.{value_length}
use Rattle.code_items.specs.Statements.{actions_count, cases_count, tests_count, over_count, groups_of, tests_items}
use Rattle.code_items.specs.Statements.{over_items, action_items, actions_items, cases_items}
use Rattle.code_items.specs.Statements as statements
use Rattle.code_items.specs.declared.exits.Exits.{Exits}
use Rattle.code_items.specs.Writing.{exits_of, cases_before, LeavesCases}
use Rattle.code_items.proofs.StatementCounts.{actions_length, cases_length, tests_length, over_length}

-- a case before others
pub case_more : (start c c1 c2 c3 : List Item) (x : Exits) (gs : List RangeOf) (xs : Actions) (later : CasesOf)
    (end inside behind : ℕ)
    → length start ≡ end → WritesBefore start c (λ n at. cases_items (exits_of n x) at later (n - end))
    → behind ≡ length c → WritesBefore c c1 (λ n at. over_items (length c - end) (n - end))
    → WritesBefore c1 c2 (λ n at. actions_items (exits_of n x) at xs) → inside ≡ length c2
    → WritesBefore c2 c3 (λ n at. tests_items at (groups_of gs) (n - inside) (n - behind))
    → WritesBefore start c3 (λ n at. cases_items (exits_of n x) at (source.case gs xs later) (n - end))
case_more start c c1 c2 c3 x gs xs later end inside behind es w eb wo wa ei wt =
    let k = cases_count later in
    let o = over_count k in
    let m = actions_count xs in
    let t = tests_count (groups_of gs) in
    let long_a = λ (n at : ℕ). actions_length (exits_of n x) xs at in
    let long_t = λ (n at : ℕ). tests_length (groups_of gs) at (n - inside) (n - behind) in
    let l = counted k (λ n at. cases_length (exits_of n x) later at (n - end)) w in
    let left : length c - end ≡ k = omega (arith, l, es) in
    let over : WritesBefore c c1 (λ n at. over_items k (n - end)) =
    as_items (λ n at h. ap (λ i. over_items i (n - end)) left) wo in
    let l1 = counted o (λ n at. over_length k (n - end)) over in
    let l2 = counted m long_a wa in
    let l3 = counted t long_t wt in
    as_items (λ n at h.
    let i : n - inside ≡ at + t = omega (arith, h, l3, ei) in
    let b : n - behind ≡ at + t + m + o = omega (arith, h, l1, l2, l3, eb) in
    let rest = actions_items (exits_of n x) (at + t) xs
    ++ (over_items k (n - end) ++ cases_items (exits_of n x) (at + t + m + o) later (n - end)) in
    ap (λ i. tests_items at (groups_of gs) i (n - behind) ++ rest) i
    ∙ ap (λ b. tests_items at (groups_of gs) (at + t) b ++ rest) b)
    (both t long_t (both m long_a (both o (λ n at. over_length k (n - end)) w over) wa) wt)

-- a case of the code
pub case_leaves : (old over body new : Draft) (x : Exits) (c : Vec Span × Vec code_action.Action)
    (end inside behind : ℕ)
    → behind ≡ length (written_in old)
    → WritesBefore (written_in old) (written_in over) (λ n at. over_items (length (written_in old) - end) (n - end))
    → WritesBefore (written_in over) (written_in body)
    (λ n at. actions_items (exits_of n x) at (actions_of (map action_of c.1.items)))
    → inside ≡ length (written_in body)
    → WritesBefore (written_in body) (written_in new)
    (λ n at. tests_items at (groups_of (map range_of c.0.items)) (n - inside) (n - behind))
    → LeavesCases old new x (c ∷ []) end
unfolding case_of
case_leaves old over body new x c end inside behind eb wo wa ei wt start later es w =
    case_more start _ _ _ _ x (map range_of c.0.items) (actions_of (map action_of c.1.items)) later
    end inside behind es w eb wo wa ei wt

cases_from : (cs : List (Vec Span × Vec code_action.Action)) (i : ℕ) (c : Vec Span × Vec code_action.Action)
    → i < length cs → drop i cs ≡ slice_index_or cs i c ∷ drop (suc i) cs
cases_from [] i c h = absurd (omega (arith, h))
cases_from (d ∷ cs) zero c h = refl
cases_from (d ∷ cs) (suc i) c h = cases_from cs i c (omega (arith, h))

pub case_next : (old mid new : Draft) (x : Exits) (cs : List (Vec Span × Vec code_action.Action)) (i : ℕ)
    (c : Vec Span × Vec code_action.Action) (end : ℕ) → i < length cs → c ≡ slice_index_or cs i c
    → LeavesCases old mid x (drop (i + 1) cs) end → LeavesCases mid new x (c ∷ []) end
    → LeavesCases old new x (drop i cs) end
case_next old mid new x cs i c end lt is many here =
    let j : suc i ≡ i + 1 = omega arith in
    let from : c ∷ drop (i + 1) cs ≡ drop i cs =
    sym (cases_from cs i c lt ∙ ap (λ k. slice_index_or cs i c ∷ drop k cs) j
    ∙ ap (λ (d : Vec Span × Vec code_action.Action). d ∷ drop (i + 1) cs) (sym is)) in
    let P : List (Vec Span × Vec code_action.Action) → Type 0 = λ l. LeavesCases old new x l end in
    subst P from (λ start later es w.
    here start (cases_before (map case_of (drop (i + 1) cs)) later) es (many start later es w))

pub cases_all : (cs : List (List RangeOf × Actions)) (other : Option (List Action))
    → cases_before cs (cases_of [] other) ≡ cases_of cs other
cases_all [] other = refl
cases_all (c ∷ cs) other = ap (source.case c.0 c.1) (cases_all cs other)

pub switch_more : (c c1 c2 : List Item) (x : Exits) (v : Value) (cs : CasesOf) (inside : Exits)
    → inside.breaks ≡ length c → inside.continues ≡ x.continues
    → WritesBefore c c1 (λ n at. cases_items (exits_of n inside) at cs (n - inside.breaks))
    → WritesBefore c1 c2 (λ n at. value_items at v aside)
    → WritesBefore c c2 (λ n at. action_items (exits_of n x) at (source.switch_on v cs))
switch_more c c1 c2 x v cs inside ee ec wc wv =
    let k = value_count v aside in
    let m = cases_count cs in
    let end = inside.breaks in
    let long_c = λ (n at : ℕ). cases_length (exits_of n inside) cs at (n - end) in
    let long_v = λ (n at : ℕ). value_length v aside at in
    let l1 = counted m long_c wc in
    let l2 = counted k long_v wv in
    as_items (λ n at h.
    let stop : n - end ≡ at + k + m = omega (arith, h, l1, l2, ee) in
    let rounds : n - inside.continues ≡ n - x.continues = ap (λ i. n - i) ec in
    ap (λ e. whole at (n - inside.continues) e) stop ∙ ap (λ r. whole at r (at + k + m)) rounds)
    (both k long_v wc wv)
  where
    whole : ℕ → ℕ → ℕ → List Item
    whole at behind stop = value_items at v aside
        ++ cases_items (statements.exits_to behind stop) (at + value_count v aside) cs stop
