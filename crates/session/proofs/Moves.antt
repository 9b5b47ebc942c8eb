-- Going back and forward leaves the states as they are.
use Rattle.std.proofs.Common.{◌≡◌, ℕ, suc, ◌+◌, ◌-◌, ◌≤◌, ◌<◌, List, [], ◌∷◌, ◌++◌, length, get_or, set, take, drop}
use Rattle.std.proofs.Common.{reverse, refl, ap, sym, ◌∙◌, arith, append_assoc}
use Rattle.std.proofs.lemmas.List.{take_more, take-set, drop-set, drop_more, reverse-append, take_more_set}
use Rattle.std.proofs.lemmas.List.{drop-set-lt, length-append, length-reverse, length-take-le, length-drop, get_or_at}
use Rattle.std.proofs.lemmas.List.{take_all, drop_all, take_at, drop-append-le}
use Rattle.journal.specs.Swap.{back, forward, Swapped}
use Rattle.session.specs.Times.{all_cells, future, past}

pub cells_undo : (c c' : List ℕ) (r r' : List (ℕ × ℕ)) (rs : List (List (ℕ × ℕ))) (k : ℕ) → k < length rs
    → r ≡ get_or rs k r → c' ≡ (back c r).cells
    → forward c' r' ≡ record { cells = c; entries = r } → all_cells c' (set rs k r') k ≡ all_cells c rs (k + 1)
unfolding all_cells
cells_undo c c' r r' rs k lt is cells inverse =
    let front : reverse (take (k + 1) rs) ≡ r ∷ reverse (take k rs) = ap reverse (take_more rs k r lt)
    ∙ reverse-append (take k rs) (get_or rs k r ∷ []) ∙ ap (λ x. x ∷ reverse (take k rs)) (sym is) in
    let older = past c' (reverse (take k rs)) in
    let newer = future c (drop (k + 1) rs) in
    let left : past c' (reverse (take k (set rs k r'))) ≡ older = ap (λ x. past c' (reverse x)) (take-set rs k r') in
    let right : future c' (drop k (set rs k r')) ≡ c ∷ newer = ap (future c') (drop-set rs k r' lt)
    ∙ ap (λ (s : Swapped). s.cells ∷ future s.cells (drop (k + 1) rs)) inverse in
    let there : past c (reverse (take (k + 1) rs)) ≡ older ++ c' ∷ [] = ap (past c) front
    ∙ ap (λ x. past x (reverse (take k rs)) ++ x ∷ []) (sym cells) in
    ap (λ x. x ++ c' ∷ future c' (drop k (set rs k r'))) left ∙ ap (λ x. older ++ c' ∷ x) right
    ∙ sym (append_assoc older (c' ∷ []) (c ∷ newer)) ∙ ap (λ x. x ++ c ∷ newer) (sym there)

pub cells_redo : (c c' : List ℕ) (r r' : List (ℕ × ℕ)) (rs : List (List (ℕ × ℕ))) (k : ℕ) → k < length rs
    → r ≡ get_or rs k r → c' ≡ (forward c r).cells
    → back c' r' ≡ record { cells = c; entries = r } → all_cells c' (set rs k r') (k + 1) ≡ all_cells c rs k
unfolding all_cells
cells_redo c c' r r' rs k lt is cells inverse =
    let older = past c (reverse (take k rs)) in
    let newer = future c' (drop (k + 1) rs) in
    let front : reverse (take (k + 1) (set rs k r'))
    ≡ r' ∷ reverse (take k rs) = ap reverse (take_more_set rs k r' lt) ∙ reverse-append (take k rs) (r' ∷ []) in
    let there : past c' (reverse (take (k + 1) (set rs k r'))) ≡ older ++ c ∷ [] = ap (past c') front
    ∙ ap (λ (s : Swapped). past s.cells (reverse (take k rs)) ++ s.cells ∷ []) inverse in
    let behind : future c' (drop (k + 1) (set rs k r'))
    ≡ newer = ap (future c') (drop-set-lt (k + 1) rs k r' (omega arith)) in
    let rest : future c (drop k rs) ≡ c' ∷ newer = ap (future c)
    (drop_more rs k r lt ∙ ap (λ x. x ∷ drop (k + 1) rs) (sym is))
    ∙ ap (λ x. x ∷ future x (drop (k + 1) rs)) (sym cells) in
    ap (λ x. x ++ c' ∷ future c' (drop (k + 1) (set rs k r'))) there ∙ ap (λ x. (older ++ c ∷ []) ++ c' ∷ x) behind
    ∙ append_assoc older (c ∷ []) (c' ∷ newer) ∙ ap (λ x. older ++ c ∷ x) (sym rest)

length-past : (c : List ℕ) (rs : List (List (ℕ × ℕ))) → length (past c rs) ≡ length rs
length-past c [] = refl
length-past c (r ∷ rs) = omega
    (arith, length-append (past (back c r).cells rs) ((back c r).cells ∷ []), length-past (back c r).cells rs)

length-future : (c : List ℕ) (rs : List (List (ℕ × ℕ))) → length (future c rs) ≡ length rs
length-future c [] = refl
length-future c (r ∷ rs) = ap suc (length-future (forward c r).cells rs)

pub length-all_cells : (c : List ℕ) (rs : List (List (ℕ × ℕ))) (k : ℕ) → k ≤ length rs
    → length (all_cells c rs k) ≡ length rs + 1
unfolding all_cells
length-all_cells c rs k le =
    omega (
      arith,
      length-append (past c (reverse (take k rs))) (c ∷ future c (drop k rs)),
      length-past c
          (reverse (take k rs)),
      length-reverse (take k rs),
      length-take-le k rs le,
      length-future c (drop k rs),
      length-drop k rs,
    )

-- the present cells stand behind the records done
pub present_cells : (c : List ℕ) (rs : List (List (ℕ × ℕ))) (k : ℕ) (d : List ℕ) → k ≤ length rs
    → get_or (all_cells c rs k) k d ≡ c
unfolding all_cells
present_cells c rs k d le =
    get_or_at (past c (reverse (take k rs))) c (future c (drop k rs)) d k
    (length-past c (reverse (take k rs)) ∙ length-reverse (take k rs) ∙ length-take-le k rs le)

-- a turn more, and none after it
pub cells_taken : (c c' : List ℕ) (r : List (ℕ × ℕ)) (rs : List (List (ℕ × ℕ))) (k : ℕ) → k ≤ length rs
    → (back c' r).cells ≡ c
    → all_cells c' (take k rs ++ r ∷ []) (k + 1) ≡ take (k + 1) (all_cells c rs k) ++ c' ∷ []
unfolding all_cells
cells_taken c c' r rs k le is =
    let size : length (take k rs) ≡ k = length-take-le k rs le in
    let all : length (take k rs ++ r ∷ []) ≤ k + 1 = omega (arith, size, length-append (take k rs) (r ∷ [])) in
    let older = past c (reverse (take k rs)) in
    let newer = future c (drop k rs) in
    let front : reverse (take (k + 1) (take k rs ++ r ∷ []))
    ≡ r ∷ reverse (take k rs) = ap reverse (take_all (k + 1) (take k rs ++ r ∷ []) all)
    ∙ reverse-append (take k rs) (r ∷ []) in
    let there : past c' (reverse (take (k + 1) (take k rs ++ r ∷ []))) ≡ older ++ c ∷ [] = ap (past c') front
    ∙ ap (λ x. past x (reverse (take k rs)) ++ x ∷ []) is in
    let behind : future c' (drop (k + 1) (take k rs ++ r ∷ []))
    ≡ [] = ap (future c') (drop_all (k + 1) (take k rs ++ r ∷ []) all) in
    let long : length older ≡ k = length-past c (reverse (take k rs)) ∙ length-reverse (take k rs) ∙ size in
    let cut : take (k + 1) (older ++ c ∷ newer) ≡ older ++ c ∷ [] =
    ap (take (k + 1)) (sym (append_assoc older (c ∷ []) newer))
    ∙ take_at (older ++ c ∷ []) newer (k + 1) (omega (arith, long, length-append older (c ∷ []))) in
    ap (λ x. x ++ c' ∷ future c' (drop (k + 1) (take k rs ++ r ∷ []))) there
    ∙ ap (λ x. (older ++ c ∷ []) ++ c' ∷ x) behind ∙ ap (λ x. x ++ c' ∷ []) (sym cut)

past_older : (c : List ℕ) (r : List (ℕ × ℕ)) (rs : List (List (ℕ × ℕ))) → drop 1 (past c (rs ++ r ∷ [])) ≡ past c rs
past_older c r [] = refl
past_older c r (q ∷ rs) =
    let before = (back c q).cells in
    drop-append-le 1 (past before (rs ++ r ∷ [])) (before ∷ [])
    (omega (arith, length-past before (rs ++ r ∷ []), length-append rs (r ∷ [])))
    ∙ ap (λ x. x ++ before ∷ []) (past_older before r rs)

-- the oldest turn is given up
cells_older_by : (c : List ℕ) (r : List (ℕ × ℕ)) (rs : List (List (ℕ × ℕ))) (k : ℕ)
    → drop 1 (all_cells c (r ∷ rs) (suc k)) ≡ all_cells c rs k
unfolding all_cells
cells_older_by c r rs k =
    let turned : reverse (take (suc k) (r ∷ rs)) ≡ reverse (take k rs) ++ r ∷ [] =
    reverse-append (r ∷ []) (take k rs) in
    let newer = c ∷ future c (drop k rs) in
    ap (λ x. drop 1 (past c x ++ newer)) turned
    ∙ drop-append-le 1 (past c (reverse (take k rs) ++ r ∷ [])) newer
    (omega (arith, length-past c (reverse (take k rs) ++ r ∷ []), length-append (reverse (take k rs)) (r ∷ [])))
    ∙ ap (λ x. x ++ newer) (past_older c r (reverse (take k rs)))

pub cells_older : (c : List ℕ) (r : List (ℕ × ℕ)) (rs : List (List (ℕ × ℕ))) (k : ℕ) → 0 < k
    → all_cells c rs (k - 1) ≡ drop 1 (all_cells c (r ∷ rs) k)
cells_older c r rs k some =
    let e : suc (k - 1) ≡ k = omega arith in
    sym (ap (λ n. drop 1 (all_cells c (r ∷ rs) n)) (sym e) ∙ cells_older_by c r rs (k - 1))

-- a record keeps its size
pub length-back : (c : List ℕ) (es : List (ℕ × ℕ)) → length (back c es).entries ≡ length es
length-back c [] = refl
length-back c (e ∷ es) = ap suc (length-back c es)

pub length-forward : (c : List ℕ) (es : List (ℕ × ℕ)) → length (forward c es).entries ≡ length es
length-forward c [] = refl
length-forward c (e ∷ es) = ap suc (length-forward (set c e.0 e.1) es)
