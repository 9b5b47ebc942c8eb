-- Pages and their cells; and putting back what is kept of them.
use Rattle.std.proofs.Common.{◌≡◌, ℕ, zero, suc, ◌+◌, ◌-◌, ◌*◌, ◌/◌, ◌<◌, ◌≤◌, min, Bool, true, false, ◌||◌, eqb}
use Rattle.std.proofs.Common.{List, [], ◌∷◌, ◌++◌, length, map, get_or, set, refl, ap, sym, subst, ◌∙◌, arith}
use Rattle.std.proofs.Common.{append_assoc, slice_set, slice_index, ◌⊎◌, inl, inr}
use Rattle.std.specs.List.{All, AllByRecursion, IsDistinct, list_any, range_with_len, zip}
use Rattle.std.proofs.lemmas.Cmp.{nat_eq_equiv}
use Rattle.std.proofs.lemmas.Bool.{eq-eqb}
use Rattle.std.proofs.lemmas.Bool.Decides.{eqb_tells}
use Rattle.std.proofs.lemmas.List.{append-nil, set-set, set_comm, set-get_or, length-append, length-map}
use Rattle.std.proofs.lemmas.List.Folds.{list_any-append, list_any_at}
use Rattle.std.proofs.lemmas.List.FromFn.{length-range_with_len, get_or-range_with_len, map-range_with_len_more}
use Rattle.std.proofs.lemmas.Grind.{flat_map-append}
use Rattle.std.proofs.lemmas.Map.Keys.{IsDistinct-head, IsDistinct-tail, IsDistinct-cons, IsDistinct-push}
use Rattle.std.proofs.lemmas.Map.Steps.{length-le_from_distinct_below}
use Rattle.std.proofs.lemmas.List.Elements.{All-append, All-cons, All-nil}
use Rattle.journal.specs.Swap.{back, Fits, FitsCell}
use Rattle.journal.specs.Pages.{cells_of, keeps, page_cells, page_len}

-- numbers

pub page_len_is : (n p : ℕ) → page_len n p ≡ min 64 (n - p * 64)
unfolding page_len
page_len_is n p = refl

pub or_true : (x : Bool) → (x || true) ≡ true
or_true true = refl
or_true false = refl

pub or_false : (x : Bool) → (x || false) ≡ x
or_false true = refl
or_false false = refl

or_cases : (x y : Bool) → (x || y) ≡ true → (x ≡ true) ⊎ (y ≡ true)
or_cases true y h = inl refl
or_cases false y h = inr h

pub not_both : (x : Bool) → x ≡ true → x ≡ false → ⊥
not_both x p q = cc

-- zips

pub zip-append : (xs bs vs ws : List ℕ) → length vs ≡ length xs → zip (xs ++ bs) (vs ++ ws) ≡ zip xs vs ++ zip bs ws
zip-append [] bs [] ws p = refl
zip-append [] bs (v ∷ vs) ws p = absurd (omega (arith, p))
zip-append (a ∷ xs) bs [] ws p = absurd (omega (arith, p))
zip-append (a ∷ xs) bs (v ∷ vs) ws p = ap (λ (t : List (ℕ × ℕ)). (a, v) ∷ t)
    (zip-append xs bs vs ws (omega (arith, p)))

-- going back

pub back-append : (c : List ℕ) (xs ys : List (ℕ × ℕ)) → (back c (xs ++ ys)).cells ≡ (back (back c ys).cells xs).cells
back-append c [] ys = refl
back-append c (x ∷ xs) ys = ap (λ z. slice_set z x.0 x.1) (back-append c xs ys)

back_present : (c cs : List ℕ) → (back c (zip cs (map (slice_index c) cs))).cells ≡ c
back_present c [] = refl
back_present c (a ∷ cs) = ap (λ z. slice_set z a (slice_index c a)) (back_present c cs) ∙ set-get_or c a 0

-- going back from two stores that differ in one cell gives two that differ in no other
pub back_off : (c : List ℕ) (es : List (ℕ × ℕ)) (i v w : ℕ)
    → set (back (set c i v) es).cells i w ≡ set (back c es).cells i w
back_off c [] i v w = set-set c i v w
back_off c (e ∷ es) i v w =
    let x : List ℕ = (back (set c i v) es).cells in
    let y : List ℕ = (back c es).cells in
    let h : set x i w ≡ set y i w = back_off c es i v w in
    elim (eqb_tells i e.0) as (λ _. set (set x e.0 e.1) i w ≡ set (set y e.0 e.1) i w) [
      | inl s ↦ ap (λ (k : ℕ). set (set x k e.1) i w) (sym s.1) ∙ set-set x i e.1 w ∙ h ∙ sym (set-set y i e.1 w)
          ∙ ap (λ (k : ℕ). set (set y k e.1) i w) s.1
      | inr d ↦ sym (set_comm x i e.0 w e.1 d.1) ∙ ap (λ (z : List ℕ). set z e.0 e.1) h ∙ set_comm y i e.0 w e.1 d.1
    ]

-- a put to a cell that is kept leaves the beginning as it was
pub back_kept : (c cs vs : List ℕ) (i v : ℕ) → length vs ≡ length cs → list_any (eqb i) cs ≡ true
    → (back (set c i v) (zip cs vs)).cells ≡ (back c (zip cs vs)).cells
back_kept c [] vs i v p h = absurd (cc)
back_kept c (a ∷ cs) [] i v p h = absurd (omega (arith, p))
back_kept c (a ∷ cs) (w ∷ vs) i v p h =
    let es : List (ℕ × ℕ) = zip cs vs in
    let x : List ℕ = (back (set c i v) es).cells in
    let y : List ℕ = (back c es).cells in
    elim (eqb_tells i a) as (λ _. set x a w ≡ set y a w) [
      | inl s ↦ ap (λ (k : ℕ). set x k w) (sym s.1) ∙ back_off c es i v w ∙ ap (λ (k : ℕ). set y k w) s.1
      | inr d ↦ ap (λ (z : List ℕ). set z a w) (back_kept c cs vs i v (omega (arith, p)) (rw d.0 at h))
    ]

-- cells of pages

pub length-page_cells : (n p : ℕ) → length (page_cells n p) ≡ page_len n p
length-page_cells n p = length-range_with_len (p * 64) (page_len n p)

pub cells_of-push : (n : ℕ) (pages : List ℕ) (p : ℕ)
    → cells_of n (pages ++ p ∷ []) ≡ cells_of n pages ++ page_cells n p
cells_of-push n pages p = flat_map-append (page_cells n) pages (p ∷ [])
    ∙ ap (λ (t : List ℕ). cells_of n pages ++ t) (append-nil (page_cells n p))

pub in_run : (a m i : ℕ) → a ≤ i → i < a + m → list_any (eqb i) (range_with_len a m) ≡ true
in_run a m i low high =
    let here : i - a < m = omega arith in
    let j : ℕ = i - a in
    let e : get_or (range_with_len a m) (i - a) 0 ≡ a + (i - a) = get_or-range_with_len a m (i - a) 0 here in
    list_any_at (eqb i) (range_with_len a m) (i - a) 0 (omega (arith, length-range_with_len a m))
    (eq-eqb i _ (omega (arith, e)))

run_has : (a m i : ℕ) → list_any (eqb i) (range_with_len a m) ≡ true → (a ≤ i) × (i < a + m)
run_has a zero i h = absurd (cc)
run_has a (suc m) i h = elim (eqb_tells i a) as (λ _. (a ≤ i) × (i < a + suc m)) [
  | inl s ↦ (omega (arith, s.1), omega (arith, s.1))
  | inr d ↦ let r : (a + 1 ≤ i) × (i < a + 1 + m) = run_has (a + 1) m i (rw d.0 at h) in
      (omega (arith, r.0), omega (arith, r.1))
]

-- a cell of a kept page is kept
pub kept_cell : (n : ℕ) (pages : List ℕ) (i : ℕ) → i < n → keeps pages (i / 64) ≡ true
    → list_any (eqb i) (cells_of n pages) ≡ true
kept_cell n [] i lt h = absurd (cc)
kept_cell n (p ∷ ps) i lt h =
    let split : list_any (eqb i) (cells_of n (p ∷ ps))
    ≡ (list_any (eqb i) (page_cells n p) || list_any (eqb i) (cells_of n ps)) = list_any-append (eqb i)
    (page_cells n p) (cells_of n ps) in
    split ∙ elim (eqb_tells (i / 64) p) as
    (λ _. (list_any (eqb i) (page_cells n p) || list_any (eqb i) (cells_of n ps)) ≡ true) [
      | inl s ↦ let here : list_any (eqb i) (page_cells n p)
          ≡ true = in_run (p * 64) (page_len n p) i (omega (arith, s.1)) (omega (arith, s.1, page_len_is n p)) in ap
          (λ (t : Bool). t || list_any (eqb i) (cells_of n ps)) here
      | inr d ↦ ap (λ (t : Bool). list_any (eqb i) (page_cells n p) || t) (kept_cell n ps i lt (rw d.0 at h))
          ∙ or_true _
    ]

pub cell_kept : (n : ℕ) (pages : List ℕ) (i : ℕ) → list_any (eqb i) (cells_of n pages) ≡ true
    → (keeps pages (i / 64) ≡ true) × (i < n)
cell_kept n [] i h = absurd (cc)
cell_kept n (p ∷ ps) i h =
    let split : (list_any (eqb i) (page_cells n p) || list_any (eqb i) (cells_of n ps))
    ≡ true = sym (list_any-append (eqb i) (page_cells n p) (cells_of n ps)) ∙ h in
    elim (or_cases (list_any (eqb i) (page_cells n p)) (list_any (eqb i) (cells_of n ps)) split) as
    (λ _. (keeps (p ∷ ps) (i / 64) ≡ true) × (i < n)) [
      | inl s ↦ let r : (p * 64 ≤ i) × (i < p * 64 + page_len n p) = run_has (p * 64) (page_len n p) i s in (
        ap (λ (t : Bool). t || keeps ps (i / 64)) (eq-eqb (i / 64) p (omega (arith, r.0, r.1, page_len_is n p))),
        omega (arith, r.1, page_len_is n p),
      )
      | inr d ↦ let r : (keeps ps (i / 64) ≡ true) × (i < n) = cell_kept n ps i d in
          (ap (λ (t : Bool). eqb (i / 64) p || t) r.0 ∙ or_true _, r.1)
    ]

-- distinct pages have distinct cells

none_by_all : (k : ℕ) (xs : List ℕ) → list_any (eqb k) xs ≡ false → AllByRecursion (λ y. eqb k y ≡ false) xs
none_by_all k [] h = tt
none_by_all k (x ∷ xs) h = elim (eqb_tells k x) as
    (λ _. (eqb k x ≡ false) × AllByRecursion (λ y. eqb k y ≡ false) xs) [
      | inl s ↦ absurd (not_both _ (ap (λ (t : Bool). t || list_any (eqb k) xs) s.0) h)
      | inr d ↦ (d.0, none_by_all k xs (rw d.0 at h))
    ]

pub all_by_none : (k : ℕ) (xs : List ℕ) → AllByRecursion (λ y. eqb k y ≡ false) xs → list_any (eqb k) xs ≡ false
all_by_none k [] h = refl
all_by_none k (x ∷ xs) h = ap (λ (t : Bool). t || list_any (eqb k) xs) h.0 ∙ all_by_none k xs h.1

pub false_if : (x : Bool) → (x ≡ true → ⊥) → x ≡ false
false_if true h = absurd (h refl)
false_if false h = refl

distinct_run : (a m : ℕ) → IsDistinct eqb (range_with_len a m)
unfolding IsDistinct
distinct_run a zero = tt
distinct_run a (suc m) = (
  none_by_all a (range_with_len (a + 1) m) (false_if _ (λ t. omega (arith, run_has (a + 1) m a t))),
  distinct_run
      (a + 1) m,
)

distinct_append : (xs ys : List ℕ) → IsDistinct eqb xs → IsDistinct eqb ys
    → ((q : ℕ) → list_any (eqb q) xs ≡ true → list_any (eqb q) ys ≡ false) → IsDistinct eqb (xs ++ ys)
distinct_append [] ys dx dy h = dy
distinct_append (x ∷ xs) ys dx dy h =
    let here : list_any (eqb x) xs ≡ false = all_by_none x xs (IsDistinct-head eqb x xs dx) in
    let there : list_any (eqb x) ys ≡ false = h x (ap (λ (t : Bool). t || list_any (eqb x) xs) (eq-eqb x x refl)) in
    let none : list_any (eqb x) (xs ++ ys) ≡ false = list_any-append (eqb x) xs ys
    ∙ ap (λ (t : Bool). t || list_any (eqb x) ys) here ∙ there in
    IsDistinct-cons eqb x (xs ++ ys) (none_by_all x (xs ++ ys) none)
    (distinct_append xs ys (IsDistinct-tail eqb x xs dx) dy
    (λ q t. h q (ap (λ (s : Bool). eqb q x || s) t ∙ or_true _)))

pub distinct_cells : (n : ℕ) (pages : List ℕ) → IsDistinct eqb pages → IsDistinct eqb (cells_of n pages)
unfolding IsDistinct
distinct_cells n [] d = tt
distinct_cells n (p ∷ ps) d =
    let apart : keeps ps p ≡ false = all_by_none p ps (IsDistinct-head eqb p ps d) in
    distinct_append (page_cells n p) (cells_of n ps) (distinct_run (p * 64) (page_len n p))
    (distinct_cells n ps (IsDistinct-tail eqb p ps d)) (λ q t.
    let r : (p * 64 ≤ q) × (q < p * 64 + page_len n p) = run_has (p * 64) (page_len n p) q t in
    let page : q / 64 ≡ p = omega (arith, r.0, r.1, page_len_is n p) in
    false_if _ (λ s. not_both (keeps ps (q / 64)) (cell_kept n ps q s).0 (ap (λ (k : ℕ). keeps ps k) page ∙ apart)))

-- no more cells are kept than there are
pub length-cells_of-le : (n : ℕ) (pages : List ℕ) → IsDistinct eqb pages → length (cells_of n pages) ≤ n
length-cells_of-le n pages d = length-le_from_distinct_below (cells_of n pages) n (distinct_cells n pages d)
    (λ q h. (cell_kept n pages q h).1)

-- a page that is kept with the values that it has leaves the beginning as it was
pub back_kept_page : (c : List ℕ) (pages values : List ℕ) (p : ℕ) → length values ≡ length (cells_of (length c) pages)
    → (back c
    (zip (cells_of (length c) (pages ++ p ∷ []))
    (values ++ map (slice_index c) (page_cells (length c) p)))).cells
    ≡ (back c (zip (cells_of (length c) pages) values)).cells
back_kept_page c pages values p h =
    let cs : List ℕ = cells_of (length c) pages in
    let ps : List ℕ = page_cells (length c) p in
    let f : List ℕ = map (slice_index c) ps in
    ap (λ (t : List ℕ). (back c (zip t (values ++ f))).cells) (cells_of-push (length c) pages p)
    ∙ ap (λ (t : List (ℕ × ℕ)). (back c t).cells) (zip-append cs ps values f h)
    ∙ back-append c (zip cs values) (zip ps f)
    ∙ ap (λ (t : List ℕ). (back t (zip cs values)).cells) (back_present c ps)

-- distinct pages of a store of n cells, with a value for each cell
pub record HasValues (n : ℕ) (pages values : List ℕ) : Type 0 where
  pub distinct : IsDistinct eqb pages
  pub named : All (λ p. p * 64 < n) pages
  pub size : length values ≡ length (cells_of n pages)

pub paged_push : (n : ℕ) (pages values : List ℕ) (f : ℕ → ℕ) (p : ℕ) → HasValues n pages values → p * 64 < n
    → keeps pages p ≡ false → HasValues n (pages ++ p ∷ []) (values ++ map f (page_cells n p))
paged_push n pages values f p h named new =
    let size : length (values ++ map f (page_cells n p)) ≡ length (cells_of n (pages ++ p ∷ [])) =
    length-append values (map f (page_cells n p)) ∙ ap (λ (t : ℕ). length values + t) (length-map (page_cells n p) f)
    ∙ ap (λ (t : ℕ). t + length (page_cells n p)) h.size
    ∙ sym (ap (λ (t : List ℕ). length t) (cells_of-push n pages p)
    ∙ length-append (cells_of n pages) (page_cells n p)) in
    record {
      distinct = IsDistinct-push nat_eq_equiv pages p h.distinct new;
      named = All-append (λ q. q * 64 < n) pages (p ∷ []) h.named
          (All-cons (λ q. q * 64 < n) p [] named (All-nil (λ q. q * 64 < n)));
      size = size;
    }

run_fits : (n : ℕ) (b f : ℕ → ℕ) (a m : ℕ) → a + m ≤ n → ((k : ℕ) → a ≤ k → k < a + m → f k ≤ b k)
    → Fits n b (zip (range_with_len a m) (map f (range_with_len a m)))
run_fits n b f a zero lt h = All-nil (FitsCell n b)
run_fits n b f a (suc m) lt h =
    All-cons (FitsCell n b) (a, f a) (zip (range_with_len (a + 1) m) (map f (range_with_len (a + 1) m)))
    (omega arith, h a (omega arith) (omega arith))
    (run_fits n b f (a + 1) m (omega arith) (λ k low high. h k (omega (arith, low)) (omega (arith, high))))

pub fits_push : (n : ℕ) (b f : ℕ → ℕ) (pages values : List ℕ) (p : ℕ) → length values ≡ length (cells_of n pages)
    → Fits n b (zip (cells_of n pages) values) → p * 64 + page_len n p ≤ n
    → ((k : ℕ) → p * 64 ≤ k → k < p * 64 + page_len n p → f k ≤ b k)
    → Fits n b (zip (cells_of n (pages ++ p ∷ [])) (values ++ map f (page_cells n p)))
fits_push n b f pages values p size fits lt h =
    let cs : List ℕ = cells_of n pages in
    let ps : List ℕ = page_cells n p in
    let e : zip (cells_of n (pages ++ p ∷ [])) (values ++ map f ps) ≡ zip cs values ++ zip ps (map f ps) =
    ap (λ (t : List ℕ). zip t (values ++ map f ps)) (cells_of-push n pages p)
    ∙ zip-append cs ps values (map f ps) size in
    subst (λ (t : List (ℕ × ℕ)). Fits n b t) (sym e)
    (All-append (FitsCell n b) (zip cs values) (zip ps (map f ps)) fits
    (run_fits n b f (p * 64) (page_len n p) lt h))

pub run_more : (f : ℕ → ℕ) (a j v : ℕ) (old vs : List ℕ) → vs ≡ old ++ map f (range_with_len a j) → v ≡ f (a + j)
    → vs ++ v ∷ [] ≡ old ++ map f (range_with_len a (j + 1))
run_more f a j v old vs h e =
    ap (λ (t : List ℕ). t ++ v ∷ []) h ∙ append_assoc old (map f (range_with_len a j)) (v ∷ [])
    ∙ ap (λ (t : ℕ). old ++ (map f (range_with_len a j) ++ t ∷ [])) e
    ∙ ap (λ (t : List ℕ). old ++ t) (sym (map-range_with_len_more f a j (a + j) refl))

pub below_next : (f b : ℕ → ℕ) (a j : ℕ) → ((k : ℕ) → a ≤ k → k < a + j → f k ≤ b k) → f (a + j) ≤ b (a + j)
    → (k : ℕ) → a ≤ k → k < a + (j + 1) → f k ≤ b k
below_next f b a j h here k low high = elim (eqb_tells k (a + j)) as (λ _. f k ≤ b k) [
  | inl s ↦ subst (λ (t : ℕ). f t ≤ b t) (sym s.1) here
  | inr d ↦ h k low (omega (arith, d.1, high))
]
