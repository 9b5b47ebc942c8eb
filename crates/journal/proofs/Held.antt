-- What a turn holds: its pages, their values and the flags.
use Rattle.std.proofs.Common.{◌≡◌, ℕ, ◌+◌, ◌*◌, ◌/◌, ◌<◌, ◌≤◌, Bool, true, false, ◌||◌, eqb, List, [], ◌∷◌, ◌++◌}
use Rattle.std.proofs.Common.{length, map, get_or, set, refl, ap, sym, subst, ◌∙◌, arith, slice_index}
use Rattle.std.specs.List.{list_any, range_with_len, IsDistinct, zip}
use Rattle.std.proofs.lemmas.List.{length-set, take-append-drop}
use Rattle.std.proofs.lemmas.List.Elements.{All-nil}
use Rattle.std.proofs.lemmas.Bool.{eq-eqb}
use Rattle.std.proofs.lemmas.List.Folds.{list_any-append}
use Rattle.std.proofs.lemmas.List.FromFn.{length-map-range_with_len}
use Rattle.journal.specs.Swap.{back, Fits, FitsCell}
use Rattle.journal.specs.Pages.{IsAdded, IsHeld, IsMarked, IsPaged, cells_of, keeps, packed_size, page_cells, page_len}
use Rattle.journal.specs.Pages.{KeepsCells, put_run, values_of}
use Rattle.journal.proofs.Flags.{marked_push}
use Rattle.journal.proofs.Packed.{has_values, length-values_of, values_push}
use Rattle.journal.proofs.Pages.{HasValues, back_kept, back_kept_page, fits_push, kept_cell, or_true, page_len_is}
use Rattle.journal.proofs.Pages.{paged_push}
use Rattle.journal.proofs.Runs.{length-put_run, put_run_next}

no_pages : (n : ℕ) → IsPaged n [] []
unfolding IsDistinct
no_pages n = record { distinct = tt; named = All-nil (λ p. p * 64 < n); size = refl }

pub nothing_held : (n : ℕ) (b : ℕ → ℕ) (flags : List Bool) (pages packed : List ℕ) → pages ≡ [] → packed ≡ []
    → IsMarked flags [] → IsHeld n b flags pages packed
nothing_held n b flags pages packed p v h =
    subst (λ (t : List ℕ). IsHeld n b flags t packed) (sym p)
    (subst (λ (t : List ℕ). IsHeld n b flags [] t) (sym v)
    record { paged = no_pages n; fits = All-nil (FitsCell n b); marked = h })

-- one more page, with the values that f gives its cells; count is how many it has
pub held_push : (n : ℕ) (b f : ℕ → ℕ) (flags wide : List Bool) (pages longer packed more : List ℕ) (p count : ℕ)
    → IsHeld n b flags pages packed → p * 64 < n → keeps pages p ≡ false
    → ((q : ℕ) → get_or wide q false ≡ get_or flags q false) → p < length wide → count ≡ page_len n p
    → ((k : ℕ) → p * 64 ≤ k → k < p * 64 + count → f k ≤ b k)
    → longer ≡ pages ++ p ∷ [] → IsAdded p packed more (map f (range_with_len (p * 64) count))
    → IsHeld n b (set wide p true) longer more
held_push n b f flags wide pages longer packed more p count h named new same room size within ep added =
    let row : List ℕ = map f (page_cells n p) in
    let held : IsAdded p packed more row = subst
    (λ (t : ℕ). IsAdded p packed more (map f (range_with_len (p * 64) t))) size added in
    let bounded : (k : ℕ) → p * 64 ≤ k → k < p * 64 + page_len n p
    → f k ≤ b k = subst (λ (t : ℕ). (k : ℕ) → p * 64 ≤ k → k < p * 64 + t → f k ≤ b k) size within in
    let was : HasValues n pages (values_of n pages packed) = has_values n pages packed h.paged in
    let pushed = values_push n pages p packed more row h.paged.size
    (length-map-range_with_len f (p * 64) (page_len n p)) held in
    let paged : HasValues n (pages ++ p ∷ []) (values_of n pages packed ++ row) =
    paged_push n pages (values_of n pages packed) f p was named new in
    subst (λ (t : List ℕ). IsHeld n b (set wide p true) t more) (sym ep) record {
      paged = record {
        distinct = paged.distinct;
        named = paged.named;
        size = pushed.1;
      };
      fits = subst (λ (t : List ℕ). Fits n b (zip (cells_of n (pages ++ p ∷ [])) t)) (sym pushed.0)
          (fits_push n b f pages (values_of n pages packed) p was.size h.fits (omega (arith, page_len_is n p)) bounded);
      marked = marked_push wide pages p (λ q. same q ∙ h.marked q) room;
    }

-- the beginning, after a put to a cell of a page that is kept
pub beginning_put : (c d pages packed : List ℕ) (i v : ℕ) → length packed ≡ packed_size (length c) pages
    → i < length c → keeps pages (i / 64) ≡ true → d ≡ set c i v
    → (back d (zip (cells_of (length d) pages) (values_of (length d) pages packed))).cells
    ≡ (back c (zip (cells_of (length c) pages) (values_of (length c) pages packed))).cells
beginning_put c d pages packed i v size lt kept e =
    let values : List ℕ = values_of (length c) pages packed in
    let long : length d ≡ length c = ap (λ (t : List ℕ). length t) e ∙ length-set c i v in
    ap (λ (t : ℕ). (back d (zip (cells_of t pages) (values_of t pages packed))).cells) long
    ∙ ap (λ (t : List ℕ). (back t (zip (cells_of (length c) pages) values)).cells) e
    ∙ back_kept c (cells_of (length c) pages) values i v (length-values_of (length c) pages packed size)
    (kept_cell (length c) pages i lt kept)

-- words written to cells that are kept leave what going back gives as it was
back_kept_run : (c cs ws vs : List ℕ) (first : ℕ) → length ws ≡ length cs → first + length vs ≤ length c
    → ((k : ℕ) → first ≤ k → k < first + length vs → list_any (eqb k) cs ≡ true)
    → (back (put_run c first vs) (zip cs ws)).cells ≡ (back c (zip cs ws)).cells
back_kept_run c cs ws [] first same le kept =
    ap (λ (t : List ℕ). (back t (zip cs ws)).cells) (take-append-drop first c)
back_kept_run c cs ws (v ∷ vs) first same le kept =
    ap (λ (t : List ℕ). (back t (zip cs ws)).cells) (sym (put_run_next c vs v first (omega (arith, le))))
    ∙ back_kept_run (set c first v) cs ws vs (first + 1) same (omega (arith, le, length-set c first v))
    (λ k low high. kept k (omega (arith, low)) (omega (arith, high)))
    ∙ back_kept c cs ws first v same (kept first (omega arith) (omega arith))

-- the beginning, after words were written to cells of pages that are kept
pub beginning_run : (c d pages packed : List ℕ) (first : ℕ) (vs : List ℕ)
    → length packed ≡ packed_size (length c) pages → first + length vs ≤ length c
    → KeepsCells pages first (length vs) → d ≡ put_run c first vs
    → (back d (zip (cells_of (length d) pages) (values_of (length d) pages packed))).cells
    ≡ (back c (zip (cells_of (length c) pages) (values_of (length c) pages packed))).cells
beginning_run c d pages packed first vs size le kept e =
    let values : List ℕ = values_of (length c) pages packed in
    let long : length d ≡ length c = ap (λ (t : List ℕ). length t) e ∙ length-put_run c vs first le in
    ap (λ (t : ℕ). (back d (zip (cells_of t pages) (values_of t pages packed))).cells) long
    ∙ ap (λ (t : List ℕ). (back t (zip (cells_of (length c) pages) values)).cells) e
    ∙ back_kept_run c (cells_of (length c) pages) values vs first (length-values_of (length c) pages packed size) le
    (λ k low high. kept_cell (length c) pages k (omega (arith, high, le)) (kept k low high))

pub keeps_push : (pages : List ℕ) (p : ℕ) → keeps (pages ++ p ∷ []) p ≡ true
keeps_push pages p = list_any-append (eqb p) pages (p ∷ [])
    ∙ ap (λ (t : Bool). keeps pages p || (t || false)) (eq-eqb p p refl) ∙ or_true (keeps pages p)

-- the beginning, after one more page is kept with the values that the store has
pub beginning_push : (c pages longer packed more : List ℕ) (p count : ℕ)
    → length packed ≡ packed_size (length c) pages → count ≡ page_len (length c) p → longer ≡ pages ++ p ∷ []
    → IsAdded p packed more (map (slice_index c) (range_with_len (p * 64) count))
    → (back c (zip (cells_of (length c) longer) (values_of (length c) longer more))).cells
    ≡ (back c (zip (cells_of (length c) pages) (values_of (length c) pages packed))).cells
beginning_push c pages longer packed more p count size long ep added =
    let n : ℕ = length c in
    let row : List ℕ = map (slice_index c) (page_cells n p) in
    let held : IsAdded p packed more row = subst
    (λ (t : ℕ). IsAdded p packed more (map (slice_index c) (range_with_len (p * 64) t))) long added in
    let pushed = values_push n pages p packed more row size
    (length-map-range_with_len (slice_index c) (p * 64) (page_len n p)) held in
    ap (λ (t : List ℕ). (back c (zip (cells_of n t) (values_of n t more))).cells) ep
    ∙ ap (λ (t : List ℕ). (back c (zip (cells_of n (pages ++ p ∷ [])) t)).cells) pushed.0
    ∙ back_kept_page c pages (values_of n pages packed) p (length-values_of n pages packed size)
