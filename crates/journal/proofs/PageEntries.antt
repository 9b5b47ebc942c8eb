-- One page among all entries: size is how many cells the page has, and start where they stand among all cells.
use Rattle.std.proofs.Common.{◌≡◌, ℕ, zero, suc, ◌+◌, ◌-◌, ◌*◌, ◌<◌, ◌≤◌, List, [], ◌∷◌, ◌++◌, length, get_or}
use Rattle.std.proofs.Common.{take, drop, refl, ap, sym, subst, ◌∙◌, arith}
use Rattle.std.specs.List.{All, range_with_len, zip}
use Rattle.std.proofs.lemmas.List.{take-append-drop, take_at, drop_at, drop_more}
use Rattle.std.proofs.lemmas.List.{length-append, length-take-le, length-take, length-drop}
use Rattle.std.proofs.lemmas.List.Elements.{All-append, All-take, All-drop, All-get_or}
use Rattle.std.proofs.lemmas.List.FromFn.{length-range_with_len, get_or-range_with_len}
use Rattle.std.proofs.lemmas.Grind.{flat_map-append}
use Rattle.std.proofs.lemmas.Slice.Zip.{get_or-zip, length-zip}
use Rattle.journal.specs.Swap.{Fits, FitsCell}
use Rattle.journal.specs.Pages.{cells_of, page_cells, page_entries, page_len}
use Rattle.journal.proofs.Pages.{length-page_cells, page_len_is, zip-append}
use Rattle.journal.proofs.Steps.{page_within}

zip_of_none : (cs : List ℕ) → zip {K = ℕ} {X = ℕ} cs [] ≡ []
zip_of_none [] = refl
zip_of_none (c ∷ cs) = refl

take-zip : (k : ℕ) (cs vs : List ℕ) → take k (zip cs vs) ≡ zip (take k cs) (take k vs)
take-zip zero cs vs = refl
take-zip (suc k) [] vs = refl
take-zip (suc k) (c ∷ cs) [] = refl
take-zip (suc k) (c ∷ cs) (v ∷ vs) = ap (λ (t : List (ℕ × ℕ)). (c, v) ∷ t) (take-zip k cs vs)

drop-zip : (k : ℕ) (cs vs : List ℕ) → drop k (zip cs vs) ≡ zip (drop k cs) (drop k vs)
drop-zip zero cs vs = refl
drop-zip (suc k) [] vs = refl
drop-zip (suc k) (c ∷ cs) [] = sym (zip_of_none (drop k cs))
drop-zip (suc k) (c ∷ cs) (v ∷ vs) = drop-zip k cs vs

-- cs has at start the cells of page p, and vs has a value for each cell
pub record HasPage (cs vs : List ℕ) (p start size : ℕ) : Type 0 where
  pub cells : take size (drop start cs) ≡ range_with_len (p * 64) size
  pub within : start + size ≤ length cs
  pub long : length vs ≡ length cs

pub length-row : (cs vs : List ℕ) (p start size : ℕ) → HasPage cs vs p start size
    → length (take size (drop start vs)) ≡ size
length-row cs vs p start size h = length-take-le size (drop start vs)
    (omega (arith, length-drop start vs, h.within, h.long))

pub page_part : (cs vs : List ℕ) (p start size : ℕ) → HasPage cs vs p start size
    → page_entries p (take size (drop start vs)) ≡ take size (drop start (zip cs vs))
page_part cs vs p start size h =
    ap (λ (t : ℕ). zip (range_with_len (p * 64) t) (take size (drop start vs))) (length-row cs vs p start size h)
    ∙ ap (λ (t : List ℕ). zip t (take size (drop start vs))) (sym h.cells)
    ∙ sym (take-zip size (drop start cs) (drop start vs))
    ∙ ap (λ (t : List (ℕ × ℕ)). take size t) (sym (drop-zip start cs vs))

-- a row in the place of the page's values
pub put_row : (cs vs row : List ℕ) (p start size : ℕ) → HasPage cs vs p start size
    → length row ≡ length (take size (drop start vs))
    → zip cs (take start vs ++ (row ++ drop size (drop start vs)))
    ≡ take start (zip cs vs) ++ (page_entries p row ++ drop size (drop start (zip cs vs)))
put_row cs vs row p start size h same =
    let rest : List ℕ = drop size (drop start cs) in
    let values : List ℕ = drop size (drop start vs) in
    let long : length row ≡ size = same ∙ length-row cs vs p start size h in
    let split : cs ≡ take start cs ++ (range_with_len (p * 64) size ++ rest) = sym
    (take-append-drop start cs) ∙ ap (λ (t : List ℕ). take start cs ++ t) (sym (take-append-drop size (drop start cs)))
    ∙ ap (λ (t : List ℕ). take start cs ++ (t ++ rest)) h.cells in
    let first : length (take start vs) ≡ length (take start cs) = omega
    (arith, length-take start vs, length-take start cs, h.long) in
    ap (λ (t : List ℕ). zip t (take start vs ++ (row ++ values))) split
    ∙ zip-append (take start cs) (range_with_len (p * 64) size ++ rest) (take start vs) (row ++ values) first
    ∙ ap (λ (t : List (ℕ × ℕ)). zip (take start cs) (take start vs) ++ t)
    (zip-append (range_with_len (p * 64) size) rest row values
    (omega (arith, long, length-range_with_len (p * 64) size)))
    ∙ ap (λ (t : List (ℕ × ℕ)). t ++ (zip (range_with_len (p * 64) size) row ++ zip rest values))
    (sym (take-zip start cs vs))
    ∙ ap (λ (t : ℕ). take start (zip cs vs) ++ (zip (range_with_len (p * 64) t) row ++ zip rest values)) (sym long)
    ∙ ap (λ (t : List (ℕ × ℕ)). take start (zip cs vs) ++ (page_entries p row ++ t))
    (sym (ap (λ (t : List (ℕ × ℕ)). drop size t) (drop-zip start cs vs)
    ∙ drop-zip size (drop start cs) (drop start vs)))

pub length-put_row : (cs vs row : List ℕ) (p start size : ℕ) → HasPage cs vs p start size
    → length row ≡ length (take size (drop start vs))
    → length (take start vs ++ (row ++ drop size (drop start vs))) ≡ length cs
length-put_row cs vs row p start size h same = omega (
  arith,
  length-append (take start vs) (row ++ drop size (drop start vs)),
  length-append row (drop size (drop start vs)),
  length-take-le start vs (omega (arith, h.within, h.long)),
  length-drop size (drop start vs),
  length-drop start vs,
  same,
  length-row cs vs p start size h,
  h.within,
  h.long,
)

pub fits_row : (n : ℕ) (b : ℕ → ℕ) (cs vs row : List ℕ) (p start size : ℕ) → HasPage cs vs p start size
    → length row ≡ length (take size (drop start vs)) → Fits n b (zip cs vs) → Fits n b (page_entries p row)
    → Fits n b (zip cs (take start vs ++ (row ++ drop size (drop start vs))))
fits_row n b cs vs row p start size h same fits new =
    let ys : List (ℕ × ℕ) = zip cs vs in
    subst (λ (t : List (ℕ × ℕ)). Fits n b t) (sym (put_row cs vs row p start size h same))
    (All-append (FitsCell n b) (take start ys) (page_entries p row ++ drop size (drop start ys))
    (All-take (FitsCell n b) start ys fits)
    (All-append (FitsCell n b) (page_entries p row) (drop size (drop start ys)) new
    (All-drop (FitsCell n b) size (drop start ys) (All-drop (FitsCell n b) start ys fits))))

-- what an exchange of the page asks

pub fits_page : (n : ℕ) (b : ℕ → ℕ) (cs vs : List ℕ) (p start size : ℕ) → HasPage cs vs p start size
    → Fits n b (zip cs vs) → Fits n b (page_entries p (take size (drop start vs)))
fits_page n b cs vs p start size h fits =
    subst (λ (t : List (ℕ × ℕ)). Fits n b t) (sym (page_part cs vs p start size h))
    (All-take (FitsCell n b) size (drop start (zip cs vs)) (All-drop (FitsCell n b) start (zip cs vs) fits))

pub page_in_store : (n : ℕ) (b : ℕ → ℕ) (p : ℕ) (row : List ℕ) → Fits n b (page_entries p row) → 0 < length row
    → p * 64 + length row ≤ n
page_in_store n b p row fits some =
    let cs : List ℕ = range_with_len (p * 64) (length row) in
    let last : ℕ = length row - 1 in
    let long : length cs ≡ length row = length-range_with_len (p * 64) (length row) in
    let e : get_or (zip cs row) last (0, 0) ≡ (get_or cs last 0, get_or row last 0) = get_or-zip cs row last (0, 0)
    (omega (arith, long, some)) (omega (arith, some)) in
    let here : get_or cs last 0 ≡ p * 64 + last = get_or-range_with_len (p * 64) (length row) last 0
    (omega (arith, some)) in
    let fit : FitsCell n b (get_or cs last 0, get_or row last 0) = subst (FitsCell n b) e
    (All-get_or (FitsCell n b) (zip cs row) last (0, 0) (omega (arith, length-zip cs row, long, some)) fits) in
    omega (arith, fit.0, here, some)

-- page s of some pages is a page among their cells
pub has_page : (n : ℕ) (pages vs : List ℕ) (s start size width : ℕ) → s < length pages
    → start ≡ length (cells_of n (take s pages)) → width ≡ page_len n (get_or pages s 0) → size ≡ width
    → length vs ≡ length (cells_of n pages) → HasPage (cells_of n pages) vs (get_or pages s 0) start size
has_page n pages vs s start size width lt at wide same long =
    let p : ℕ = get_or pages s 0 in
    let rest : List ℕ = drop (s + 1) pages in
    let first : List ℕ = cells_of n (take s pages) in
    let split : cells_of n pages ≡ first ++ (page_cells n p ++ cells_of n rest) =
    sym (ap (λ (t : List ℕ). cells_of n t) (take-append-drop s pages))
    ∙ flat_map-append (page_cells n) (take s pages) (drop s pages)
    ∙ ap (λ (t : List ℕ). first ++ cells_of n t) (drop_more pages s 0 lt) in
    let wide_page : size ≡ page_len n p = same ∙ wide in
    record {
      cells = ap (λ (t : List ℕ). take size (drop start t)) split
          ∙ ap (λ (t : List ℕ). take size t) (drop_at first (page_cells n p ++ cells_of n rest) start (sym at))
          ∙ take_at (page_cells n p) (cells_of n rest) size (length-page_cells n p ∙ sym wide_page)
          ∙ ap (λ (t : ℕ). range_with_len (p * 64) t) (sym wide_page);
      within = omega (arith, page_within n pages s 0 lt, at, wide_page);
      long = long;
    }

-- a page that begins in the store has a cell
pub some_cells : (len : ℕ) (pages : List ℕ) (s size : ℕ) → All (λ p. p * 64 < len) pages → s < length pages
    → size ≡ page_len len (get_or pages s 0) → 0 < size
some_cells len pages s size named lt wide =
    let here : get_or pages s 0 * 64 < len = All-get_or (λ (p : ℕ). p * 64 < len) pages s 0 lt named in
    omega (arith, here, wide, page_len_is len (get_or pages s 0))
