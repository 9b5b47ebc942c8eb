-- What a swap of one page does to a swap of all pages, where the record holds pages packed.
use Rattle.std.proofs.Common.{◌≡◌, ℕ, ◌+◌, ◌-◌, ◌*◌, ◌<◌, ◌≤◌, List, ◌++◌, length, get_or, take, drop, refl, ap, sym, subst}
use Rattle.std.proofs.Common.{◌∙◌, arith}
use Rattle.std.specs.List.{All, zip}
use Rattle.std.proofs.lemmas.List.{drop_at, length-append, length-drop, length-take-le, take-append-drop, take_at}
use Rattle.journal.specs.Swap.{back, forward, Fits}
use Rattle.journal.specs.Pages.{cells_of, packed_len, packed_size, page_entries, page_len, page_unpacked, values_of}
use Rattle.journal.proofs.Packed.{length-unpacked, length-values_of, packed_at, packed_within, values_with}
use Rattle.journal.proofs.PageEntries.{HasPage, fits_page, has_page, length-row, page_in_store, some_cells}
use Rattle.journal.proofs.PageSwaps.{page_gone_back, page_gone_forward}
use Rattle.journal.proofs.Steps.{GoneBack, GoneForward, back_ends, forward_ends_pages, page_at}

-- where the values of page s stand among all values
abbrev pub start_of : ℕ → List ℕ → ℕ → ℕ
start_of n pages s = length (cells_of n (take s pages))

-- page s of some pages, and where it stands in what a record holds
pub record IsPackedAt (n : ℕ) (pages packed : List ℕ) (s at width : ℕ) : Type 0 where
  pub page : s < length pages
  pub start : at ≡ packed_size n (take s pages)
  pub long : length packed ≡ packed_size n pages
  pub wide : width ≡ packed_len (get_or pages s 0) (page_len n (get_or pages s 0))

pub packed_inside : (n : ℕ) (pages packed : List ℕ) (s at width : ℕ) → IsPackedAt n pages packed s at width
    → at + width ≤ length packed
packed_inside n pages packed s at width h = omega (
  arith,
  h.start,
  h.long,
  h.wide,
  packed_at n pages s h.page,
  packed_within n pages (s + 1) (omega (arith, h.page)),
)

pub length-packed_row : (n : ℕ) (pages packed : List ℕ) (s at width : ℕ) → IsPackedAt n pages packed s at width
    → length (take width (drop at packed)) ≡ width
length-packed_row n pages packed s at width h = length-take-le width (drop at packed)
    (omega (arith, length-drop at packed, packed_inside n pages packed s at width h))

-- the values of page s, among all values and by themselves; and all values, with another row in its place
values_there : (n : ℕ) (pages packed : List ℕ) (s at width : ℕ) (row : List ℕ) → IsPackedAt n pages packed s at width
    → length row ≡ width
    → (take (page_len n (get_or pages s 0)) (drop (start_of n pages s) (values_of n pages packed))
    ≡ page_unpacked (get_or pages s 0) (page_len n (get_or pages s 0)) (take width (drop at packed)))
    × (values_of n pages (take at packed ++ (row ++ drop width (drop at packed)))
    ≡ take (start_of n pages s) (values_of n pages packed)
    ++ (page_unpacked (get_or pages s 0) (page_len n (get_or pages s 0)) row
    ++ drop (page_len n (get_or pages s 0)) (drop (start_of n pages s) (values_of n pages packed))))
values_there n pages packed s at width row h same =
    let p : ℕ = get_or pages s 0 in
    let size : ℕ = page_len n p in
    let was : List ℕ = take width (drop at packed) in
    let first : List ℕ = values_of n (take s pages) (take at packed) in
    let rest : List ℕ = values_of n (drop (s + 1) pages) (drop width (drop at packed)) in
    let here : List ℕ = page_unpacked p size was in
    let long_was : length was ≡ width = length-packed_row n pages packed s at width h in
    let whole : packed ≡ take at packed ++ (was ++ drop width (drop at packed)) = sym (take-append-drop at packed)
    ∙ ap (λ (t : List ℕ). take at packed ++ t) (sym (take-append-drop width (drop at packed))) in
    let all : values_of n pages packed ≡ first ++ (here ++ rest) = ap (λ (t : List ℕ). values_of n pages t) whole
    ∙ values_with n pages packed s at width was h.page h.start h.long h.wide long_was in
    let long_first : length first ≡ start_of n pages s = length-values_of n (take s pages) (take at packed)
    (length-take-le at packed (omega (arith, packed_inside n pages packed s at width h)) ∙ h.start) in
    let long_here : length here ≡ size = length-unpacked p size was (long_was ∙ h.wide) in
    let from : drop (start_of n pages s) (values_of n pages packed) ≡ here ++ rest =
    ap (λ (t : List ℕ). drop (start_of n pages s) t) all ∙ drop_at first (here ++ rest) (start_of n pages s) long_first in
    let upto : take (start_of n pages s) (values_of n pages packed) ≡ first =
    ap (λ (t : List ℕ). take (start_of n pages s) t) all
    ∙ take_at first (here ++ rest) (start_of n pages s) long_first in
    let behind : drop size (drop (start_of n pages s) (values_of n pages packed)) ≡ rest =
    ap (λ (t : List ℕ). drop size t) from ∙ drop_at here rest size long_here in (
      ap (λ (t : List ℕ). take size t) from ∙ take_at here rest size long_here,
      values_with n pages packed s at width row h.page h.start h.long h.wide same
          ∙ ap (λ (t : List ℕ). t ++ (page_unpacked p size row ++ rest)) (sym upto)
          ∙ ap (λ (t : List ℕ). take (start_of n pages s) (values_of n pages packed) ++ (page_unpacked p size row ++ t))
          (sym behind),
    )

page_is_there : (n : ℕ) (pages packed : List ℕ) (s at width : ℕ) → IsPackedAt n pages packed s at width
    → HasPage (cells_of n pages) (values_of n pages packed) (get_or pages s 0) (start_of n pages s)
    (page_len n (get_or pages s 0))
page_is_there n pages packed s at width h = has_page n pages (values_of n pages packed) s (start_of n pages s)
    (page_len n (get_or pages s 0)) (page_len n (get_or pages s 0)) h.page refl refl refl
    (length-values_of n pages packed h.long)

-- what an exchange of the page asks
pub packed_fits : (n m : ℕ) (b : ℕ → ℕ) (pages packed : List ℕ) (s at width size : ℕ)
    → IsPackedAt n pages packed s at width → All (λ p. p * 64 < n) pages → size ≡ page_len n (get_or pages s 0)
    → Fits m b (zip (cells_of n pages) (values_of n pages packed))
    → Fits m b (page_entries (get_or pages s 0)
    (page_unpacked (get_or pages s 0) size (take width (drop at packed))))
    × (get_or pages s 0 * 64 + size ≤ m)
packed_fits n m b pages packed s at width size h named is_size fits =
    let p : ℕ = get_or pages s 0 in
    let was : List ℕ = take width (drop at packed) in
    let values : List ℕ = page_unpacked p (page_len n p) was in
    let long : length was ≡ width = length-packed_row n pages packed s at width h in
    let is = values_there n pages packed s at width was h long in
    let fit : Fits m b (page_entries p values) = subst (λ (t : List ℕ). Fits m b (page_entries p t)) is.0
    (fits_page m b (cells_of n pages) (values_of n pages packed) p (start_of n pages s) (page_len n p)
    (page_is_there n pages packed s at width h) fits) in
    let some : 0 < page_len n p = some_cells n pages s (page_len n p) named h.page refl in
    let count : length values ≡ page_len n p = length-unpacked p (page_len n p) was (long ∙ h.wide) in
    let inside : p * 64 + length values ≤ m = page_in_store m b p values fit (omega (arith, some, count)) in (
      subst (λ (t : ℕ). Fits m b (page_entries p (page_unpacked p t was))) (sym is_size) fit,
      omega (arith, inside, count, is_size),
    )

-- the page's entries go back before those in front of them
pub packed_gone_back : (n m : ℕ) (b : ℕ → ℕ) (was c : List ℕ) (pages packed : List ℕ) (i s at width size : ℕ)
    (x y row : List ℕ)
    → GoneBack m b (cells_of n pages) was c (start_of n pages i) x (values_of n pages packed)
    → length was ≡ length (cells_of n pages) → i ≡ s + 1 → IsPackedAt n pages packed s at width → length row ≡ width
    → size ≡ page_len n (get_or pages s 0)
    → y ≡ (back x (page_entries (get_or pages s 0)
    (page_unpacked (get_or pages s 0) size (take width (drop at packed))))).cells
    → page_entries (get_or pages s 0) (page_unpacked (get_or pages s 0) size row)
    ≡ (back x (page_entries (get_or pages s 0)
    (page_unpacked (get_or pages s 0) size (take width (drop at packed))))).entries
    → Fits m b (page_entries (get_or pages s 0) (page_unpacked (get_or pages s 0) size row))
    → GoneBack m b (cells_of n pages) was c (start_of n pages s) y
    (values_of n pages (take at packed ++ (row ++ drop width (drop at packed))))
packed_gone_back n m b was c pages packed i s at width size x y row g long end h same is_size cells entries fits =
    let p : ℕ = get_or pages s 0 in
    let start : ℕ = start_of n pages s in
    let vs : List ℕ = values_of n pages packed in
    let old : List ℕ = take width (drop at packed) in
    let new : List ℕ = page_unpacked p (page_len n p) row in
    let is = values_there n pages packed s at width row h same in
    let there : HasPage (cells_of n pages) vs p start (page_len n p) = page_is_there n pages packed s at width h in
    let ends : start_of n pages i ≡ start + page_len n p = ap (λ (t : ℕ). start_of n pages t) end
    ∙ page_at n pages s 0 h.page in
    let count : length new ≡ length (take (page_len n p) (drop start vs)) =
    length-unpacked p (page_len n p) row (same ∙ h.wide)
    ∙ sym (length-row (cells_of n pages) vs p start (page_len n p) there) in
    let cells_are = subst (λ (t : ℕ). y ≡ (back x (page_entries p (page_unpacked p t old))).cells) is_size cells in
    let entries_are = subst (λ (t : ℕ). page_entries p (page_unpacked p t row)
    ≡ (back x (page_entries p (page_unpacked p t old))).entries) is_size entries in
    let fits_are = subst (λ (t : ℕ). Fits m b (page_entries p (page_unpacked p t row))) is_size fits in
    subst (λ (t : List ℕ). GoneBack m b (cells_of n pages) was c (start_of n pages s) y t) (sym is.1)
    (page_gone_back m b (cells_of n pages) was c (start_of n pages i) start (page_len n p) p x vs y new g long ends
    there count (cells_are ∙ ap (λ (t : List ℕ). (back x (page_entries p t)).cells) (sym is.0))
    (entries_are ∙ ap (λ (t : List ℕ). (back x (page_entries p t)).entries) (sym is.0)) fits_are)

-- the page's entries go forward after those in front of them
pub packed_gone_forward : (n m : ℕ) (b : ℕ → ℕ) (was c : List ℕ) (pages packed : List ℕ) (i s at width size : ℕ)
    (x y row : List ℕ)
    → GoneForward m b (cells_of n pages) was c (start_of n pages s) x (values_of n pages packed)
    → length was ≡ length (cells_of n pages) → i ≡ s + 1 → IsPackedAt n pages packed s at width → length row ≡ width
    → size ≡ page_len n (get_or pages s 0)
    → y ≡ (forward x (page_entries (get_or pages s 0)
    (page_unpacked (get_or pages s 0) size (take width (drop at packed))))).cells
    → page_entries (get_or pages s 0) (page_unpacked (get_or pages s 0) size row)
    ≡ (forward x (page_entries (get_or pages s 0)
    (page_unpacked (get_or pages s 0) size (take width (drop at packed))))).entries
    → Fits m b (page_entries (get_or pages s 0) (page_unpacked (get_or pages s 0) size row))
    → GoneForward m b (cells_of n pages) was c (start_of n pages i) y
    (values_of n pages (take at packed ++ (row ++ drop width (drop at packed))))
packed_gone_forward n m b was c pages packed i s at width size x y row g long end h same is_size cells entries fits =
    let p : ℕ = get_or pages s 0 in
    let start : ℕ = start_of n pages s in
    let vs : List ℕ = values_of n pages packed in
    let old : List ℕ = take width (drop at packed) in
    let new : List ℕ = page_unpacked p (page_len n p) row in
    let is = values_there n pages packed s at width row h same in
    let there : HasPage (cells_of n pages) vs p start (page_len n p) = page_is_there n pages packed s at width h in
    let ends : start_of n pages i ≡ start + page_len n p = ap (λ (t : ℕ). start_of n pages t) end
    ∙ page_at n pages s 0 h.page in
    let count : length new ≡ length (take (page_len n p) (drop start vs)) =
    length-unpacked p (page_len n p) row (same ∙ h.wide)
    ∙ sym (length-row (cells_of n pages) vs p start (page_len n p) there) in
    let cells_are = subst (λ (t : ℕ). y ≡ (forward x (page_entries p (page_unpacked p t old))).cells) is_size cells in
    let entries_are = subst (λ (t : ℕ). page_entries p (page_unpacked p t row)
    ≡ (forward x (page_entries p (page_unpacked p t old))).entries) is_size entries in
    let fits_are = subst (λ (t : ℕ). Fits m b (page_entries p (page_unpacked p t row))) is_size fits in
    subst (λ (t : List ℕ). GoneForward m b (cells_of n pages) was c (start_of n pages i) y t) (sym is.1)
    (page_gone_forward m b (cells_of n pages) was c start (start_of n pages i) (page_len n p) p x vs y new g long ends
    there count (cells_are ∙ ap (λ (t : List ℕ). (forward x (page_entries p t)).cells) (sym is.0))
    (entries_are ∙ ap (λ (t : List ℕ). (forward x (page_entries p t)).entries) (sym is.0)) fits_are)

-- what a record holds is as long as before, with a row of the same length
pub length-packed_with : (n : ℕ) (pages packed : List ℕ) (s at width : ℕ) (row : List ℕ)
    → IsPackedAt n pages packed s at width → length row ≡ width
    → length (take at packed ++ (row ++ drop width (drop at packed))) ≡ length packed
length-packed_with n pages packed s at width row h same = omega (
  arith,
  length-append (take at packed) (row ++ drop width (drop at packed)),
  length-append row (drop width (drop at packed)),
  length-take-le at packed (omega (arith, packed_inside n pages packed s at width h)),
  length-drop width (drop at packed),
  length-drop at packed,
  packed_inside n pages packed s at width h,
  same,
)

-- page s - 1, where a swap comes to its end that goes back; values is how the record is written there
pub packed_before : (n : ℕ) (pages packed values : List ℕ) (s at width size : ℕ) → 0 < s → s ≤ length pages
    → at ≡ packed_size n (take s pages) → length packed ≡ packed_size n pages
    → size ≡ page_len n (get_or pages (s - 1) 0) → width ≡ packed_len (get_or pages (s - 1) 0) size → values ≡ packed
    → (width ≤ at) × IsPackedAt n pages values (s - 1) (at - width) (at - width + width - (at - width))
packed_before n pages packed values s at width size pos upto end long is_size wide same =
    let p : ℕ = get_or pages (s - 1) 0 in
    let e : s - 1 + 1 ≡ s = omega (arith, pos) in
    let is_wide : width ≡ packed_len p (page_len n p) = wide ∙ ap (λ (t : ℕ). packed_len p t) is_size in
    let whole : packed_size n (take s pages) ≡ packed_size n (take (s - 1) pages) + packed_len p (page_len n p) =
    sym (ap (λ (t : ℕ). packed_size n (take t pages)) e) ∙ packed_at n pages (s - 1) (omega (arith, pos, upto)) in
    let le : width ≤ at = omega (arith, end, whole, is_wide) in (
      le,
      record {
        page = omega (arith, pos, upto);
        start = omega (arith, end, whole, is_wide);
        long = ap (λ (t : List ℕ). length t) same ∙ long;
        wide = omega (arith, is_wide, le);
      },
    )

-- page s, where a swap comes to its beginning that goes forward
pub packed_after : (n : ℕ) (pages packed values : List ℕ) (s at width size : ℕ) → s < length pages
    → at ≡ packed_size n (take s pages) → length packed ≡ packed_size n pages
    → size ≡ page_len n (get_or pages s 0) → width ≡ packed_len (get_or pages s 0) size → values ≡ packed
    → IsPackedAt n pages values s at (at + width - at)
packed_after n pages packed values s at width size lt start long is_size wide same =
    let p : ℕ = get_or pages s 0 in
    let is_wide : width ≡ packed_len p (page_len n p) = wide ∙ ap (λ (t : ℕ). packed_len p t) is_size in
    record {
      page = lt;
      start = start;
      long = ap (λ (t : List ℕ). length t) same ∙ long;
      wide = omega (arith, is_wide);
    }

-- behind the last page all entries have gone forward
pub packed_forward_ends : (n : ℕ) (pages : List ℕ) {m : ℕ} {b : ℕ → ℕ} {was c x vs : List ℕ} (s : ℕ)
    → GoneForward m b (cells_of n pages) was c (start_of n pages s) x vs → length was ≡ length (cells_of n pages)
    → length pages ≤ s
    → (x ≡ (forward c (zip (cells_of n pages) was)).cells)
    × (zip (cells_of n pages) vs ≡ (forward c (zip (cells_of n pages) was)).entries)
packed_forward_ends n pages {m} {b} {was} {c} {x} {vs} s g p end =
    forward_ends_pages n pages s (start_of n pages s) g p refl end

-- before the first page all entries have gone back
pub packed_back_ends : (n : ℕ) (pages : List ℕ) {m : ℕ} {b : ℕ → ℕ} {was c x vs : List ℕ} (s : ℕ)
    → GoneBack m b (cells_of n pages) was c (start_of n pages s) x vs → s ≡ 0
    → (x ≡ (back c (zip (cells_of n pages) was)).cells)
    × (zip (cells_of n pages) vs ≡ (back c (zip (cells_of n pages) was)).entries)
packed_back_ends n pages {m} {b} {was} {c} {x} {vs} s g none =
    back_ends m b (cells_of n pages) was c (start_of n pages s) x vs g
    (ap (λ (t : ℕ). start_of n pages t) none)
