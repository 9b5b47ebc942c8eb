-- How far a swap has come, at entry k of a record that gives each of the cells cs a value.
use Rattle.std.proofs.Common.{◌≡◌, ℕ, ◌+◌, ◌<◌, ◌≤◌, List, [], ◌++◌, length, get_or, take, drop, refl}
use Rattle.std.proofs.Common.{ap, sym, subst, ◌∙◌, arith, drop_of_length-le, ◌-◌}
use Rattle.std.specs.List.{zip}
use Rattle.std.proofs.lemmas.List.{append-nil, take_all, take_more}
use Rattle.std.proofs.lemmas.List.{length-append}
use Rattle.std.proofs.lemmas.List.Elements.{All-get_or}
use Rattle.std.proofs.lemmas.List.Folds.{length-flat_map-take}
use Rattle.std.proofs.lemmas.Grind.{get_or_default_zero}
use Rattle.std.proofs.lemmas.Slice.Zip.{get_or-zip, length-zip}
use Rattle.journal.specs.Swap.{back, forward, Fits, FitsCell}
use Rattle.journal.specs.Pages.{cells_of, page_cells, page_len}
use Rattle.journal.proofs.Pages.{cells_of-push, length-page_cells}

-- the entries from k on have gone back; was: the values before
pub record GoneBack (n : ℕ) (b : ℕ → ℕ) (cs was c : List ℕ) (k : ℕ) (x vs : List ℕ) : Type 0 where
  pub now : x ≡ (back c (drop k (zip cs was))).cells
  pub left : zip cs vs ≡ take k (zip cs was) ++ (back c (drop k (zip cs was))).entries
  pub size : length vs ≡ length cs
  pub fits : Fits n b (zip cs vs)

-- the entries before k have gone forward
pub record GoneForward (n : ℕ) (b : ℕ → ℕ) (cs was c : List ℕ) (k : ℕ) (x vs : List ℕ) : Type 0 where
  pub now : (forward x (drop k (zip cs was))).cells ≡ (forward c (zip cs was)).cells
  pub done : take k (zip cs vs) ++ (forward x (drop k (zip cs was))).entries ≡ (forward c (zip cs was)).entries
  pub left : drop k (zip cs vs) ≡ drop k (zip cs was)
  pub size : length vs ≡ length cs
  pub fits : Fits n b (zip cs vs)

length-zip_same : (cs vs : List ℕ) → length vs ≡ length cs → length (zip cs vs) ≡ length cs
length-zip_same cs vs p = omega (arith, length-zip cs vs, p)

read : (cs vs : List ℕ) (k a v : ℕ) → length vs ≡ length cs → k < length cs → a ≡ get_or cs k 0 → v ≡ get_or vs k v
    → (a, v) ≡ get_or (zip cs vs) k (a, v)
read cs vs k a v p lt ea ev =
    let e : get_or (zip cs vs) k (a, v) ≡ (get_or cs k a, get_or vs k v) = get_or-zip cs vs k (a, v) lt
    (omega (arith, p)) in
    let z : get_or cs k a ≡ get_or cs k 0 = get_or_default_zero cs k a lt in
    cc (e, z, ea, ev)

pub fit_at : (n : ℕ) (b : ℕ → ℕ) (cs vs : List ℕ) (k a v : ℕ) → length vs ≡ length cs → Fits n b (zip cs vs)
    → k < length cs → a ≡ get_or cs k 0 → v ≡ get_or vs k v → FitsCell n b (a, v)
fit_at n b cs vs k a v p fits lt ea ev = subst (FitsCell n b) (sym (read cs vs k a v p lt ea ev))
    (All-get_or (FitsCell n b) (zip cs vs) k (a, v) (omega (arith, length-zip_same cs vs p)) fits)

-- where page s stands among the values
pub page_at : (n : ℕ) (pages : List ℕ) (s d : ℕ) → s < length pages
    → length (cells_of n (take (s + 1) pages)) ≡ length (cells_of n (take s pages)) + page_len n (get_or pages s d)
page_at n pages s d lt =
    ap (λ (t : List ℕ). length (cells_of n t)) (take_more pages s d lt)
    ∙ ap (λ (t : List ℕ). length t) (cells_of-push n (take s pages) (get_or pages s d))
    ∙ length-append (cells_of n (take s pages)) (page_cells n (get_or pages s d))
    ∙ ap (λ (t : ℕ). length (cells_of n (take s pages)) + t) (length-page_cells n (get_or pages s d))

pub page_within : (n : ℕ) (pages : List ℕ) (s d : ℕ) → s < length pages
    → length (cells_of n (take s pages)) + page_len n (get_or pages s d) ≤ length (cells_of n pages)
page_within n pages s d lt = omega
    (arith, length-flat_map-take (page_cells n) pages s d lt, length-page_cells n (get_or pages s d))

pub back_starts : (n : ℕ) (b : ℕ → ℕ) (cs was c : List ℕ) (k : ℕ) → length was ≡ length cs → k ≡ length was
    → Fits n b (zip cs was) → GoneBack n b cs was c k c was
back_starts n b cs was c k p e fits =
    let none : drop k (zip cs was) ≡ [] = drop_of_length-le (zip cs was) (omega (arith, length-zip_same cs was p)) in
    let all : take k (zip cs was) ≡ zip cs was = take_all k (zip cs was) (omega (arith, length-zip_same cs was p)) in
    record {
      now = sym (ap (λ (t : List (ℕ × ℕ)). (back c t).cells) none);
      left = sym
          (ap (λ (t : List (ℕ × ℕ)). take k (zip cs was) ++ (back c t).entries) none
          ∙ append-nil (take k (zip cs was)) ∙ all);
      size = p;
      fits = fits;
    }

pub back_ends : (n : ℕ) (b : ℕ → ℕ) (cs was c : List ℕ) (k : ℕ) (x vs : List ℕ) → GoneBack n b cs was c k x vs
    → k ≡ 0 → (x ≡ (back c (zip cs was)).cells) × (zip cs vs ≡ (back c (zip cs was)).entries)
back_ends n b cs was c k x vs g e =
    let whole : GoneBack n b cs was c 0 x vs = subst (λ (t : ℕ). GoneBack n b cs was c t x vs) e g in
    (whole.now, whole.left)

pub forward_starts : (n : ℕ) (b : ℕ → ℕ) (cs was c : List ℕ) → length was ≡ length cs → Fits n b (zip cs was)
    → GoneForward n b cs was c 0 c was
forward_starts n b cs was c p fits = record {
  now = refl;
  done = refl;
  left = refl;
  size = p;
  fits = fits;
}

pub forward_ends : (n : ℕ) (b : ℕ → ℕ) (cs was c : List ℕ) (k : ℕ) (x vs : List ℕ) → GoneForward n b cs was c k x vs
    → length was ≡ length cs → k ≡ length cs
    → (x ≡ (forward c (zip cs was)).cells) × (zip cs vs ≡ (forward c (zip cs was)).entries)
forward_ends n b cs was c k x vs g p e =
    let none : drop k (zip cs was) ≡ [] = drop_of_length-le (zip cs was) (omega (arith, length-zip_same cs was p)) in
    let all : take k (zip cs vs) ≡ zip cs vs = take_all k (zip cs vs)
    (omega (arith, length-zip_same cs vs g.size)) in (
      sym (ap (λ (t : List (ℕ × ℕ)). (forward x t).cells) none) ∙ g.now,
      sym (ap (λ (t : List (ℕ × ℕ)). take k (zip cs vs) ++ (forward x t).entries) none
          ∙ append-nil (take k (zip cs vs)) ∙ all) ∙ g.done,
    )

-- behind the last page all entries have gone forward
pub forward_ends_pages : (len : ℕ) (pages : List ℕ) {n : ℕ} {b : ℕ → ℕ} {was c x vs : List ℕ} (s at : ℕ)
    → GoneForward n b (cells_of len pages) was c at x vs → length was ≡ length (cells_of len pages)
    → at ≡ length (cells_of len (take s pages)) → length pages ≤ s
    → (x ≡ (forward c (zip (cells_of len pages) was)).cells)
    × (zip (cells_of len pages) vs ≡ (forward c (zip (cells_of len pages) was)).entries)
forward_ends_pages len pages {n} {b} {was} {c} {x} {vs} s at g p here end =
    let whole : at ≡ length (cells_of len pages) = here
    ∙ ap (λ (t : List ℕ). length (cells_of len t)) (take_all s pages end) in
    forward_ends n b (cells_of len pages) was c at x vs g p whole

pub length-entries : (cs vs : List ℕ) → length vs ≡ length cs → length (zip cs vs) ≡ length vs
length-entries cs vs p = omega (arith, length-zip_same cs vs p)
