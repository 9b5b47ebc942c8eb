-- The ten heaviest of routines.
use Rattle.std.proofs.Common.{◌≡◌, ℕ, zero, suc, ◌+◌, Bool, true, false, nat_le, List, [], ◌∷◌}
use Rattle.std.proofs.Common.{take, drop, Some, refl, sym, ap, ◌∙◌, arith, take-take}
use Rattle.std.specs.Prelude.{map, slice_get, if◌then◌else◌}
use Rattle.std.specs.Option.{option_map}
use Rattle.meaning.specs.Places.{total}
use Rattle.messages_diagnosis.specs.declared.routine_figures.RoutineFigures.{RoutineFigures}
use Rattle.messages_diagnosis.specs.Figures.{placed, ranked, size_of}

-- Where more are placed than are kept

take_behind : (m : ℕ) (y : RoutineFigures) (ys : List RoutineFigures) → take m (y ∷ take m ys) ≡ take m (y ∷ ys)
take_behind zero y ys = refl
take_behind (suc m) y ys = ap (λ zs. y ∷ zs) (take-take m (suc m) ys (omega arith))

pub kept : (n : ℕ) (r : RoutineFigures) (xs : List RoutineFigures)
    → take n (placed r (take n xs)) ≡ take n (placed r xs)
kept zero r xs = refl
kept (suc n) r [] = refl
kept (suc n) r (y ∷ ys) = go (nat_le y.weight r.weight) (kept n r ys)
  where
    go : (b : Bool) → take n (placed r (take n ys)) ≡ take n (placed r ys)
        → take (suc n) (if b then r ∷ y ∷ take n ys else y ∷ placed r (take n ys))
        ≡ take (suc n) (if b then r ∷ y ∷ ys else y ∷ placed r ys)
    go true rest = ap (λ zs. r ∷ zs) (take_behind n y ys)
    go false rest = ap (λ zs. y ∷ zs) rest

-- From the last routine to the first

module _ {A : Type 0} (f : A → RoutineFigures) where
  pub from_here : (rs : List A) (i : ℕ) (x : RoutineFigures) → Some x ≡ option_map f (slice_get rs i)
      → map f (drop i rs) ≡ x ∷ map f (drop (suc i) rs)
  from_here [] i x is = absurd (cc)
  from_here (r ∷ rs) zero x is = let same : x ≡ f r = cc in ap (λ y. y ∷ map f rs) (sym same)
  from_here (r ∷ rs) (suc i) x is = from_here rs i x is

  module _ (rs : List A) (i j : ℕ) (x : RoutineFigures) (follows : j ≡ suc i)
      (is : Some x ≡ option_map f (slice_get rs i)) where
    here : map f (drop i rs) ≡ x ∷ map f (drop j rs)
    here = from_here rs i x is ∙ ap (λ k. x ∷ map f (drop k rs)) (sym follows)

    pub heavier : (found next : List RoutineFigures) → found ≡ take 10 (ranked (map f (drop j rs)))
        → next ≡ take 10 (placed x found) → next ≡ take 10 (ranked (map f (drop i rs)))
    heavier found next so_far placed_in =
        placed_in ∙ ap (λ xs. take 10 (placed x xs)) so_far ∙ kept 10 x (ranked (map f (drop j rs)))
        ∙ sym (ap (λ xs. take 10 (ranked xs)) here)

    pub longer : (size next : ℕ) → size ≡ total (map size_of (map f (drop j rs))) → next ≡ size + x.size
        → next ≡ total (map size_of (map f (drop i rs)))
    longer size next so_far sum =
        let all : x.size + total (map size_of (map f (drop j rs))) ≡ total (map size_of (map f (drop i rs))) =
        sym (ap (λ xs. total (map size_of xs)) here) in
        omega (arith, so_far, sum, all)
