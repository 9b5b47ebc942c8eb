-- A loop over a list of anything that has broken rules and resolves.
use Rattle.std.proofs.Common.{◌≡◌, ℕ, zero, suc, ◌+◌, ◌<◌, ◌≤◌, List, [], ◌∷◌, ◌++◌, length, take, drop, slice_index_or}
use Rattle.std.proofs.Common.{refl, sym, ap, ◌∙◌, arith}
use Rattle.std.specs.Prelude.{map}
use Rattle.std.specs.List.{flat_map}
use Rattle.checker_values.specs.declared.breach.Breach.{Breach}
use Rattle.checker_values.specs.declared.noting.Tally.{Tally}
use Rattle.checker_values.specs.Noted.{noted}
use Rattle.checker_values.proofs.Noted.{noted_none, noted_append}

-- within a list what would follow its end does not matter
same_here : {A : Type 0} (xs : List A) (i : ℕ) (d e : A) → i < length xs → slice_index_or xs i d ≡ slice_index_or xs i e
same_here [] i d e h = absurd (omega arith)
same_here (y ∷ xs) zero d e h = refl
same_here (y ∷ xs) (suc i) d e h = same_here xs i d e (omega arith)

module _ {A B R : Type 0} (f : A → List Breach) (g : A → R) (v : B → R) where
  from_here : (xs : List A) (i : ℕ) (x : A) → i < length xs
      → flat_map f (drop i xs) ≡ f (slice_index_or xs i x) ++ flat_map f (drop (suc i) xs)
  from_here [] i x h = absurd (omega arith)
  from_here (y ∷ xs) zero x h = refl
  from_here (y ∷ xs) (suc i) x h = from_here xs i x (omega arith)

  -- what is still to be noted, before one of the list and after it
  pub each_next : (m : Tally) (xs : List A) (i : ℕ) (x : A) → i < length xs → x ≡ slice_index_or xs i x
      → noted m (flat_map f (drop i xs)) ≡ noted (noted m (f x)) (flat_map f (drop (i + 1) xs))
  each_next m xs i x lt is =
      let j : i + 1 ≡ suc i = omega arith in
      let e : flat_map f (drop i xs) ≡ f x ++ flat_map f (drop (suc i) xs) = from_here xs i x lt
      ∙ ap (λ (y : A). f y ++ flat_map f (drop (suc i) xs)) (sym is) in
      rw (j, e) (noted_append m (f x) (flat_map f (drop (suc i) xs)))

  -- nothing is left at the end
  pub each_end : (m : Tally) (xs : List A) (i : ℕ) → length xs ≤ i → noted m (flat_map f (drop i xs)) ≡ m
  each_end m [] zero h = noted_none m
  each_end m [] (suc i) h = noted_none m
  each_end m (x ∷ xs) zero h = absurd (omega arith)
  each_end m (x ∷ xs) (suc i) h = each_end m xs i (omega arith)

  map_more : (xs : List A) (i : ℕ) (x : A) → i < length xs
      → map g (take (suc i) xs) ≡ map g (take i xs) ++ g (slice_index_or xs i x) ∷ []
  map_more [] i x h = absurd (omega arith)
  map_more (y ∷ xs) zero x h = refl
  map_more (y ∷ xs) (suc i) x h = ap (λ r. g y ∷ r) (map_more xs i x (omega arith))

  map_push : (rs : List B) (r : B) → map v (rs ++ r ∷ []) ≡ map v rs ++ v r ∷ []
  map_push [] r = refl
  map_push (s ∷ rs) r = ap (λ t. v s ∷ t) (map_push rs r)

  -- what was resolved, with one more of the list
  pub value_next : (rs : List B) (r : B) (xs : List A) (i : ℕ) (x : A) → i < length xs → x ≡ slice_index_or xs i x
      → map v rs ≡ map g (take i xs) → v r ≡ g x → map v (rs ++ r ∷ []) ≡ map g (take (i + 1) xs)
  value_next rs r xs i x lt is so_far h =
      let j : i + 1 ≡ suc i = omega arith in
      let e : map g (take (suc i) xs) ≡ map g (take i xs) ++ g x ∷ [] = map_more xs i x lt
      ∙ ap (λ (y : A). map g (take i xs) ++ g y ∷ []) (sym is) in
      rw (j, e, map_push, so_far, h) refl

  -- all of it was resolved at the end
  pub value_end : (xs : List A) (i : ℕ) → length xs ≤ i → map g (take i xs) ≡ map g xs
  value_end [] zero h = refl
  value_end [] (suc i) h = refl
  value_end (x ∷ xs) zero h = absurd (omega arith)
  value_end (x ∷ xs) (suc i) h = ap (λ r. g x ∷ r) (value_end xs i (omega arith))

  -- the same for one that is named by its place
  pub each_there : (m o : Tally) (xs : List A) (i : ℕ) (d : A) → i < length xs
      → o ≡ noted m (f (slice_index_or xs i d))
      → noted o (flat_map f (drop (i + 1) xs)) ≡ noted m (flat_map f (drop i xs))
  each_there m o xs i d lt is =
      let x = slice_index_or xs i d in
      rw is (sym (each_next m xs i x lt (same_here xs i d x lt)))
