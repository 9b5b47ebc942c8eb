-- Loops over lists whose items stand for trees.
use Rattle.std.proofs.Common.{◌≡◌, ℕ, zero, suc, ◌+◌, ◌<◌, ◌≤◌, List, [], ◌∷◌, ◌++◌, length, drop, slice_index_or}
use Rattle.std.proofs.Common.{refl, sym, ap, ◌∙◌, append_assoc, arith}
use Rattle.std.specs.Prelude.{map}
use Rattle.std.specs.List.{flat_map}
use Rattle.checker_values.specs.declared.breach.Breach.{Breach}
use Rattle.checker_values.specs.declared.noting.Tally.{Tally}
use Rattle.checker_values.specs.Noted.{noted}
use Rattle.checker_values.proofs.Noted.{noted_none, noted_append}
use Rattle.checker_values.proofs.Dropped.{drop_here, drop_end}

pub nothing_more : {A : Type 0} (xs : List A) → xs ≡ xs ++ []
nothing_more [] = refl
nothing_more (x ∷ xs) = ap (λ r. x ∷ r) (nothing_more xs)

pub map_push : {A B : Type 0} (f : A → B) (xs : List A) (x : A) → map f (xs ++ x ∷ []) ≡ map f xs ++ f x ∷ []
map_push f [] x = refl
map_push f (y ∷ ys) x = ap (λ r. f y ∷ r) (map_push f ys x)

-- within a list what would follow its end does not matter
same_here : {A : Type 0} (xs : List A) (i : ℕ) (d e : A) → i < length xs → slice_index_or xs i d ≡ slice_index_or xs i e
same_here [] i d e h = absurd (omega (arith, h))
same_here (y ∷ xs) zero d e h = refl
same_here (y ∷ xs) (suc i) d e h = same_here xs i d e (omega (arith, h))

module _ {A T : Type 0} (tree : A → T) where
  -- one more is made, and nothing is left at the end

  pub list_next : {R : Type 0} (g : T → R) (old new whole : List R) (r : R) (xs : List A) (i : ℕ) (x : A)
      → i < length xs
      → x ≡ slice_index_or xs i x → new ≡ old ++ r ∷ [] → r ≡ g (tree x)
      → old ++ map g (map tree (drop i xs)) ≡ whole → new ++ map g (map tree (drop (i + 1) xs)) ≡ whole
  list_next {R = R} g old new whole r xs i x lt is more value h =
      let rest : List R = map g (map tree (drop (i + 1) xs)) in
      ap (λ (z : List R). z ++ rest) more
      ∙ append_assoc old (r ∷ []) rest
      ∙ ap (λ (y : R). old ++ y ∷ rest) value
      ∙ ap (λ (z : List A). old ++ map g (map tree z)) (sym (drop_here xs i x lt is))
      ∙ h

  -- the same for one that is named by where it stands
  pub list_there : {R : Type 0} (g : T → R) (old new whole : List R) (r : R) (xs : List A) (i : ℕ) (d : A)
      → i < length xs → new ≡ old ++ r ∷ [] → r ≡ g (tree (slice_index_or xs i d))
      → old ++ map g (map tree (drop i xs)) ≡ whole → new ++ map g (map tree (drop (i + 1) xs)) ≡ whole
  list_there g old new whole r xs i d lt more value h =
      list_next g old new whole r xs i (slice_index_or xs i d) lt
      (same_here xs i d (slice_index_or xs i d) lt) more value h

  pub list_end : {R : Type 0} (g : T → R) (old whole : List R) (xs : List A) (i : ℕ) → length xs ≤ i
      → old ++ map g (map tree (drop i xs)) ≡ whole → old ≡ whole
  list_end {R = R} g old whole xs i end h =
      nothing_more old ∙ ap (λ (z : List A). old ++ map g (map tree z)) (sym (drop_end xs i end)) ∙ h

  -- the rules of one more are noted, and none are left at the end

  pub note_next : (f : T → List Breach) (m o all : Tally) (xs : List A) (i : ℕ) (x : A) → i < length xs
      → x ≡ slice_index_or xs i x → o ≡ noted m (f (tree x))
      → noted m (flat_map f (map tree (drop i xs))) ≡ all → noted o (flat_map f (map tree (drop (i + 1) xs))) ≡ all
  note_next f m o all xs i x lt is met h =
      let rest : List Breach = flat_map f (map tree (drop (i + 1) xs)) in
      ap (λ (q : Tally). noted q rest) met
      ∙ sym (noted_append m (f (tree x)) rest)
      ∙ ap (λ (z : List A). noted m (flat_map f (map tree z))) (sym (drop_here xs i x lt is))
      ∙ h

  pub note_there : (f : T → List Breach) (m o all : Tally) (xs : List A) (i : ℕ) (d : A) → i < length xs
      → o ≡ noted m (f (tree (slice_index_or xs i d)))
      → noted m (flat_map f (map tree (drop i xs))) ≡ all → noted o (flat_map f (map tree (drop (i + 1) xs))) ≡ all
  note_there f m o all xs i d lt met h =
      note_next f m o all xs i (slice_index_or xs i d) lt (same_here xs i d (slice_index_or xs i d) lt) met h

  pub note_end : (f : T → List Breach) (m all : Tally) (xs : List A) (i : ℕ) → length xs ≤ i
      → noted m (flat_map f (map tree (drop i xs))) ≡ all → m ≡ all
  note_end f m all xs i end h =
      sym (noted_none m) ∙ ap (λ (z : List A). noted m (flat_map f (map tree z))) (sym (drop_end xs i end)) ∙ h
