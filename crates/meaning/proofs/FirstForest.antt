-- The tree with which an accepted source begins is a forest, in which no object lies inside itself.
use Rattle.std.proofs.Common.{◌≡◌, ◌==◌, ◌+◌, ◌≤◌, ◌<◌, ℕ, zero, suc, if◌then◌else◌, List, [], ◌∷◌, length}
use Rattle.std.proofs.Common.{slice_index_or, refl, ap, sym, ◌∙◌, arith, subst, inl, inr}
use Rattle.std.proofs.lemmas.Bool.{cases_eq}
use Rattle.meaning.specs.Objects.{ObjectOf, no_object, object_at, standing_in, first_objects}
use Rattle.meaning.specs.Forests.{Among, Once, IsForest}
use Rattle.meaning.proofs.ObjectLists.{if_same, if_other}

-- the parent of the object at a place, from 0
abbrev parent_at : List ObjectOf → ℕ → ℕ
parent_at xs k = (slice_index_or xs k no_object).parent

-- who stands in a parent is listed with it, at its place
record Listed (p o : ℕ) (xs : List ObjectOf) (x : ℕ) : Type 0 where
  place : ℕ
  is : x ≡ o + place
  inside : place < length xs
  parent : parent_at xs place ≡ p

-- a list that begins with an object, or goes on without it
module _ (p o : ℕ) (x : ObjectOf) (xs : List ObjectOf) where
  stands : x.parent ≡ p → standing_in p o (x ∷ xs) ≡ o ∷ standing_in p (suc o) xs
  stands e = if_same x.parent p (o ∷ standing_in p (suc o) xs) (standing_in p (suc o) xs) e

  stands_not : (x.parent ≡ p → ⊥) → standing_in p o (x ∷ xs) ≡ standing_in p (suc o) xs
  stands_not not = if_other x.parent p (o ∷ standing_in p (suc o) xs) (standing_in p (suc o) xs) not

later : (p o : ℕ) (x : ObjectOf) (xs : List ObjectOf) (y : ℕ) → Listed p (suc o) xs y → Listed p o (x ∷ xs) y
later p o x xs y l = record {
  place = suc (l.place);
  is = omega (arith, l.is);
  inside = omega (arith, l.inside);
  parent = l.parent;
}

listed : (p o : ℕ) (xs : List ObjectOf) (y : ℕ) → Among y (standing_in p o xs) → Listed p o xs y
listed p o [] y a = absurd a
listed p o (x ∷ xs) y a = elim (cases_eq x.parent p) [
  | inl same ↦ elim (subst (Among y) (stands p o x xs same) a) [
    | inl e ↦ record { place = zero; is = e ∙ omega arith; inside = omega arith; parent = same }
    | inr b ↦ later p o x xs y (listed p (suc o) xs y b)
  ]
  | inr other ↦ later p o x xs y (listed p (suc o) xs y (subst (Among y) (stands_not p o x xs other) a))
]

stands_there : (o : ℕ) (xs : List ObjectOf) (k p : ℕ) → k < length xs → parent_at xs k ≡ p
    → Among (o + k) (standing_in p o xs)
stands_there o [] k p lt e = absurd (omega arith)
stands_there o (x ∷ xs) zero p lt e = subst (Among (o + zero)) (sym (stands p o x xs e)) (inl (omega arith))
stands_there o (x ∷ xs) (suc k) p lt e =
    let next : suc o + k ≡ o + suc k = omega arith in
    let rest : Among (o + suc k) (standing_in p (suc o) xs) =
    subst (λ y. Among y (standing_in p (suc o) xs)) next (stands_there (suc o) xs k p (omega arith) e) in
    elim (cases_eq x.parent p) [
      | inl same ↦ subst (Among (o + suc k)) (sym (stands p o x xs same)) (inr rest)
      | inr other ↦ subst (Among (o + suc k)) (sym (stands_not p o x xs other)) rest
    ]

stands_once : (p o : ℕ) (xs : List ObjectOf) → Once (standing_in p o xs)
stands_once p o [] = tt
stands_once p o (x ∷ xs) = elim (cases_eq x.parent p) [
  | inl same ↦ subst Once (sym (stands p o x xs same))
      ((λ a. let l = listed p (suc o) xs o a in omega (arith, l.is)), stands_once p (suc o) xs)
  | inr other ↦ subst Once (sym (stands_not p o x xs other)) (stands_once p (suc o) xs)
]

-- one with a parent is listed
within : (xs : List ObjectOf) (k : ℕ) → (parent_at xs k ≡ 0 → ⊥) → k < length xs
within [] k some = absurd (some refl)
within (x ∷ xs) zero some = omega arith
within (x ∷ xs) (suc k) some = let l = within xs k some in omega arith

-- each parent stands earlier
module _ (xs : List ObjectOf) (earlier : (k : ℕ) → k < length xs → parent_at xs k ≤ k) where
  abbrev children_of : ℕ → List ℕ
  children_of p = if p == 0 then [] else standing_in p 1 xs

  children_are : (p : ℕ) → (p ≡ 0 → ⊥) → children_of p ≡ standing_in p 1 xs
  children_are p some = if_other p 0 [] (standing_in p 1 xs) some

  record IsChildOf (p o : ℕ) : Type 0 where
    some : p ≡ 0 → ⊥
    listed : Listed p 1 xs o

  child_is : (p o : ℕ) → Among o (children_of p) → IsChildOf p o
  child_is p o a = elim (cases_eq p 0) [
    | inl none ↦ absurd (subst (Among o) (if_same p 0 [] (standing_in p 1 xs) none) a)
    | inr some ↦ record { some = some; listed = listed p 1 xs o (subst (Among o) (children_are p some) a) }
  ]

  parent_of : (p o : ℕ) → Listed p 1 xs o → (object_at xs o).parent ≡ p
  parent_of p o l =
      let e : o ≡ suc (l.place) = omega (arith, l.is) in
      ap (λ n. (object_at xs n).parent) e ∙ l.parent

  pub first_forest : IsForest (length xs) ((first_objects xs).tree)
  first_forest = record {
    objects = λ p o a.
        let l = (child_is p o a).listed in
        record { low = omega (arith, l.is); high = omega (arith, l.is, l.inside) };
    parents = λ p o a.
        let c = child_is p o a in
        let some = c.some in
        let l = c.listed in
        let le = earlier (l.place) (l.inside) in
        (parent_of p o l, record { low = omega arith; high = omega (arith, le, l.parent, l.inside) });
    stand = stand;
    once = λ p. once p;
  }
    where
      once : (p : ℕ) → Once (children_of p)
      once p = elim (cases_eq p 0) [
        | inl none ↦ subst Once (sym (if_same p 0 [] (standing_in p 1 xs) none)) tt
        | inr some ↦ subst Once (sym (children_are p some)) (stands_once p 1 xs)
      ]

      stand : (o : ℕ) → ((object_at xs o).parent ≡ 0 → ⊥) → Among o (children_of ((object_at xs o).parent))
      stand zero some = absurd (some refl)
      stand (suc k) some =
          let p = parent_at xs k in
          let next : 1 + k ≡ suc k = omega arith in
          subst (Among (suc k)) (sym (children_are p some))
          (subst (λ x. Among x (standing_in p 1 xs)) next (stands_there 1 xs k p (within xs k some) refl))
