-- A forest stays a forest where an object is removed, or moved into another.
use Rattle.std.proofs.Common.{◌≡◌, ◌==◌, ℕ, arith, if◌then◌else◌, ◌∷◌, refl, sym, ◌∙◌, subst, inl, inr, ◌⊎◌}
use Rattle.std.proofs.lemmas.Bool.{cases_eq}
use Rattle.meaning.specs.Objects.{Tree, without, removed, inserted}
use Rattle.meaning.specs.Forests.{Among, Once, IsObjectNumber, IsForest}
use Rattle.meaning.proofs.ObjectLists.{if_same, if_other, among_without, among_left, once_without}

-- Removals

-- an object without a parent stands in no list
pub nowhere : (n : ℕ) (t : Tree) (o p : ℕ) → IsForest n t → t.parent o ≡ 0 → Among o (t.children p) → ⊥
nowhere n t o p forest none a =
    let at = forest.parents p o a in
    let low = at.1.low in
    omega (arith, at.0, low, none)

pub removed_forest : (n : ℕ) (t : Tree) (o : ℕ) → IsForest n t → IsForest n (removed o t)
removed_forest n t o forest = record {
  objects = λ p x a. forest.objects p x (among_without o x (t.children p) a).0;
  parents = λ p x a.
      let b = among_without o x (t.children p) a in
      let at = forest.parents p x b.0 in
      (if_other x o 0 (t.parent x) b.1 ∙ at.0, at.1);
  stand = stand;
  once = λ p. once_without o (t.children p) (forest.once p);
}
  where
    stand : (x : ℕ) → ((if x == o then 0 else t.parent x) ≡ 0 → ⊥)
        → Among x (without o (t.children (if x == o then 0 else t.parent x)))
    stand x not = elim (cases_eq x o) [
      | inl same ↦ absurd (not (if_same x o 0 (t.parent x) same))
      | inr other ↦
          let e = if_other x o 0 (t.parent x) other in
          subst (λ q. Among x (without o (t.children q))) (sym e)
          (among_left o x (t.children (t.parent x)) other (forest.stand x (λ f. not (e ∙ f))))
    ]

-- Insertions

pub inserted_forest : (n : ℕ) (t : Tree) (o into : ℕ) → IsForest n t → IsObjectNumber n o
    → IsObjectNumber n into → t.parent o ≡ 0 → IsForest n (inserted o into t)
inserted_forest n t o into forest object target none = record {
  objects = objects;
  parents = parents;
  stand = stand;
  once = once;
}
  where
    here : (p : ℕ) → p ≡ into → (inserted o into t).children p ≡ o ∷ t.children p
    here p e = if_same p into (o ∷ t.children p) (t.children p) e

    there : (p : ℕ) → (p ≡ into → ⊥) → (inserted o into t).children p ≡ t.children p
    there p not = if_other p into (o ∷ t.children p) (t.children p) not

    -- who stands in a list now
    who : (p x : ℕ) → Among x ((inserted o into t).children p) → ((x ≡ o) × (p ≡ into)) ⊎ Among x (t.children p)
    who p x a = elim (cases_eq p into) [
      | inl e ↦ elim (subst (Among x) (here p e) a) [
        | inl f ↦ inl (f, e)
        | inr b ↦ inr b
      ]
      | inr not ↦ inr (subst (Among x) (there p not) a)
    ]

    stays : (p x : ℕ) → Among x (t.children p) → Among x ((inserted o into t).children p)
    stays p x a = elim (cases_eq p into) [
      | inl e ↦ subst (Among x) (sym (here p e)) (inr a)
      | inr not ↦ subst (Among x) (sym (there p not)) a
    ]

    objects : (p x : ℕ) → Among x ((inserted o into t).children p) → IsObjectNumber n x
    objects p x a = elim (who p x a) [
      | inl new ↦ subst (IsObjectNumber n) (sym new.0) object
      | inr b ↦ forest.objects p x b
    ]

    parents : (p x : ℕ) → Among x ((inserted o into t).children p)
        → ((inserted o into t).parent x ≡ p) × IsObjectNumber n p
    parents p x a = elim (who p x a) [
      | inl new ↦ (if_same x o into (t.parent x) new.0 ∙ sym new.1, subst (IsObjectNumber n) (sym new.1) target)
      | inr b ↦
          let at = forest.parents p x b in
          let not_it : x ≡ o → ⊥ = λ e. nowhere n t o p forest none (subst (λ y. Among y (t.children p)) e b) in
          (if_other x o into (t.parent x) not_it ∙ at.0, at.1)
    ]

    stand : (x : ℕ) → ((inserted o into t).parent x ≡ 0 → ⊥)
        → Among x ((inserted o into t).children ((inserted o into t).parent x))
    stand x some = elim (cases_eq x o) [
      | inl e ↦ subst (λ q. Among x ((inserted o into t).children q)) (sym (if_same x o into (t.parent x) e))
          (subst (Among x) (sym (here into refl)) (inl e))
      | inr other ↦
          let e = if_other x o into (t.parent x) other in
          subst (λ q. Among x ((inserted o into t).children q)) (sym e)
          (stays (t.parent x) x (forest.stand x (λ f. some (e ∙ f))))
    ]

    once : (p : ℕ) → Once ((inserted o into t).children p)
    once p = elim (cases_eq p into) [
      | inl e ↦ subst Once (sym (here p e)) (nowhere n t o p forest none, forest.once p)
      | inr not ↦ subst Once (sym (there p not)) (forest.once p)
    ]

-- Both
