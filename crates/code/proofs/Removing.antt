-- An object that is removed, in links.
use Rattle.std.proofs.Common.{◌≡◌, ◌==◌, ℕ, ◌≤◌, Bool, true, if◌then◌else◌, length, ap, sym, ◌∙◌, arith, subst, inl}
use Rattle.std.proofs.Common.{inr, ◌⊎◌}
use Rattle.std.proofs.lemmas.Bool.{cases_eq}
use Rattle.zcore.specs.Entries.{Link, Parent, Sibling, Child, owner}
use Rattle.meaning.specs.Objects.{Tree, without, removed}
use Rattle.meaning.specs.Forests.{Among, IsObjectNumber, IsForest}
use Rattle.meaning.proofs.ObjectLists.{if_same, if_other, without_absent, few}
use Rattle.meaning.proofs.Forests.{nowhere}
use Rattle.code.specs.Links.{Links, IsChain, HoldsTree}
use Rattle.code.proofs.Chains.{Names, names_owner, chain_found, chain_kept, chain_without, WroteLink}
use Rattle.code.proofs.Chains.{FoundInChain, sibling_of}

-- the cell that names an object with a parent is found
pub removed_found : (is_object : ℕ → Bool) (n : ℕ) (t : Tree) (l : Links) (o steps : ℕ) → IsForest n t
    → HoldsTree n t l → (t.parent o ≡ 0 → ⊥)
    → ((x : ℕ) → IsObjectNumber n x → is_object x ≡ true) → n ≤ steps
    → FoundInChain is_object l o (Child (t.parent o)) (t.children (t.parent o)) steps
removed_found is_object n t l o steps forest holds some all room =
    let p = t.parent o in
    let xs = t.children p in
    let a = forest.stand o some in
    let short : length xs ≤ n = few n xs (forest.once p) (forest.objects p) in
    chain_found is_object l o (Child p) xs steps (holds.chains p (forest.parents p o a).1) a (omega arith)
    (λ x b. all x (forest.objects p x b))

pub removed_alone : (n : ℕ) (t : Tree) (l : Links) (o : ℕ) → IsForest n t → HoldsTree n t l → t.parent o ≡ 0
    → HoldsTree n (removed o t) l
removed_alone n t l o forest holds none = record {
  parents = λ x i. holds.parents x i ∙ sym (same x);
  chains = λ p i. subst (IsChain l (Child p)) (sym (without_absent o (t.children p) (nowhere n t o p forest none)))
      (holds.chains p i);
  alone = λ x i e. holds.alone x i (sym (same x) ∙ e);
}
  where
    same : (x : ℕ) → (if x == o then 0 else t.parent x) ≡ t.parent x
    same x = elim (cases_eq x o) [
      | inl e ↦ if_same x o 0 (t.parent x) e ∙ sym (ap t.parent e ∙ none)
      | inr other ↦ if_other x o 0 (t.parent x) other
    ]

-- the three writes of a removal
pub record Removal (n o : ℕ) (l : Links) (at : Link) (m : Links) : Type 0 where
  pub first : Links
  pub second : Links
  pub unlinked : WroteLink n l at (l (Sibling o)) first
  pub orphaned : WroteLink n first (Parent o) 0 second
  pub alone : WroteLink n second (Sibling o) 0 m

pub removed_holds : (n : ℕ) (t : Tree) (l m : Links) (o : ℕ) (at : Link) → IsForest n t → HoldsTree n t l
    → IsObjectNumber n o → (t.parent o ≡ 0 → ⊥)
    → Names o (Child (t.parent o)) (t.children (t.parent o)) at → Removal n o l at m → HoldsTree n (removed o t) m
removed_holds n t l m o at forest holds object some names wrote =
    record { parents = parents; chains = chains; alone = alone }
  where
    is_parent : IsObjectNumber n (t.parent o)
    is_parent = (forest.parents (t.parent o) o (forest.stand o some)).1

    -- a cell that none of the writes names
    kept : (e : Link) → IsObjectNumber n (owner e) → (e ≡ at → ⊥) → (e ≡ Parent o → ⊥) → (e ≡ Sibling o → ⊥) → m e ≡ l e
    kept e i not_at not_parent not_sibling = wrote.alone.there e i not_sibling ∙ wrote.orphaned.there e i not_parent
        ∙ wrote.unlinked.there e i not_at

    -- where the object was named
    named : (at ≡ Child (t.parent o)) ⊎ ((x : ℕ) × Among x (t.children (t.parent o)) × (x ≡ o → ⊥) × (at ≡ Sibling x))
    named = names_owner o (Child (t.parent o)) (t.children (t.parent o)) at names

    not_parent : (x : ℕ) → Parent x ≡ at → ⊥
    not_parent x e = elim named [
      | inl f ↦ cc
      | inr f ↦ let g = f.3 in cc
    ]

    not_other_child : (q : ℕ) → (q ≡ t.parent o → ⊥) → Child q ≡ at → ⊥
    not_other_child q other e = elim named [
      | inl f ↦ other (cc)
      | inr f ↦ let g = f.3 in cc
    ]

    -- the sibling of an object with another parent
    not_far_sibling : (x : ℕ) → (t.parent x ≡ t.parent o → ⊥) → Sibling x ≡ at → ⊥
    not_far_sibling x far e = elim named [
      | inl f ↦ cc
      | inr f ↦ far (ap t.parent (sibling_of (e ∙ f.3)) ∙ (forest.parents (t.parent o) f.0 f.1).0)
    ]

    taken : m at ≡ l (Sibling o)
    taken = elim named [
      | inl f ↦
          ap m f ∙ wrote.alone.there (Child (t.parent o)) is_parent (λ e. cc)
          ∙ wrote.orphaned.there (Child (t.parent o)) is_parent (λ e. cc) ∙ ap wrote.first (sym f)
          ∙ wrote.unlinked.here
      | inr f ↦
          let i = forest.objects (t.parent o) f.0 f.1 in
          ap m f.3 ∙ wrote.alone.there (Sibling f.0) i (λ e. f.2 (sibling_of e))
          ∙ wrote.orphaned.there (Sibling f.0) i (λ e. cc) ∙ ap wrote.first (sym f.3) ∙ wrote.unlinked.here
    ]

    parents : (x : ℕ) → IsObjectNumber n x → m (Parent x) ≡ (if x == o then 0 else t.parent x)
    parents x i = elim (cases_eq x o) [
      | inl same ↦ wrote.alone.there (Parent x) i (λ e. cc) ∙ ap (λ y. wrote.second (Parent y)) same
          ∙ wrote.orphaned.here ∙ sym (if_same x o 0 (t.parent x) same)
      | inr other ↦ kept (Parent x) i (not_parent x) (λ e. other (cc)) (λ e. cc) ∙ holds.parents x i
          ∙ sym (if_other x o 0 (t.parent x) other)
    ]

    alone : (x : ℕ) → IsObjectNumber n x → (if x == o then 0 else t.parent x) ≡ 0 → m (Sibling x) ≡ 0
    alone x i none = elim (cases_eq x o) [
      | inl same ↦ ap (λ y. m (Sibling y)) same ∙ wrote.alone.here
      | inr other ↦
          let root = sym (if_other x o 0 (t.parent x) other) ∙ none in
          kept (Sibling x) i (not_far_sibling x (λ e. some (sym e ∙ root))) (λ e. cc) (λ e. other (sibling_of e))
          ∙ holds.alone x i root
    ]

    chains : (q : ℕ) → IsObjectNumber n q → IsChain m (Child q) (without o (t.children q))
    chains q i = elim (cases_eq q (t.parent o)) [
      | inl same ↦ subst (λ (r : ℕ). IsChain m (Child r) (without o (t.children r))) (sym same)
          (chain_without l m o (Child (t.parent o)) (t.children (t.parent o)) at (holds.chains (t.parent o) is_parent)
          (forest.once (t.parent o)) names (λ x a e. cc) taken
          (λ not. kept (Child (t.parent o)) is_parent not (λ e. cc) (λ e. cc))
          (λ x a other not. kept (Sibling x) (forest.objects (t.parent o) x a) not (λ e. cc)
          (λ e. other (sibling_of e))))
      | inr other ↦
          let absent : Among o (t.children q) → ⊥ = λ a. other (sym (forest.parents q o a).0) in
          subst (IsChain m (Child q)) (sym (without_absent o (t.children q) absent))
          (chain_kept l m (Child q) (Child q) (t.children q) (holds.chains q i)
          (kept (Child q) i (not_other_child q other) (λ e. cc) (λ e. cc))
          (λ x a. kept (Sibling x) (forest.objects q x a)
          (not_far_sibling x (λ e. other (sym (forest.parents q x a).0 ∙ e))) (λ e. cc)
          (λ e. absent (subst (λ y. Among y (t.children q)) (sibling_of e) a))))
    ]
