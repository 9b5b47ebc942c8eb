-- An object that becomes the first child of another, in links.
use Rattle.std.proofs.Common.{◌≡◌, ◌==◌, ℕ, arith, if◌then◌else◌, ◌∷◌, ap, sym, ◌∙◌, subst, inl, inr}
use Rattle.std.proofs.lemmas.Bool.{cases_eq}
use Rattle.zcore.specs.Entries.{Link, Parent, Sibling, Child, owner}
use Rattle.meaning.specs.Objects.{Tree, inserted}
use Rattle.meaning.specs.Forests.{Among, IsObjectNumber, IsForest}
use Rattle.meaning.proofs.ObjectLists.{if_same, if_other}
use Rattle.meaning.proofs.Forests.{nowhere}
use Rattle.code.specs.Links.{Links, IsChain, HoldsTree}
use Rattle.code.proofs.Chains.{chain_kept, sibling_of, WroteLink}

-- the three writes of an insertion
pub record Insertion (n o into : ℕ) (l m : Links) : Type 0 where
  pub first : Links
  pub second : Links
  pub sibling : WroteLink n l (Sibling o) (l (Child into)) first
  pub parent : WroteLink n first (Parent o) into second
  pub child : WroteLink n second (Child into) o m

pub inserted_holds : (n : ℕ) (t : Tree) (l m : Links) (o into : ℕ) → IsForest n t → HoldsTree n t l
    → IsObjectNumber n o → IsObjectNumber n into → t.parent o ≡ 0
    → Insertion n o into l m → HoldsTree n (inserted o into t) m
inserted_holds n t l m o into forest holds object target none wrote =
    record { parents = parents; chains = chains; alone = alone }
  where
    kept : (e : Link) → IsObjectNumber n (owner e) → (e ≡ Sibling o → ⊥) → (e ≡ Parent o → ⊥) → (e ≡ Child into → ⊥)
        → m e ≡ l e
    kept e i not_sibling not_parent not_child = wrote.child.there e i not_child ∙ wrote.parent.there e i not_parent
        ∙ wrote.sibling.there e i not_sibling

    parents : (x : ℕ) → IsObjectNumber n x → m (Parent x) ≡ (if x == o then into else t.parent x)
    parents x i = elim (cases_eq x o) [
      | inl same ↦ wrote.child.there (Parent x) i (λ e. cc) ∙ ap (λ y. wrote.second (Parent y)) same
          ∙ wrote.parent.here ∙ sym (if_same x o into (t.parent x) same)
      | inr other ↦ kept (Parent x) i (λ e. cc) (λ e. other (cc)) (λ e. cc) ∙ holds.parents x i
          ∙ sym (if_other x o into (t.parent x) other)
    ]

    alone : (x : ℕ) → IsObjectNumber n x → (if x == o then into else t.parent x) ≡ 0 → m (Sibling x) ≡ 0
    alone x i root = elim (cases_eq x o) [
      | inl same ↦ let low = target.low in let e = sym (if_same x o into (t.parent x) same)
          ∙ root in absurd (omega (arith, low, e))
      | inr other ↦ kept (Sibling x) i (λ e. other (sibling_of e)) (λ e. cc) (λ e. cc)
          ∙ holds.alone x i (sym (if_other x o into (t.parent x) other) ∙ root)
    ]

    -- the siblings of objects that stood in a list
    siblings : (q x : ℕ) → Among x (t.children q) → m (Sibling x) ≡ l (Sibling x)
    siblings q x a = kept (Sibling x) (forest.objects q x a)
        (λ e. nowhere n t o q forest none (subst (λ y. Among y (t.children q)) (sibling_of e) a)) (λ e. cc) (λ e. cc)

    chains : (q : ℕ) → IsObjectNumber n q → IsChain m (Child q) (if q == into then o ∷ t.children q else t.children q)
    chains q i = elim (cases_eq q into) [
      | inl same ↦ subst (IsChain m (Child q)) (sym (if_same q into (o ∷ t.children q) (t.children q) same)) (
        ap (λ y. m (Child y)) same ∙ wrote.child.here,
        chain_kept l m (Child q) (Sibling o) (t.children q) (holds.chains q i)
            (wrote.child.there (Sibling o) object (λ e. cc) ∙ wrote.parent.there (Sibling o) object (λ e. cc)
            ∙ wrote.sibling.here ∙ ap (λ y. l (Child y)) (sym same)) (siblings q),
      )
      | inr other ↦ subst (IsChain m (Child q)) (sym (if_other q into (o ∷ t.children q) (t.children q) other))
          (chain_kept l m (Child q) (Child q) (t.children q) (holds.chains q i)
          (kept (Child q) i (λ e. cc) (λ e. cc) (λ e. other (cc))) (siblings q))
    ]
