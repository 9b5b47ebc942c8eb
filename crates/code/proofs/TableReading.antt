-- What links tell of the tree that they hold.
use Rattle.std.proofs.Common.{◌≡◌, ℕ, List, [], ◌∷◌, refl, ap, sym, subst, ◌∙◌, inl, inr}
use Rattle.std.proofs.lemmas.Bool.{cases_eq}
use Rattle.zcore.specs.Entries.{Link, Parent, Sibling, Child, owner}
use Rattle.syntax_trees.specs.declared.tree.Relative.TheVariants as relatives
use Rattle.meaning.specs.Objects.{Tree, first_of, after_in, relative_in}
use Rattle.meaning.specs.Forests.{Among, Once, IsObjectNumber, IsForest}
use Rattle.meaning.proofs.ObjectLists.{if_same, if_other}
use Rattle.meaning.proofs.Forests.{nowhere}
use Rattle.code.specs.Links.{Links, IsChain, HoldsTree}
use Rattle.code.proofs.Chains.{behind_absent, chain_first, chain_behind, chain_kept}

-- links that hold a tree tell of it
module _ (n : ℕ) (t : Tree) (l : Links) (o : ℕ) (holds : HoldsTree n t l) (i : IsObjectNumber n o) where
  pub tells_child : l (Child o) ≡ relative_in relatives.Child o t
  tells_child = chain_first l (Child o) (t.children o) (holds.chains o i)

  pub tells_sibling : IsForest n t → l (Sibling o) ≡ relative_in relatives.Sibling o t
  tells_sibling forest = elim (cases_eq (t.parent o) 0) [
    | inl none ↦
        let absent : Among o (t.children (t.parent o)) → ⊥ = nowhere n t o (t.parent o) forest none in
        holds.alone o i none ∙ sym (behind_absent o (t.children (t.parent o)) absent)
    | inr some ↦
        let a = forest.stand o some in
        let parent = (forest.parents (t.parent o) o a).1 in
        chain_behind l (Child (t.parent o)) o (t.children (t.parent o)) (holds.chains (t.parent o) parent) a
  ]

-- links that are the same hold the same tree
pub tree_kept : (n : ℕ) (t : Tree) (l m : Links) → IsForest n t → HoldsTree n t l
    → ((c : Link) → IsObjectNumber n (owner c) → m c ≡ l c) → HoldsTree n t m
tree_kept n t l m forest holds same = record {
  parents = λ o i. same (Parent o) i ∙ holds.parents o i;
  chains = λ p i.
      chain_kept l m (Child p) (Child p) (t.children p) (holds.chains p i) (same (Child p) i)
      (λ x a. same (Sibling x) (forest.objects p x a));
  alone = λ o i none. same (Sibling o) i ∙ holds.alone o i none;
}

-- Links that tell of a tree hold it.

chain_of : (l : Links) (c : Link) (xs : List ℕ) → Once xs → l c ≡ first_of xs
    → ((x : ℕ) → Among x xs → l (Sibling x) ≡ after_in x xs) → IsChain l c xs
chain_of l c [] once is next = is
chain_of l c (x ∷ xs) once is next =
    let second : l (Sibling x) ≡ first_of xs = next x (inl refl) ∙ if_same x x (first_of xs) (after_in x xs) refl in
    let later : (y : ℕ) → Among y xs → l (Sibling y) ≡ after_in y xs = λ y a.
    next y (inr a)
    ∙ if_other x y (first_of xs) (after_in y xs) (λ e. once.0 (subst (λ z. Among z xs) (sym e) a)) in
    (is, chain_of l (Sibling x) xs once.1 second later)

pub told_tree : (n : ℕ) (t : Tree) (l : Links) → IsForest n t
    → ((o : ℕ) → IsObjectNumber n o → l (Parent o) ≡ relative_in relatives.Parent o t)
    → ((o : ℕ) → IsObjectNumber n o → l (Child o) ≡ relative_in relatives.Child o t)
    → ((o : ℕ) → IsObjectNumber n o → l (Sibling o) ≡ relative_in relatives.Sibling o t) → HoldsTree n t l
told_tree n t l forest parent child sibling = record {
  parents = parent;
  chains = λ p i.
      chain_of l (Child p) (t.children p) (forest.once p) (child p i)
      (λ x a. sibling x (forest.objects p x a)
      ∙ ap (λ q. after_in x (t.children q)) (forest.parents p x a).0);
  alone = λ o i none.
      sibling o i
      ∙ behind_absent o (t.children (t.parent o)) (nowhere n t o (t.parent o) forest none);
}
