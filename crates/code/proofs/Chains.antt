-- Lists that stand in links.
use Rattle.std.proofs.Common.{◌≡◌, ◌==◌, ℕ, ◌≤◌, zero, suc, Bool, true, if◌then◌else◌, List, [], ◌∷◌, length, Option}
use Rattle.std.proofs.Common.{Some, None, refl, ap, sym, ◌∙◌, arith, subst, inl, inr, ◌⊎◌}
use Rattle.std.proofs.lemmas.Bool.{cases_eq}
use Rattle.zcore.specs.Entries.{Link, Sibling, owner}
use Rattle.meaning.specs.Objects.{without, first_of, after_in}
use Rattle.meaning.specs.Forests.{Among, Once, IsObjectNumber}
use Rattle.meaning.proofs.ObjectLists.{if_same, if_other, without_other, without_absent}
use Rattle.code.specs.Links.{Links, IsChain}

-- The link that names an object, looked for from a link on along siblings. What is no object ends the search, and so
-- does the count of steps.
abbrev pub found : (ℕ → Bool) → Links → ℕ → Link → ℕ → Option Link
found is_object links o at zero = None
found is_object links o at (suc steps) =
    if links at == o then Some at
    else (if is_object (links at) then found is_object links o (Sibling (links at)) steps else None)

-- one link of the objects 1 to n is written, and the others are as before
pub record WroteLink (n : ℕ) (old : Links) (at : Link) (word : ℕ) (new : Links) : Type 0 where
  pub here : new at ≡ word
  pub there : (d : Link) → IsObjectNumber n (owner d) → (d ≡ at → ⊥) → new d ≡ old d

pub behind_absent : (o : ℕ) (xs : List ℕ) → (Among o xs → ⊥) → after_in o xs ≡ 0
behind_absent o [] not = refl
behind_absent o (x ∷ xs) not =
    if_other x o _ _ (λ e. not (inl (sym e))) ∙ behind_absent o xs (λ a. not (inr a))

-- The number in a chain's first link, and in that of a sibling

pub chain_first : (l : Links) (c : Link) (xs : List ℕ) → IsChain l c xs → l c ≡ first_of xs
chain_first l c [] chain = chain
chain_first l c (x ∷ xs) chain = chain.0

pub chain_behind : (l : Links) (c : Link) (o : ℕ) (xs : List ℕ) → IsChain l c xs → Among o xs
    → l (Sibling o) ≡ after_in o xs
chain_behind l c o [] chain a = absurd a
chain_behind l c o (x ∷ xs) chain (inl e) = ap (λ y. l (Sibling y)) e ∙ chain_first l (Sibling x) xs chain.1
    ∙ sym (if_same x o (first_of xs) (after_in o xs) (sym e))
chain_behind l c o (x ∷ xs) chain (inr a) = elim (cases_eq x o) [
  | inl same ↦ ap (λ y. l (Sibling y)) (sym same) ∙ chain_first l (Sibling x) xs chain.1
      ∙ sym (if_same x o (first_of xs) (after_in o xs) same)
  | inr other ↦ chain_behind l (Sibling x) o xs chain.1 a ∙ sym (if_other x o (first_of xs) (after_in o xs) other)
]

pub sibling_of : {x y : ℕ} → Sibling x ≡ Sibling y → x ≡ y
sibling_of e = cc

-- A chain stands in other links where the siblings of its objects are the same, and its first cell holds the same.
pub chain_kept : (l m : Links) (c d : Link) (xs : List ℕ) → IsChain l c xs → m d ≡ l c
    → ((x : ℕ) → Among x xs → m (Sibling x) ≡ l (Sibling x)) → IsChain m d xs
chain_kept l m c d [] chain start same = start ∙ chain
chain_kept l m c d (x ∷ xs) chain start same =
    (start ∙ chain.0, chain_kept l m (Sibling x) (Sibling x) xs chain.1 (same x (inl refl)) (λ y a. same y (inr a)))

-- the cell of a chain that names an object
abbrev pub Names : ℕ → Link → List ℕ → Link → Type 0
Names o c [] d = ⊥
Names o c (x ∷ xs) d = ((o ≡ x) × (d ≡ c)) ⊎ ((o ≡ x → ⊥) × Names o (Sibling x) xs d)

pub record FoundInChain (is_object : ℕ → Bool) (l : Links) (o : ℕ) (c : Link) (xs : List ℕ) (steps : ℕ) : Type 0 where
  pub at : Link
  pub is : found is_object l o c steps ≡ Some at
  pub names : Names o c xs at

-- an object of a chain is found
pub chain_found : (is_object : ℕ → Bool) (l : Links) (o : ℕ) (c : Link) (xs : List ℕ) (steps : ℕ) → IsChain l c xs
    → Among o xs → length xs ≤ steps
    → ((x : ℕ) → Among x xs → is_object x ≡ true) → FoundInChain is_object l o c xs steps
chain_found is_object l o c [] steps chain a few all = absurd a
chain_found is_object l o c (x ∷ xs) zero chain a few all = absurd (omega arith)
chain_found is_object l o c (x ∷ xs) (suc steps) chain (inl e) few all =
    record { at = c; is = if_same (l c) o (Some c) _ (chain.0 ∙ sym e); names = inl (e, refl) }
chain_found is_object l o c (x ∷ xs) (suc steps) chain (inr a) few all = elim (cases_eq o x) [
  | inl same ↦ record { at = c; is = if_same (l c) o (Some c) _ (chain.0 ∙ sym same); names = inl (same, refl) }
  | inr other ↦
      let rest = chain_found is_object l o (Sibling x) xs steps chain.1 a (omega arith) (λ y b. all y (inr b)) in
      record {
        at = rest.at;
        is = if_other (l c) o (Some c) _ (λ e. other (sym e ∙ chain.0))
            ∙ ap (λ y. if is_object y then found is_object l o (Sibling y) steps else None) chain.0
            ∙ ap (λ (t : Bool). if t then found is_object l o (Sibling x) steps else None) (all x (inl refl)) ∙ rest.is;
        names = inr (other, rest.names);
      }
]

-- the cell that names an object is a chain's first, or the sibling of another of its objects
pub names_owner : (o : ℕ) (c : Link) (xs : List ℕ) (d : Link) → Names o c xs d
    → (d ≡ c) ⊎ ((x : ℕ) × Among x xs × (x ≡ o → ⊥) × (d ≡ Sibling x))
names_owner o c [] d names = absurd names
names_owner o c (x ∷ xs) d (inl here) = inl here.1
names_owner o c (x ∷ xs) d (inr later) = elim (names_owner o (Sibling x) xs d later.1) [
  | inl e ↦ inr (x, inl refl, λ f. later.0 (sym f), e)
  | inr p ↦ inr (p.0, inr p.1, p.2, p.3)
]

-- Where that cell takes the sibling's number, the chain stands without the object.
pub chain_without : (l m : Links) (o : ℕ) (c : Link) (xs : List ℕ) (d : Link) → IsChain l c xs → Once xs
    → Names o c xs d
    → ((x : ℕ) → Among x xs → c ≡ Sibling x → ⊥) → m d ≡ l (Sibling o) → ((c ≡ d → ⊥) → m c ≡ l c)
    → ((x : ℕ) → Among x xs → (x ≡ o → ⊥) → (Sibling x ≡ d → ⊥) → m (Sibling x) ≡ l (Sibling x))
    → IsChain m c (without o xs)
chain_without l m o c [] d chain once names apart taken first same = absurd names
chain_without l m o c (x ∷ xs) d chain once (inl here) apart taken first same =
    let absent : Among o xs → ⊥ = λ a. once.0 (subst (λ y. Among y xs) here.0 a) in
    let e : without o (x ∷ xs) ≡ xs = if_same x o _ _ (sym here.0) ∙ without_absent o xs absent in
    subst (IsChain m c) (sym e) (chain_kept l m (Sibling x) c xs chain.1 (ap m (sym here.1) ∙ taken
    ∙ ap (λ y. l (Sibling y)) here.0)
    (λ y a. same y (inr a) (λ f. absent (subst (λ z. Among z xs) f a)) (λ f. apart y (inr a) (sym (f ∙ here.1)))))
chain_without l m o c (x ∷ xs) d chain once (inr later) apart taken first same =
    let e : without o (x ∷ xs) ≡ x ∷ without o xs = without_other o x xs (λ f. later.0 (sym f)) in
    let other : c ≡ d → ⊥ = λ f. elim (names_owner o (Sibling x) xs d later.1) [
      | inl g ↦ apart x (inl refl) (f ∙ g)
      | inr p ↦ apart p.0 (inr p.1) (f ∙ p.3)
    ] in
    subst (IsChain m c) (sym e) (
      first other ∙ chain.0,
      chain_without l m o (Sibling x) xs d chain.1 once.1 later.1
          (λ y a f. once.0 (subst (λ z. Among z xs) (sym (sibling_of f)) a)) taken
          (same x (inl refl) (λ f. later.0 (sym f))) (λ y a. same y (inr a)),
    )
