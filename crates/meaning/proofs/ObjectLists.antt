-- Lists in which each object stands once.
use Rattle.std.proofs.Common.{◌≡◌, ◌==◌, ℕ, ◌≤◌, zero, suc, Bool, if◌then◌else◌, List, [], ◌∷◌, length, refl, ap, sym}
use Rattle.std.proofs.Common.{◌∙◌, arith, subst, inl, inr}
use Rattle.std.proofs.lemmas.Bool.{cases_eq, eq-eqb, ne_eqb}
use Rattle.meaning.specs.Objects.{without}
use Rattle.meaning.specs.Forests.{Among, Once, IsObjectNumber}

-- Tests

pub if_same : {A : Type 0} (x o : ℕ) (a b : A) → x ≡ o → (if x == o then a else b) ≡ a
if_same x o a b e = ap (λ (t : Bool). if t then a else b) (eq-eqb x o e)

pub if_other : {A : Type 0} (x o : ℕ) (a b : A) → (x ≡ o → ⊥) → (if x == o then a else b) ≡ b
if_other x o a b not = ap (λ (t : Bool). if t then a else b) (ne_eqb x o not)

-- Lists without an object

pub without_other : (o x : ℕ) (xs : List ℕ) → (x ≡ o → ⊥) → without o (x ∷ xs) ≡ x ∷ without o xs
without_other o x xs not = if_other x o _ _ not

pub without_absent : (o : ℕ) (xs : List ℕ) → (Among o xs → ⊥) → without o xs ≡ xs
without_absent o [] not = refl
without_absent o (x ∷ xs) not =
    without_other o x xs (λ e. not (inl (sym e))) ∙ ap (λ ys. x ∷ ys) (without_absent o xs (λ a. not (inr a)))

-- what is left was there before, and is not the object
pub among_without : (o x : ℕ) (xs : List ℕ) → Among x (without o xs) → Among x xs × (x ≡ o → ⊥)
among_without o x [] a = absurd a
among_without o x (y ∷ ys) a = elim (cases_eq y o) [
  | inl same ↦
      let rest = among_without o x ys (subst (Among x) (if_same y o (without o ys) (y ∷ without o ys) same) a) in
      (inr rest.0, rest.1)
  | inr other ↦ step other (among_without o x ys) (subst (Among x) (without_other o y ys other) a)
]
  where
    step : (y ≡ o → ⊥) → (Among x (without o ys) → Among x ys × (x ≡ o → ⊥)) → Among x (y ∷ without o ys)
        → Among x (y ∷ ys) × (x ≡ o → ⊥)
    step other later (inl e) = (inl e, λ f. other (sym e ∙ f))
    step other later (inr b) = let rest = later b in (inr rest.0, rest.1)

-- all others are left
pub among_left : (o x : ℕ) (xs : List ℕ) → (x ≡ o → ⊥) → Among x xs → Among x (without o xs)
among_left o x [] not a = absurd a
among_left o x (y ∷ ys) not (inr a) = elim (cases_eq y o) [
  | inl same ↦ subst (Among x) (sym (if_same y o (without o ys) (y ∷ without o ys) same)) (among_left o x ys not a)
  | inr other ↦ subst (Among x) (sym (without_other o y ys other)) (inr (among_left o x ys not a))
]
among_left o x (y ∷ ys) not (inl e) = subst (Among x) (sym (without_other o y ys (λ f. not (e ∙ f)))) (inl e)

pub once_without : (o : ℕ) (xs : List ℕ) → Once xs → Once (without o xs)
once_without o [] once = tt
once_without o (x ∷ xs) once = elim (cases_eq x o) [
  | inl same ↦ subst Once (sym (if_same x o (without o xs) (x ∷ without o xs) same)) (once_without o xs once.1)
  | inr other ↦ subst Once (sym (without_other o x xs other))
      ((λ a. once.0 (among_without o x xs a).0), once_without o xs once.1)
]

-- Objects 1 to n that stand once in a list are n at most.

pub length_without : (o : ℕ) (xs : List ℕ) → Once xs → length xs ≤ suc (length (without o xs))
length_without o [] once = omega arith
length_without o (x ∷ xs) once = elim (cases_eq x o) [
  | inl same ↦
      let e : without o (x ∷ xs) ≡ xs = if_same x o (without o xs) (x ∷ without o xs) same
      ∙ without_absent o xs (λ a. once.0 (subst (λ y. Among y xs) (sym same) a)) in
      subst (λ ys. suc (length xs) ≤ suc (length ys)) (sym e) (omega arith)
  | inr other ↦
      let rest = length_without o xs once.1 in
      subst (λ ys. suc (length xs) ≤ suc (length ys)) (sym (without_other o x xs other)) (omega arith)
]

pub few : (n : ℕ) (xs : List ℕ) → Once xs → ((x : ℕ) → Among x xs → IsObjectNumber n x) → length xs ≤ n
few zero [] once objects = omega arith
few zero (x ∷ xs) once objects = let o = objects x (inl refl) in absurd (omega (arith, o.low, o.high))
few (suc n) xs once objects =
    let rest = few n (without (suc n) xs) (once_without (suc n) xs once) (λ x a.
    let b = among_without (suc n) x xs a in
    let o = objects x b.0 in
    record { low = o.low; high = below x o.high b.1 }) in
    omega (arith, length_without (suc n) xs once, rest)
  where
    below : (x : ℕ) → x ≤ suc n → (x ≡ suc n → ⊥) → x ≤ n
    below x le not = omega arith
