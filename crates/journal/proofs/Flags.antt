-- The flags that tell which pages are kept.
use Rattle.std.proofs.Common.{◌≡◌, ℕ, zero, suc, ◌+◌, ◌-◌, ◌<◌, ◌≤◌, Bool, true, false, ◌||◌, eqb, List, [], ◌∷◌, ◌++◌}
use Rattle.std.proofs.Common.{length, get_or, set, drop, replicate, refl, ap, sym, ◌∙◌, arith, inl, inr}
use Rattle.std.proofs.Common.{drop_of_length-le}
use Rattle.std.specs.List.{list_any}
use Rattle.std.proofs.lemmas.Bool.{cases_lt, eq-eqb}
use Rattle.std.proofs.lemmas.Bool.Decides.{eqb_tells}
use Rattle.std.proofs.lemmas.List.{drop_more, get_or-set_same, get_or-set_other, get_or_append_left}
use Rattle.std.proofs.lemmas.List.{get_or-append_right, get_or-replicate, length-replicate}
use Rattle.std.proofs.lemmas.List.Folds.{list_any-append, list_any_at}
use Rattle.journal.specs.Pages.{IsMarked, keeps}
use Rattle.journal.proofs.Pages.{false_if, not_both, or_false, or_true}

pub flag_in : (flags : List Bool) (p : ℕ) → get_or flags p false ≡ true → p < length flags
flag_in [] p h = absurd (cc)
flag_in (f ∷ fs) zero h = omega arith
flag_in (f ∷ fs) (suc p) h = omega (arith, flag_in fs p h)

-- each kept page has a flag
pub marked_in : (flags : List Bool) (pages : List ℕ) (i : ℕ) → IsMarked flags pages → i < length pages
    → get_or pages i 0 < length flags
marked_in flags pages i h lt = flag_in flags (get_or pages i 0)
    (h (get_or pages i 0) ∙ list_any_at (eqb (get_or pages i 0)) pages i 0 lt (eq-eqb _ _ refl))

-- pages from i on are all that may still have a flag
pub record Unmarks (flags : List Bool) (pages : List ℕ) (i : ℕ) : Type 0 where
  pub rest : (q : ℕ) → get_or flags q false ≡ true → list_any (eqb q) (drop i pages) ≡ true

pub unmark_starts : (flags : List Bool) (pages : List ℕ) → IsMarked flags pages → Unmarks flags pages 0
unmark_starts flags pages h = record { rest = λ q t. sym (h q) ∙ t }

pub unmark_more : (flags : List Bool) (pages : List ℕ) (i : ℕ) → Unmarks flags pages i → i < length pages
    → get_or pages i 0 < length flags → Unmarks (set flags (get_or pages i 0) false) pages (i + 1)
unmark_more flags pages i h lt in_flags =
    let p : ℕ = get_or pages i 0 in
    record {
      rest = λ q t. elim (eqb_tells q (get_or pages i 0)) as (λ _. list_any (eqb q) (drop (i + 1) pages) ≡ true) [
        | inl s ↦ absurd
            (not_both _ t
            (ap (λ (k : ℕ). get_or (set flags (get_or pages i 0) false) k false) s.1
            ∙ get_or-set_same flags (get_or pages i 0) false false in_flags))
        | inr d ↦
            let still : list_any (eqb q) (drop i pages)
            ≡ true = h.rest q (sym (get_or-set_other flags (get_or pages i 0) q false false d.1) ∙ t) in
            let split : list_any (eqb q) (drop i pages)
            ≡ (eqb q (get_or pages i 0) || list_any (eqb q) (drop (i + 1) pages)) = ap
            (λ (xs : List ℕ). list_any (eqb q) xs) (drop_more pages i 0 lt) in
            let no : (eqb q (get_or pages i 0) || list_any (eqb q) (drop (i + 1) pages))
            ≡ list_any (eqb q) (drop (i + 1) pages) = ap
            (λ (k : Bool). k || list_any (eqb q) (drop (i + 1) pages)) d.0 in
            sym (split ∙ no) ∙ still
      ];
    }

pub unmark_ends : (flags : List Bool) (pages : List ℕ) (i : ℕ) → Unmarks flags pages i → length pages ≤ i
    → IsMarked flags []
unmark_ends flags pages i h le p =
    let none : drop i pages ≡ [] = drop_of_length-le pages le in
    false_if _ (λ t. not_both _ (h.rest p t) (ap (λ (xs : List ℕ). list_any (eqb p) xs) none))

pub marked_push : (flags : List Bool) (pages : List ℕ) (p : ℕ) → IsMarked flags pages → p < length flags
    → IsMarked (set flags p true) (pages ++ p ∷ [])
marked_push flags pages p h lt q =
    let split : keeps (pages ++ p ∷ []) q ≡ (keeps pages q || (eqb q p || false)) = list_any-append (eqb q) pages
    (p ∷ []) in
    elim (eqb_tells q p) as (λ _. get_or (set flags p true) q false ≡ keeps (pages ++ p ∷ []) q) [
      | inl s ↦ ap (λ (k : ℕ). get_or (set flags p true) k false) s.1 ∙ get_or-set_same flags p true false lt
          ∙ sym (split ∙ ap (λ (k : Bool). keeps pages q || (k || false)) s.0 ∙ or_true (keeps pages q))
      | inr d ↦ get_or-set_other flags p q true false d.1 ∙ h q
          ∙ sym (split ∙ ap (λ (k : Bool). keeps pages q || (k || false)) d.0 ∙ or_false (keeps pages q))
    ]

-- flags of which none is set
pub none_set : (n : ℕ) (more : List Bool) → more ≡ [] → (p : ℕ) → get_or (replicate n false ++ more) p false ≡ false
none_set n more e p =
    elim (cases_lt p n) as (λ _. get_or (replicate n false ++ more) p false ≡ false) [
      | inl lt ↦ get_or_append_left (replicate n false) more false p (omega (arith, lt, length-replicate n false))
          ∙ get_or-replicate n p false false lt
      | inr ge ↦ get_or-append_right (replicate n false) more n p false (length-replicate n false) ge
          ∙ ap (λ (t : List Bool). get_or t (p - n) false) e
    ]
