-- The link that names an object, one step after another.
use Rattle.std.proofs.Common.{◌≡◌, ◌==◌, ℕ, ◌+◌, ◌-◌, ◌<◌, suc, Bool, true, false, if◌then◌else◌, List, Option, Some}
use Rattle.std.proofs.Common.{slice_index}
use Rattle.std.proofs.Common.{None, refl, ap, sym, ◌∙◌, arith}
use Rattle.std.proofs.lemmas.Bool.{eq-eqb, ne_eqb}
use Rattle.zcore.specs.Entries.{Sibling}
use Rattle.zcore_versions.specs.SmallObjects.{has_small_entry, small_place_of, named_from}

module _ (m : List ℕ) (table end object at steps word : ℕ) (is : word ≡ slice_index m at) where
  -- what stands at a place, and what follows from it
  named_after : Bool → Bool → Option ℕ
  unfolding named_from
  named_after same entry = if same then Some at
      else (if entry then named_from m table end object (small_place_of table (Sibling word)) steps else None)

  named_is : (same entry : Bool) → (word == object) ≡ same → has_small_entry table end word ≡ entry
      → named_from m table end object at (suc steps) ≡ named_after same entry
  unfolding named_from named_after
  named_is same entry e f =
      ap (λ (w : ℕ). if w == object then Some at else (if has_small_entry table end w
      then named_from m table end object (small_place_of table (Sibling w)) steps else None)) (sym is)
      ∙ ap (λ (b : Bool). if b then Some at else (if has_small_entry table end word
      then named_from m table end object (small_place_of table (Sibling word)) steps else None)) e
      ∙ ap (λ (b : Bool). if same then Some at else (if b
      then named_from m table end object (small_place_of table (Sibling word)) steps else None)) f

  pub named_here : word ≡ object → named_from m table end object at (suc steps) ≡ Some at
  unfolding named_after
  named_here e = named_is true (has_small_entry table end word) (eq-eqb word object e) refl

  pub named_none : (word ≡ object → ⊥) → has_small_entry table end word ≡ false
      → named_from m table end object at (suc steps) ≡ None
  unfolding named_after
  named_none not none = named_is false false (ne_eqb word object not) none

  pub named_on : (word ≡ object → ⊥) → has_small_entry table end word ≡ true
      → named_from m table end object at (suc steps)
      ≡ named_from m table end object (small_place_of table (Sibling word)) steps
  unfolding named_after
  named_on not some = named_is false true (ne_eqb word object not) some

-- so many steps are left
pub left : (n i : ℕ) → i < n → n - i ≡ suc (n - (i + 1))
left n i lt = omega arith

-- no step is left
pub named_last : (m : List ℕ) (table end object at steps : ℕ) → steps ≡ 0
    → named_from m table end object at steps ≡ None
unfolding named_from
named_last m table end object at steps e = ap (named_from m table end object at) e
