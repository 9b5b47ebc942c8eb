-- Walks along a property list, one step after another.
use Rattle.std.proofs.Common.{◌≡◌, ℕ, ◌+◌, ◌-◌, ◌<◌, suc, Bool, if◌then◌else◌, List, length, ap, sym, ◌∙◌}
use Rattle.std.proofs.Common.{arith}
use Rattle.std.proofs.lemmas.Bool.{eq-eqb, ne_eqb}
use Rattle.zcore.specs.Properties.{Property, Standing, Terminator, Listed, Beyond, found_at}
use Rattle.zcore_versions.specs.SmallProperties.{standing, found_in}

-- so many steps are left
left : (n i : ℕ) → i < n → n - i ≡ suc (n - (i + 1))
left n i lt = omega arith

module _ (story : List ℕ) (n i at : ℕ) (lt : i < n) (s : Standing) (is : s ≡ standing story (length story) at) where
  found_step : (number : ℕ) → found_in story (length story) number at (n - i)
      ≡ found_at number s (λ next. found_in story (length story) number next (n - (i + 1)))
  unfolding found_in
  found_step number = ap (found_in story (length story) number at) (left n i lt)
      ∙ ap (λ x. found_at number x (λ next. found_in story (length story) number next (n - (i + 1)))) (sym is)

  pub found_end : (number : ℕ) → s ≡ Terminator → found_in story (length story) number at (n - i) ≡ s
  found_end number e = found_step number
      ∙ ap (λ x. found_at number x (λ next. found_in story (length story) number next (n - (i + 1)))) e ∙ sym e

  pub found_beyond : (number : ℕ) → s ≡ Beyond → found_in story (length story) number at (n - i) ≡ s
  found_beyond number e = found_step number ∙ ap
      (λ x. found_at number x (λ next. found_in story (length story) number next (n - (i + 1)))) e ∙ sym e

  pub found_here : (number : ℕ) (p : Property) → s ≡ Listed p → p.number ≡ number
      → found_in story (length story) number at (n - i) ≡ s
  found_here number p e same =
      found_step number
      ∙ ap (λ x. found_at number x (λ next. found_in story (length story) number next (n - (i + 1)))) e
      ∙ ap (λ (b : Bool). if b then Listed p else found_in story (length story) number (p.address + p.size)
      (n - (i + 1))) (eq-eqb p.number number same) ∙ sym e

  pub found_on : (number : ℕ) (p : Property) → s ≡ Listed p → (p.number ≡ number → ⊥)
      → found_in story (length story) number at (n - i)
      ≡ found_in story (length story) number (p.address + p.size) (n - (i + 1))
  found_on number p e other =
      found_step number
      ∙ ap (λ x. found_at number x (λ next. found_in story (length story) number next (n - (i + 1)))) e
      ∙ ap (λ (b : Bool). if b then Listed p else found_in story (length story) number (p.address + p.size)
      (n - (i + 1))) (ne_eqb p.number number other)

pub found_none : (story : List ℕ) (number at steps : ℕ) → steps ≡ 0
    → found_in story (length story) number at steps ≡ Beyond
unfolding found_in
found_none story number at steps e = ap (found_in story (length story) number at) e
