-- Walks along a property list, one step after another.
use Rattle.std.proofs.Common.{◌≡◌, ℕ, ◌+◌, ◌-◌, ◌<◌, suc, Bool, if◌then◌else◌, List, length, Ok, Err, ap, sym, ◌∙◌}
use Rattle.std.proofs.Common.{arith}
use Rattle.std.proofs.lemmas.Bool.{eq-eqb, ne_eqb}
use Rattle.zcore.specs.Properties.{Property, Standing, Terminator, Listed, Beyond, standing, found_in, found_at}
use Rattle.tables.specs.declared.fault.TableRead.TheVariants.{Outside}
use Rattle.tables.specs.Objects.{counted_in, counted_at}

-- so many steps are left
left : (n i : ℕ) → i < n → n - i ≡ suc (n - (i + 1))
left n i lt = omega arith

module _ (story : List ℕ) (n i at : ℕ) (lt : i < n) (s : Standing) (is : s ≡ standing story (length story) at) where
  found_step : (number : ℕ) → found_in story (length story) number at (n - i)
      ≡ found_at number s (λ next. found_in story (length story) number next (n - (i + 1)))
  unfolding found_in
  found_step number = ap (found_in story (length story) number at) (left n i lt)
      ∙ ap (λ x. found_at number x (λ next. found_in story (length story) number next (n - (i + 1)))) (sym is)

  pub found_end : (number : ℕ) → s ≡ Terminator → found_in story (length story) number at (n - i) ≡ s
  found_end number e = found_step number
      ∙ ap (λ x. found_at number x (λ next. found_in story (length story) number next (n - (i + 1)))) e ∙ sym e

  pub found_beyond : (number : ℕ) → s ≡ Beyond → found_in story (length story) number at (n - i) ≡ s
  found_beyond number e = found_step number ∙ ap
      (λ x. found_at number x (λ next. found_in story (length story) number next (n - (i + 1)))) e ∙ sym e

  pub found_here : (number : ℕ) (p : Property) → s ≡ Listed p → p.number ≡ number
      → found_in story (length story) number at (n - i) ≡ s
  found_here number p e same =
      found_step number
      ∙ ap (λ x. found_at number x (λ next. found_in story (length story) number next (n - (i + 1)))) e
      ∙ ap (λ (b : Bool). if b then Listed p else found_in story (length story) number (p.address + p.size)
      (n - (i + 1))) (eq-eqb p.number number same) ∙ sym e

  pub found_on : (number : ℕ) (p : Property) → s ≡ Listed p → (p.number ≡ number → ⊥)
      → found_in story (length story) number at (n - i)
      ≡ found_in story (length story) number (p.address + p.size) (n - (i + 1))
  found_on number p e other =
      found_step number
      ∙ ap (λ x. found_at number x (λ next. found_in story (length story) number next (n - (i + 1)))) e
      ∙ ap (λ (b : Bool). if b then Listed p else found_in story (length story) number (p.address + p.size)
      (n - (i + 1))) (ne_eqb p.number number other)

  counted_step : (count : ℕ) → counted_in story count at (n - i)
      ≡ counted_at count s (λ next. counted_in story (count + 1) next (n - (i + 1)))
  unfolding counted_in
  counted_step count = ap (counted_in story count at) (left n i lt)
      ∙ ap (λ x. counted_at count x (λ next. counted_in story (count + 1) next (n - (i + 1)))) (sym is)

  pub counted_end : (count : ℕ) → s ≡ Terminator → counted_in story count at (n - i) ≡ Ok count
  counted_end count e = counted_step count
      ∙ ap (λ x. counted_at count x (λ next. counted_in story (count + 1) next (n - (i + 1)))) e

  pub counted_beyond : (count : ℕ) → s ≡ Beyond → counted_in story count at (n - i) ≡ Err Outside
  counted_beyond count e = counted_step count ∙ ap
      (λ x. counted_at count x (λ next. counted_in story (count + 1) next (n - (i + 1)))) e

  pub counted_on : (count : ℕ) (p : Property) → s ≡ Listed p
      → counted_in story count at (n - i) ≡ counted_in story (count + 1) (p.address + p.size) (n - (i + 1))
  counted_on count p e = counted_step count ∙ ap
      (λ x. counted_at count x (λ next. counted_in story (count + 1) next (n - (i + 1)))) e

pub found_none : (story : List ℕ) (number at steps : ℕ) → steps ≡ 0
    → found_in story (length story) number at steps ≡ Beyond
unfolding found_in
found_none story number at steps e = ap (found_in story (length story) number at) e

pub counted_none : (story : List ℕ) (count at steps : ℕ) → steps ≡ 0 → counted_in story count at steps ≡ Err Outside
unfolding counted_in
counted_none story count at steps e = ap (counted_in story count at) e
