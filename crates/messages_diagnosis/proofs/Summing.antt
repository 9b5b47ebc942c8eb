-- The sum of a list's parts, where so many are summed up.
use Rattle.std.proofs.Common.{◌≡◌, ℕ, ◌+◌, ◌<◌, ◌≤◌, List, [], ◌∷◌, length, drop, get_or, sym, ap, ◌∙◌, arith}
use Rattle.std.proofs.lemmas.List.{at_drop_more, at_drop_all}

module _ {X : Type 0} (measure : List X → ℕ) (part : X → ℕ) (none : measure [] ≡ 0)
    (more : (x : X) (xs : List X) → part x + measure xs ≡ measure (x ∷ xs)) (xs : List X) (i size : ℕ)
    (sum : size + measure (drop i xs) ≡ measure xs) where
  pub sum_step : (x : X) (next : ℕ) → i < length xs → x ≡ get_or xs i x → next ≡ size + part x
      → next + measure (drop (i + 1) xs) ≡ measure xs
  sum_step x next lt is e =
      let rest = drop (i + 1) xs in
      let here : part x + measure rest ≡ measure (drop i xs) = more x rest ∙ ap (λ (y : X). measure (y ∷ rest)) is
      ∙ sym (at_drop_more measure xs i x lt) in
      omega (arith, e, here, sum)

  pub sum_end : length xs ≤ i → size ≡ measure xs
  sum_end le = let nothing : measure (drop i xs) ≡ 0 = at_drop_all measure xs i le ∙ none in omega (arith, nothing, sum)
