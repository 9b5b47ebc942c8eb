-- A name without capitals is the same in small letters.
use Rattle.std.proofs.Common.{◌≡◌, ℕ, Bool, true, false, cond, List, [], ◌∷◌, refl, ap, ◌∙◌, arith}
use Rattle.std.proofs.lemmas.Bool.Decides.{nat_tests}
use Rattle.std.specs.Char.{to_ascii_lowercase, is_ascii_uppercase}
use Rattle.derive_tokens.specs.Names.{has_name, is_among, is_small, small, with_name}

stays : (b : ℕ) → is_ascii_uppercase b ≡ false → to_ascii_lowercase b ≡ b
stays b e = grind (arith, nat_tests, e)

same_small : (n : List ℕ) → is_small n ≡ true → small n ≡ n
same_small [] h = refl
same_small (b ∷ bs) h = go (is_ascii_uppercase b) (λ k. same_small bs k) refl h
  where
    go : (t : Bool) → (is_small bs ≡ true → small bs ≡ bs) → is_ascii_uppercase b ≡ t
        → cond t false (is_small bs) ≡ true → small (b ∷ bs) ≡ b ∷ bs
    go true more e h = grind (arith, h)
    go false more e h = ap (λ x. x ∷ small bs) (stays b e) ∙ ap (λ xs. b ∷ xs) (more h)

pub noted : (names : List (List ℕ)) (n : List ℕ) → is_small n ≡ true → is_among names n ≡ true
    → names ≡ with_name names (small n)
noted names n s h = rw (same_small n s, h) refl

pub asked_in_small : (names : List (List ℕ)) (n : List ℕ) → is_small n ≡ true → is_among names n ≡ has_name names n
asked_in_small names n s = rw (same_small n s) refl

pub kept_small : (n : List ℕ) → is_small n ≡ true → n ≡ small n
kept_small n s = rw (same_small n s) refl
