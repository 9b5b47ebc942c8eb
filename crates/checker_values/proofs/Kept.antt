-- Rules that are kept: lists of broken rules that are empty.
use Rattle.std.proofs.Common.{◌≡◌, ℕ, ◌<◌, ◌≤◌, nat_lt, nat_le, Bool, true, false, List, [], ◌∷◌, ◌++◌, cond, refl}
use Rattle.std.proofs.Common.{arith}
use Rattle.std.proofs.lemmas.Bool.Decides.{nat_tests}
use Rattle.syntax_lexer.specs.declared.token.Position.{Position}
use Rattle.checker_values.specs.Breaches.{at}

pub left_empty : {A : Type 0} (xs ys : List A) → xs ++ ys ≡ [] → xs ≡ []
left_empty [] ys h = refl
left_empty (x ∷ xs) ys h = absurd cc

pub right_empty : {A : Type 0} (xs ys : List A) → xs ++ ys ≡ [] → ys ≡ []
right_empty [] ys h = h
right_empty (x ∷ xs) ys h = absurd cc

-- a rule that is tested is kept
pub kept : (c : Bool) (p : Position) (n : ℕ) → cond c (at p n) [] ≡ [] → c ≡ false
kept true p n h = absurd cc
kept false p n h = refl

pub at_most : (limit n : ℕ) → nat_lt limit n ≡ false → n ≤ limit
at_most limit n h = grind (arith, nat_tests)

pub below : (limit n : ℕ) → nat_le limit n ≡ false → n < limit
below limit n h = grind (arith, nat_tests)
