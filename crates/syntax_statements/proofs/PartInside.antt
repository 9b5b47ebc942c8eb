-- One nesting further in.
use Rattle.std.proofs.Common.{◌≡◌, ℕ, zero, suc, ◌+◌, List, Result, Err, refl, ap, arith}
use Rattle.syntax_lexer.specs.Token.{Lexeme}
use Rattle.syntax_trees.specs.Stop.{Stop, deep}
use Rattle.syntax_statements.specs.PartParse.{opened, heading_in, heading, looped_in, looped}

pub opened_zero : {A : Type 0} (d left : ℕ) (R : Result A Stop) → d ≡ 0 → opened d left R ≡ Err (deep left)
opened_zero zero left R e = refl
opened_zero (suc d) left R e = absurd (omega arith)

pub opened_more : {A : Type 0} (d k left : ℕ) (R : Result A Stop) → d ≡ k + 1 → opened d left R ≡ R
opened_more zero k left R e = absurd (omega arith)
opened_more (suc d) k left R e = refl

pub heading_zero : (d left : ℕ) (ts : List Lexeme) → d ≡ 0 → heading_in d left ts ≡ Err (deep left)
heading_zero zero left ts e = refl
heading_zero (suc d) left ts e = absurd (omega arith)

pub heading_more : (d k left : ℕ) (ts : List Lexeme) → d ≡ k + 1 → heading_in d left ts ≡ heading k ts
heading_more zero k left ts e = absurd (omega arith)
heading_more (suc d) k left ts e = let same : d ≡ k = omega arith in ap (λ j. heading j ts) same

pub looped_zero : (d left : ℕ) (ts : List Lexeme) → d ≡ 0 → looped_in d left ts ≡ Err (deep left)
looped_zero zero left ts e = refl
looped_zero (suc d) left ts e = absurd (omega arith)

pub looped_more : (d k left : ℕ) (ts : List Lexeme) → d ≡ k + 1 → looped_in d left ts ≡ looped k ts
looped_more zero k left ts e = absurd (omega arith)
looped_more (suc d) k left ts e = let same : d ≡ k = omega arith in ap (λ j. looped j ts) same
