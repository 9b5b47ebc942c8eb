-- One nesting further in.
use Rattle.std.proofs.Common.{◌≡◌, ℕ, zero, suc, ◌+◌, List, Err, refl, ap, arith}
use Rattle.syntax_lexer.specs.Token.{Lexeme}
use Rattle.syntax_trees.specs.Tree.{NameTree}
use Rattle.syntax_trees.specs.Stop.{deep}
use Rattle.syntax_expressions.specs.Parse.{Level, whole, negation, complement, prefix, operand, arguments, nested}
use Rattle.syntax_expressions.specs.Parse.{expression, logical_operand, factor, unary, primary, rest_of_call}

pub nested_zero : (d : ℕ) (l : Level) (left : ℕ) (ts : List Lexeme) → d ≡ 0 → nested d l left ts ≡ Err (deep left)
unfolding nested
nested_zero zero l left ts e = refl
nested_zero (suc d) l left ts e = absurd (omega arith)

pub nested_whole : (d k left : ℕ) (ts : List Lexeme) → d ≡ k + 1 → nested d whole left ts ≡ expression (nested k) ts
unfolding nested
nested_whole zero k left ts h = absurd (omega arith)
nested_whole (suc d) k left ts h = let e : d ≡ k = omega arith in ap (λ j. expression (nested j) ts) e

pub nested_negation : (d k left : ℕ) (ts : List Lexeme) → d ≡ k + 1 → nested d negation left ts ≡ logical_operand (nested k) ts
unfolding nested
nested_negation zero k left ts h = absurd (omega arith)
nested_negation (suc d) k left ts h = let e : d ≡ k = omega arith in ap (λ j. logical_operand (nested j) ts) e

pub nested_complement : (d k left : ℕ) (ts : List Lexeme) → d ≡ k + 1 → nested d complement left ts ≡ factor (nested k) ts
unfolding nested
nested_complement zero k left ts h = absurd (omega arith)
nested_complement (suc d) k left ts h = let e : d ≡ k = omega arith in ap (λ j. factor (nested j) ts) e

pub nested_prefix : (d k left : ℕ) (ts : List Lexeme) → d ≡ k + 1 → nested d prefix left ts ≡ unary (nested k) ts
unfolding nested
nested_prefix zero k left ts h = absurd (omega arith)
nested_prefix (suc d) k left ts h = let e : d ≡ k = omega arith in ap (λ j. unary (nested j) ts) e

pub nested_operand : (d k left : ℕ) (ts : List Lexeme) → d ≡ k + 1 → nested d operand left ts ≡ primary (nested k) ts
unfolding nested
nested_operand zero k left ts h = absurd (omega arith)
nested_operand (suc d) k left ts h = let e : d ≡ k = omega arith in ap (λ j. primary (nested j) ts) e

pub nested_arguments : (d k left : ℕ) (n : NameTree) (ts : List Lexeme) → d ≡ k + 1
    → nested d (arguments n) left ts ≡ rest_of_call (nested k) n ts
unfolding nested
nested_arguments zero k left n ts h = absurd (omega arith)
nested_arguments (suc d) k left n ts h = let e : d ≡ k = omega arith in ap (λ j. rest_of_call (nested j) n ts) e
