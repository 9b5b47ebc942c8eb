-- What is asked of a computed condition: a constant, which holds unless it is 0, or a comparison of two. They are compared as
-- numbers from 0 to 65,535, as in Inform 6.
use Rattle.std.specs.Prelude.{◌==◌, ℕ, Bool, true, false, not, nat_lt, nat_le, List, [], ◌∷◌, ◌++◌, Option, Some, None}
use Rattle.std.specs.Prelude.{if◌then◌else◌}
use Rattle.syntax_lexer.specs.declared.token.Sign.{Sign}
use Rattle.syntax_lexer.specs.declared.token.Sign.TheVariants as s
use Rattle.syntax_lexer.specs.Token.{Lexeme, sign}
use Rattle.derive_constants.specs.Values.{Known, value_in}

abbrev pub comparison : Sign → ℕ → ℕ → Option Bool
comparison s.Equal a b = Some (a == b)
comparison s.NotEqual a b = Some (not (a == b))
comparison s.Less a b = Some (nat_lt a b)
comparison s.LessOrEqual a b = Some (nat_le a b)
comparison s.Greater a b = Some (nat_lt b a)
comparison s.GreaterOrEqual a b = Some (nat_le b a)
comparison _ a b = None

abbrev pub compares : Lexeme → Bool
compares (sign s.Equal p) = true
compares (sign s.NotEqual p) = true
compares (sign s.Less p) = true
compares (sign s.LessOrEqual p) = true
compares (sign s.Greater p) = true
compares (sign s.GreaterOrEqual p) = true
compares t = false

abbrev pub is_not_zero : Option ℕ → Option Bool
is_not_zero None = None
is_not_zero (Some v) = Some (not (v == 0))

-- two numbers, with a sign between
abbrev pub compared : Lexeme → Option ℕ → Option ℕ → Option Bool
compared (sign by p) (Some a) (Some b) = comparison by a b
compared _ _ _ = None

-- the tokens before the first sign that compares, and from it on
abbrev pub divided : Known → List Lexeme → List Lexeme → Option Bool
divided known before [] = is_not_zero (value_in known before)
divided known before (t ∷ ts) =
    if compares t then compared t (value_in known before) (value_in known ts)
    else divided known (before ++ t ∷ []) ts

-- whether the condition holds that these tokens are; none where they are none
abbrev pub condition : Known → List Lexeme → Option Bool
condition known ts = divided known [] ts
