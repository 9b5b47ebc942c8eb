-- The directives of a program: each is what goes up to a `;` outside of `[` and `]`.
use Rattle.std.specs.Prelude.{◌+◌, ◌-◌, ◌==◌, ◌&&◌, ℕ, Bool, List, [], ◌∷◌, ◌++◌, if◌then◌else◌}
use Rattle.syntax_lexer.specs.declared.token.Sign.TheVariants as s
use Rattle.syntax_lexer.specs.Token.{Lexeme, sign}
use Rattle.derive_tokens.specs.Tokens.{is_sign}

-- how many brackets are open after a token
abbrev pub depth_after : ℕ → Lexeme → ℕ
depth_after depth (sign s.OpenBracket p) = depth + 1
depth_after depth (sign s.CloseBracket p) = depth - 1
depth_after depth t = depth

-- a `;` outside of brackets
abbrev pub ends_directive : ℕ → Lexeme → Bool
ends_directive depth t = (depth == 0) && is_sign s.Semicolon t

-- what follows the last `;`, as the end of the source
abbrev pub last_of : List Lexeme → List (List Lexeme)
last_of [] = []
last_of (t ∷ ts) = (t ∷ ts) ∷ []

-- the directives of the tokens that follow these of the first
abbrev pub cut_from : ℕ → List Lexeme → List Lexeme → List (List Lexeme)
cut_from depth before [] = last_of before
cut_from depth before (t ∷ ts) =
    if ends_directive depth t then (before ++ t ∷ []) ∷ cut_from 0 [] ts
    else cut_from (depth_after depth t) (before ++ t ∷ []) ts

abbrev pub directives : List Lexeme → List (List Lexeme)
directives ts = cut_from 0 [] ts
