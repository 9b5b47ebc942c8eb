-- What holds of each sign.
use Rattle.std.proofs.Common.{◌≡◌, ℕ, ◌<◌, true, cond, List, [], ◌∷◌, length, get_or, Option, Some, None, refl, sym}
use Rattle.std.proofs.Common.{◌⊎◌, inl, inr, ap, ◌∙◌, arith}
use Rattle.std.specs.Str.{bytes_eq}
use Rattle.syntax_lexer.specs.declared.token.Sign.{Sign}
use Rattle.syntax_lexer.specs.declared.token.Sign.TheVariants as s
use Rattle.syntax_lexer.specs.Spelling.{sign_spelling}
use Rattle.syntax_lexer.specs.Fronts.{begins_longer}

abbrev find_sign : List Sign → List ℕ → Option Sign
find_sign [] bs = None
find_sign (x ∷ xs) bs = cond (bytes_eq (sign_spelling x) bs) (Some x) (find_sign xs bs)

abbrev all_signs : List Sign
all_signs = s.OpenParenthesis ∷ s.CloseParenthesis ∷ s.OpenBrace ∷ s.CloseBrace ∷ s.OpenBracket ∷ s.CloseBracket
    ∷ s.Semicolon ∷ s.Comma ∷ s.Colon ∷ s.Dot ∷ s.DotAmpersand ∷ s.DotHash ∷ s.Assign ∷ s.Equal ∷ s.NotEqual ∷ s.Not
    ∷ s.Tilde ∷ s.Greater ∷ s.GreaterOrEqual ∷ s.Less ∷ s.LessOrEqual ∷ s.AndAlso ∷ s.Ampersand ∷ s.OrElse ∷ s.Bar
    ∷ s.Plus ∷ s.Increment ∷ s.Minus ∷ s.Decrement ∷ s.Arrow ∷ s.LongArrow ∷ s.Star ∷ s.Slash ∷ s.Percent ∷ []

sign_from : List ℕ → Option Sign
sign_from bs = find_sign all_signs bs

sign_back : (x : Sign) → sign_from (sign_spelling x) ≡ Some x
unfolding sign_from
sign_back s.OpenParenthesis = refl
sign_back s.CloseParenthesis = refl
sign_back s.OpenBrace = refl
sign_back s.CloseBrace = refl
sign_back s.OpenBracket = refl
sign_back s.CloseBracket = refl
sign_back s.Semicolon = refl
sign_back s.Comma = refl
sign_back s.Colon = refl
sign_back s.Dot = refl
sign_back s.DotAmpersand = refl
sign_back s.DotHash = refl
sign_back s.Assign = refl
sign_back s.Equal = refl
sign_back s.NotEqual = refl
sign_back s.Not = refl
sign_back s.Tilde = refl
sign_back s.Greater = refl
sign_back s.GreaterOrEqual = refl
sign_back s.Less = refl
sign_back s.LessOrEqual = refl
sign_back s.AndAlso = refl
sign_back s.Ampersand = refl
sign_back s.OrElse = refl
sign_back s.Bar = refl
sign_back s.Plus = refl
sign_back s.Increment = refl
sign_back s.Minus = refl
sign_back s.Decrement = refl
sign_back s.Arrow = refl
sign_back s.LongArrow = refl
sign_back s.Star = refl
sign_back s.Slash = refl
sign_back s.Percent = refl

abbrev some_sign : Sign → Option Sign
some_sign x = Some x

some_sign_is : (x y : Sign) → some_sign x ≡ some_sign y → x ≡ y
some_sign_is x y e = cc

-- one spelling is of one sign
pub same_sign : (x y : Sign) → sign_spelling x ≡ sign_spelling y → x ≡ y
same_sign x y e = some_sign_is x y (sym (sign_back x) ∙ ap sign_from e ∙ sign_back y)

-- the sign that the first byte of a sign spells alone
abbrev pub first_alone : Sign → Sign
first_alone s.OpenParenthesis = s.OpenParenthesis
first_alone s.CloseParenthesis = s.CloseParenthesis
first_alone s.OpenBrace = s.OpenBrace
first_alone s.CloseBrace = s.CloseBrace
first_alone s.OpenBracket = s.OpenBracket
first_alone s.CloseBracket = s.CloseBracket
first_alone s.Semicolon = s.Semicolon
first_alone s.Comma = s.Comma
first_alone s.Colon = s.Colon
first_alone s.Dot = s.Dot
first_alone s.DotAmpersand = s.Dot
first_alone s.DotHash = s.Dot
first_alone s.Assign = s.Assign
first_alone s.Equal = s.Assign
first_alone s.NotEqual = s.Tilde
first_alone s.Not = s.Tilde
first_alone s.Tilde = s.Tilde
first_alone s.Greater = s.Greater
first_alone s.GreaterOrEqual = s.Greater
first_alone s.Less = s.Less
first_alone s.LessOrEqual = s.Less
first_alone s.AndAlso = s.Ampersand
first_alone s.Ampersand = s.Ampersand
first_alone s.OrElse = s.Bar
first_alone s.Bar = s.Bar
first_alone s.Plus = s.Plus
first_alone s.Increment = s.Plus
first_alone s.Minus = s.Minus
first_alone s.Decrement = s.Minus
first_alone s.Arrow = s.Minus
first_alone s.LongArrow = s.Minus
first_alone s.Star = s.Star
first_alone s.Slash = s.Slash
first_alone s.Percent = s.Percent

pub first_alone_is : (x : Sign) → sign_spelling (first_alone x) ≡ get_or (sign_spelling x) 0 0 ∷ []
first_alone_is s.OpenParenthesis = refl
first_alone_is s.CloseParenthesis = refl
first_alone_is s.OpenBrace = refl
first_alone_is s.CloseBrace = refl
first_alone_is s.OpenBracket = refl
first_alone_is s.CloseBracket = refl
first_alone_is s.Semicolon = refl
first_alone_is s.Comma = refl
first_alone_is s.Colon = refl
first_alone_is s.Dot = refl
first_alone_is s.DotAmpersand = refl
first_alone_is s.DotHash = refl
first_alone_is s.Assign = refl
first_alone_is s.Equal = refl
first_alone_is s.NotEqual = refl
first_alone_is s.Not = refl
first_alone_is s.Tilde = refl
first_alone_is s.Greater = refl
first_alone_is s.GreaterOrEqual = refl
first_alone_is s.Less = refl
first_alone_is s.LessOrEqual = refl
first_alone_is s.AndAlso = refl
first_alone_is s.Ampersand = refl
first_alone_is s.OrElse = refl
first_alone_is s.Bar = refl
first_alone_is s.Plus = refl
first_alone_is s.Increment = refl
first_alone_is s.Minus = refl
first_alone_is s.Decrement = refl
first_alone_is s.Arrow = refl
first_alone_is s.LongArrow = refl
first_alone_is s.Star = refl
first_alone_is s.Slash = refl
first_alone_is s.Percent = refl

-- by length; the bytes are not 0
pub record SignFacts (x : Sign) : Type 0 where
  pub sizes : (length (sign_spelling x) ≡ 1) ⊎ ((length (sign_spelling x) ≡ 2) ⊎ (x ≡ s.LongArrow))
  pub first : 0 < get_or (sign_spelling x) 0 0
  pub second : 0 < get_or (sign_spelling x) 1 1

pub sign_facts : (x : Sign) → SignFacts x
sign_facts s.OpenParenthesis = record { sizes = inl refl; first = omega arith; second = omega arith }
sign_facts s.CloseParenthesis = record { sizes = inl refl; first = omega arith; second = omega arith }
sign_facts s.OpenBrace = record { sizes = inl refl; first = omega arith; second = omega arith }
sign_facts s.CloseBrace = record { sizes = inl refl; first = omega arith; second = omega arith }
sign_facts s.OpenBracket = record { sizes = inl refl; first = omega arith; second = omega arith }
sign_facts s.CloseBracket = record { sizes = inl refl; first = omega arith; second = omega arith }
sign_facts s.Semicolon = record { sizes = inl refl; first = omega arith; second = omega arith }
sign_facts s.Comma = record { sizes = inl refl; first = omega arith; second = omega arith }
sign_facts s.Colon = record { sizes = inl refl; first = omega arith; second = omega arith }
sign_facts s.Dot = record { sizes = inl refl; first = omega arith; second = omega arith }
sign_facts s.DotAmpersand = record { sizes = inr (inl refl); first = omega arith; second = omega arith }
sign_facts s.DotHash = record { sizes = inr (inl refl); first = omega arith; second = omega arith }
sign_facts s.Assign = record { sizes = inl refl; first = omega arith; second = omega arith }
sign_facts s.Equal = record { sizes = inr (inl refl); first = omega arith; second = omega arith }
sign_facts s.NotEqual = record { sizes = inr (inl refl); first = omega arith; second = omega arith }
sign_facts s.Not = record { sizes = inr (inl refl); first = omega arith; second = omega arith }
sign_facts s.Tilde = record { sizes = inl refl; first = omega arith; second = omega arith }
sign_facts s.Greater = record { sizes = inl refl; first = omega arith; second = omega arith }
sign_facts s.GreaterOrEqual = record { sizes = inr (inl refl); first = omega arith; second = omega arith }
sign_facts s.Less = record { sizes = inl refl; first = omega arith; second = omega arith }
sign_facts s.LessOrEqual = record { sizes = inr (inl refl); first = omega arith; second = omega arith }
sign_facts s.AndAlso = record { sizes = inr (inl refl); first = omega arith; second = omega arith }
sign_facts s.Ampersand = record { sizes = inl refl; first = omega arith; second = omega arith }
sign_facts s.OrElse = record { sizes = inr (inl refl); first = omega arith; second = omega arith }
sign_facts s.Bar = record { sizes = inl refl; first = omega arith; second = omega arith }
sign_facts s.Plus = record { sizes = inl refl; first = omega arith; second = omega arith }
sign_facts s.Increment = record { sizes = inr (inl refl); first = omega arith; second = omega arith }
sign_facts s.Minus = record { sizes = inl refl; first = omega arith; second = omega arith }
sign_facts s.Decrement = record { sizes = inr (inl refl); first = omega arith; second = omega arith }
sign_facts s.Arrow = record { sizes = inr (inl refl); first = omega arith; second = omega arith }
sign_facts s.LongArrow = record { sizes = inr (inr refl); first = omega arith; second = omega arith }
sign_facts s.Star = record { sizes = inl refl; first = omega arith; second = omega arith }
sign_facts s.Slash = record { sizes = inl refl; first = omega arith; second = omega arith }
sign_facts s.Percent = record { sizes = inl refl; first = omega arith; second = omega arith }

pub sign_size : (x : Sign) → 0 < length (sign_spelling x)
sign_size s.OpenParenthesis = omega arith
sign_size s.CloseParenthesis = omega arith
sign_size s.OpenBrace = omega arith
sign_size s.CloseBrace = omega arith
sign_size s.OpenBracket = omega arith
sign_size s.CloseBracket = omega arith
sign_size s.Semicolon = omega arith
sign_size s.Comma = omega arith
sign_size s.Colon = omega arith
sign_size s.Dot = omega arith
sign_size s.DotAmpersand = omega arith
sign_size s.DotHash = omega arith
sign_size s.Assign = omega arith
sign_size s.Equal = omega arith
sign_size s.NotEqual = omega arith
sign_size s.Not = omega arith
sign_size s.Tilde = omega arith
sign_size s.Greater = omega arith
sign_size s.GreaterOrEqual = omega arith
sign_size s.Less = omega arith
sign_size s.LessOrEqual = omega arith
sign_size s.AndAlso = omega arith
sign_size s.Ampersand = omega arith
sign_size s.OrElse = omega arith
sign_size s.Bar = omega arith
sign_size s.Plus = omega arith
sign_size s.Increment = omega arith
sign_size s.Minus = omega arith
sign_size s.Decrement = omega arith
sign_size s.Arrow = omega arith
sign_size s.LongArrow = omega arith
sign_size s.Star = omega arith
sign_size s.Slash = omega arith
sign_size s.Percent = omega arith

-- the first byte of a sign of several bytes
pub longer_first : (x : Sign) → 1 < length (sign_spelling x) → begins_longer (get_or (sign_spelling x) 0 0) ≡ true
longer_first s.DotAmpersand e = refl
longer_first s.DotHash e = refl
longer_first s.Equal e = refl
longer_first s.NotEqual e = refl
longer_first s.Not e = refl
longer_first s.GreaterOrEqual e = refl
longer_first s.LessOrEqual e = refl
longer_first s.AndAlso e = refl
longer_first s.OrElse e = refl
longer_first s.Increment e = refl
longer_first s.Decrement e = refl
longer_first s.Arrow e = refl
longer_first s.LongArrow e = refl
longer_first x e = absurd (omega arith)
