-- Words of contracts and proofs: what is read from the front of a list of tokens, and the tokens after it.
use Rattle.std.specs.Prelude.{◌≡◌, ◌==◌, if◌then◌else◌, Bool, false, ℕ, zero, suc, List, [], ◌∷◌, length, Result, Ok}
use Rattle.std.specs.Prelude.{Err}
use Rattle.syntax_lexer.specs.declared.token.Sign.{Sign}
use Rattle.syntax_lexer.specs.declared.token.Sign.TheVariants as s
use Rattle.syntax_lexer.specs.declared.token.Word.{Word}
use Rattle.syntax_lexer.specs.declared.token.Word.TheVariants as w
use Rattle.syntax_lexer.specs.Token.{Lexeme, reserved, sign}
pub use Rattle.syntax_lexer.specs.Token.{head, tail}
use Rattle.syntax_trees.specs.Stop.{Stop, unfit, stop_of}
use Rattle.syntax_trees.specs.declared.error.ParseError.{ParseError}
use Rattle.syntax_trees.specs.declared.error.ParseError.TheVariants as errors

-- what is read, and the tokens after it; or why nothing is, and where
abbrev pub Parse : Type 0 → Type 0
Parse A = List Lexeme → Result (A × List Lexeme) Stop

infixl 10 ◌>>=◌
abbrev pub ◌>>=◌ : {A B : Type 0} → Result A Stop → (A → Result B Stop) → Result B Stop
(Ok x) >>= f = f x
(Err e) >>= f = Err e

-- What a function returned, seen by view, is what reading gives, unless memory was refused. A fault stands where
-- reading stops.
abbrev pub Fails : {Y : Type 0} → ParseError → Result Y Stop → Type 0
Fails errors.Memory read = Unit {0}
Fails (errors.Fault f left) read = read ≡ Err (stop_of f left)

abbrev pub Gives : {X Y : Type 0} → (X → Y) → Result X ParseError → Result Y Stop → Type 0
Gives view (Ok x) read = read ≡ Ok (view x)
Gives view (Err e) read = Fails e read

-- signs and reserved words by number, in the order of their declarations
abbrev pub sign_number : Sign → ℕ
sign_number s.OpenParenthesis = 0
sign_number s.CloseParenthesis = 1
sign_number s.OpenBrace = 2
sign_number s.CloseBrace = 3
sign_number s.OpenBracket = 4
sign_number s.CloseBracket = 5
sign_number s.Semicolon = 6
sign_number s.Comma = 7
sign_number s.Colon = 8
sign_number s.Dot = 9
sign_number s.DotAmpersand = 10
sign_number s.DotHash = 11
sign_number s.Assign = 12
sign_number s.Equal = 13
sign_number s.NotEqual = 14
sign_number s.Not = 15
sign_number s.Tilde = 16
sign_number s.Greater = 17
sign_number s.GreaterOrEqual = 18
sign_number s.Less = 19
sign_number s.LessOrEqual = 20
sign_number s.AndAlso = 21
sign_number s.Ampersand = 22
sign_number s.OrElse = 23
sign_number s.Bar = 24
sign_number s.Plus = 25
sign_number s.Increment = 26
sign_number s.Minus = 27
sign_number s.Decrement = 28
sign_number s.Arrow = 29
sign_number s.LongArrow = 30
sign_number s.Star = 31
sign_number s.Slash = 32
sign_number s.Percent = 33

abbrev pub word_number : Word → ℕ
word_number w.Abbreviate = 0
word_number w.Array = 1
word_number w.Attribute = 2
word_number w.Break = 3
word_number w.Char = 4
word_number w.Child = 5
word_number w.Constant = 6
word_number w.Continue = 7
word_number w.Default = 8
word_number w.Do = 9
word_number w.Else = 10
word_number w.False = 11
word_number w.For = 12
word_number w.Give = 13
word_number w.Global = 14
word_number w.Has = 15
word_number w.Hasnt = 16
word_number w.If = 17
word_number w.In = 18
word_number w.Move = 19
word_number w.NewLine = 20
word_number w.Nothing = 21
word_number w.Notin = 22
word_number w.Object = 23
word_number w.Objectloop = 24
word_number w.Or = 25
word_number w.Parent = 26
word_number w.Print = 27
word_number w.PrintRet = 28
word_number w.Property = 29
word_number w.Provides = 30
word_number w.Quit = 31
word_number w.Read = 32
word_number w.Remove = 33
word_number w.Return = 34
word_number w.Rfalse = 35
word_number w.Rtrue = 36
word_number w.Sibling = 37
word_number w.String = 38
word_number w.Switch = 39
word_number w.Table = 40
word_number w.To = 41
word_number w.True = 42
word_number w.Until = 43
word_number w.While = 44
word_number w.With = 45

abbrev pub is_sign : Sign → Lexeme → Bool
is_sign s (sign r p) = sign_number r == sign_number s
is_sign s _ = false

abbrev pub is_word : Word → Lexeme → Bool
is_word w (reserved r p) = word_number r == word_number w
is_word w _ = false

-- the tokens after that sign, or word
unfoldable pub expect : Sign → List Lexeme → Result (List Lexeme) Stop
expect s ts = if is_sign s (head ts) then Ok (tail ts) else Err (unfit (length ts))

unfoldable pub expect_word : Word → List Lexeme → Result (List Lexeme) Stop
expect_word w ts = if is_word w (head ts) then Ok (tail ts) else Err (unfit (length ts))

-- {separator item}
unfoldable pub further : {A : Type 0} → (Lexeme → Bool) → Parse A → ℕ → Parse (List A)
further separates item zero ts = Ok ([], ts)
further separates item (suc n) ts =
    if separates (head ts) then (item (tail ts) >>= λ x. further separates item n x.1 >>= λ y. Ok (x.0 ∷ y.0, y.1))
    else Ok ([], ts)

-- item {separator item}
unfoldable pub list : {A : Type 0} → (Lexeme → Bool) → Parse A → Parse (List A)
list separates item ts = item ts >>= λ x. further separates item (length x.1) x.1 >>= λ y. Ok (x.0 ∷ y.0, y.1)

-- items, as long as the tokens begin one. The number bounds the turns; the count of tokens is enough.
unfoldable pub as_long : {A : Type 0} → (List Lexeme → Bool) → Parse A → ℕ → Parse (List A)
as_long begins item zero ts = Ok ([], ts)
as_long begins item (suc n) ts =
    if begins ts then (item ts >>= λ x. as_long begins item n x.1 >>= λ y. Ok (x.0 ∷ y.0, y.1))
    else Ok ([], ts)

-- as long as the next token begins one
unfoldable pub repeated : {A : Type 0} → (Lexeme → Bool) → Parse A → ℕ → Parse (List A)
repeated begins item n ts = as_long (λ us. begins (head us)) item n ts
