-- Which token stands where a test for a sign or a reserved word holds.
use Rattle.std.proofs.Common.{◌≡◌, ℕ, Bool, true, false, cond, eqb, List, [], ◌∷◌, length, get_or, Result, Ok, Err}
use Rattle.std.proofs.Common.{refl, sym, ap, ◌∙◌}
use Rattle.std.proofs.lemmas.Bool.{eqb-true}
use Rattle.syntax_lexer.specs.declared.token.Sign.{Sign}
use Rattle.syntax_lexer.specs.declared.token.Sign.TheVariants as s
use Rattle.syntax_lexer.specs.declared.token.Word.{Word}
use Rattle.syntax_lexer.specs.declared.token.Word.TheVariants as w
use Rattle.syntax_lexer.specs.Token.{Lexeme, name, number, text, character, dictionary_word, reserved, sign, end}
use Rattle.syntax_lexer.specs.Token.{position_of}
use Rattle.syntax_trees.specs.Stop.{Stop, unfit, deep}
use Rattle.syntax_trees.specs.Parse.{head, tail, sign_number, word_number, is_sign, is_word, expect, expect_word}

sign_at : ℕ → Sign
sign_at n = get_or
    (s.OpenParenthesis ∷ s.CloseParenthesis ∷ s.OpenBrace ∷ s.CloseBrace ∷ s.OpenBracket ∷ s.CloseBracket
    ∷ s.Semicolon ∷ s.Comma ∷ s.Colon ∷ s.Dot ∷ s.DotAmpersand ∷ s.DotHash ∷ s.Assign ∷ s.Equal ∷ s.NotEqual ∷ s.Not
    ∷ s.Tilde ∷ s.Greater ∷ s.GreaterOrEqual ∷ s.Less ∷ s.LessOrEqual ∷ s.AndAlso ∷ s.Ampersand ∷ s.OrElse ∷ s.Bar
    ∷ s.Plus ∷ s.Increment ∷ s.Minus ∷ s.Decrement ∷ s.Arrow ∷ s.LongArrow ∷ s.Star ∷ s.Slash ∷ s.Percent ∷ []) n
    s.Percent

sign_back : (s : Sign) → sign_at (sign_number s) ≡ s
unfolding sign_at
sign_back s.OpenParenthesis = refl
sign_back s.CloseParenthesis = refl
sign_back s.OpenBrace = refl
sign_back s.CloseBrace = refl
sign_back s.OpenBracket = refl
sign_back s.CloseBracket = refl
sign_back s.Semicolon = refl
sign_back s.Comma = refl
sign_back s.Colon = refl
sign_back s.Dot = refl
sign_back s.DotAmpersand = refl
sign_back s.DotHash = refl
sign_back s.Assign = refl
sign_back s.Equal = refl
sign_back s.NotEqual = refl
sign_back s.Not = refl
sign_back s.Tilde = refl
sign_back s.Greater = refl
sign_back s.GreaterOrEqual = refl
sign_back s.Less = refl
sign_back s.LessOrEqual = refl
sign_back s.AndAlso = refl
sign_back s.Ampersand = refl
sign_back s.OrElse = refl
sign_back s.Bar = refl
sign_back s.Plus = refl
sign_back s.Increment = refl
sign_back s.Minus = refl
sign_back s.Decrement = refl
sign_back s.Arrow = refl
sign_back s.LongArrow = refl
sign_back s.Star = refl
sign_back s.Slash = refl
sign_back s.Percent = refl

pub same_sign : (r s : Sign) → eqb (sign_number r) (sign_number s) ≡ true → r ≡ s
same_sign r s e = sym (sign_back r) ∙ ap sign_at (eqb-true _ _ e) ∙ sign_back s

word_at : ℕ → Word
word_at n = get_or
    (w.Abbreviate ∷ w.Array ∷ w.Attribute ∷ w.Break ∷ w.Char ∷ w.Child ∷ w.Constant ∷ w.Continue ∷ w.Default ∷ w.Do
    ∷ w.Else ∷ w.False ∷ w.For ∷ w.Give ∷ w.Global ∷ w.Has ∷ w.Hasnt ∷ w.If ∷ w.In ∷ w.Move ∷ w.NewLine ∷ w.Nothing
    ∷ w.Notin ∷ w.Object ∷ w.Objectloop ∷ w.Or ∷ w.Parent ∷ w.Print ∷ w.PrintRet ∷ w.Property ∷ w.Provides ∷ w.Quit
    ∷ w.Read ∷ w.Remove ∷ w.Return ∷ w.Rfalse ∷ w.Rtrue ∷ w.Sibling ∷ w.String ∷ w.Switch ∷ w.Table ∷ w.To ∷ w.True
    ∷ w.Until ∷ w.While ∷ w.With ∷ []) n w.With

word_back : (w : Word) → word_at (word_number w) ≡ w
unfolding word_at
word_back w.Abbreviate = refl
word_back w.Array = refl
word_back w.Attribute = refl
word_back w.Break = refl
word_back w.Char = refl
word_back w.Child = refl
word_back w.Constant = refl
word_back w.Continue = refl
word_back w.Default = refl
word_back w.Do = refl
word_back w.Else = refl
word_back w.False = refl
word_back w.For = refl
word_back w.Give = refl
word_back w.Global = refl
word_back w.Has = refl
word_back w.Hasnt = refl
word_back w.If = refl
word_back w.In = refl
word_back w.Move = refl
word_back w.NewLine = refl
word_back w.Nothing = refl
word_back w.Notin = refl
word_back w.Object = refl
word_back w.Objectloop = refl
word_back w.Or = refl
word_back w.Parent = refl
word_back w.Print = refl
word_back w.PrintRet = refl
word_back w.Property = refl
word_back w.Provides = refl
word_back w.Quit = refl
word_back w.Read = refl
word_back w.Remove = refl
word_back w.Return = refl
word_back w.Rfalse = refl
word_back w.Rtrue = refl
word_back w.Sibling = refl
word_back w.String = refl
word_back w.Switch = refl
word_back w.Table = refl
word_back w.To = refl
word_back w.True = refl
word_back w.Until = refl
word_back w.While = refl
word_back w.With = refl

pub same_word : (r w : Word) → eqb (word_number r) (word_number w) ≡ true → r ≡ w
same_word r w e = sym (word_back r) ∙ ap word_at (eqb-true _ _ e) ∙ word_back w

pub at_sign : (s : Sign) (ts : List Lexeme) → is_sign s (head ts) ≡ true
    → ts ≡ sign s (position_of (head ts)) ∷ tail ts
at_sign s [] e = absurd cc
at_sign s (name f p ∷ ts) e = absurd cc
at_sign s (number n p ∷ ts) e = absurd cc
at_sign s (text f p ∷ ts) e = absurd cc
at_sign s (character c p ∷ ts) e = absurd cc
at_sign s (dictionary_word f p ∷ ts) e = absurd cc
at_sign s (reserved r p ∷ ts) e = absurd cc
at_sign s (sign r p ∷ ts) e = ap (λ q. sign q p ∷ ts) (same_sign r s e)
at_sign s (end p ∷ ts) e = absurd cc

pub at_word : (w : Word) (ts : List Lexeme) → is_word w (head ts) ≡ true
    → ts ≡ reserved w (position_of (head ts)) ∷ tail ts
at_word w [] e = absurd cc
at_word w (name f p ∷ ts) e = absurd cc
at_word w (number n p ∷ ts) e = absurd cc
at_word w (text f p ∷ ts) e = absurd cc
at_word w (character c p ∷ ts) e = absurd cc
at_word w (dictionary_word f p ∷ ts) e = absurd cc
at_word w (reserved r p ∷ ts) e = ap (λ q. reserved q p ∷ ts) (same_word r w e)
at_word w (sign r p ∷ ts) e = absurd cc
at_word w (end p ∷ ts) e = absurd cc

-- the same for a token alone
pub is_that_sign : (s : Sign) (t : Lexeme) → is_sign s t ≡ true → t ≡ sign s (position_of t)
is_that_sign s t e = ap head (at_sign s (t ∷ []) e)

pub is_that_word : (w : Word) (t : Lexeme) → is_word w t ≡ true → t ≡ reserved w (position_of t)
is_that_word w t e = ap head (at_word w (t ∷ []) e)

-- what was expected
taken : (b : Bool) (n : ℕ) (u : List Lexeme) → Result (List Lexeme) Stop
taken b n u = cond b (Ok u) (Err (unfit n))

taken_ok : (b : Bool) (n : ℕ) (u r : List Lexeme) → taken b n u ≡ Ok r → (b ≡ true) × (u ≡ r)
unfolding taken
taken_ok true n u r e = (refl, cc)
taken_ok false n u r e = absurd cc

taken_deep : (b : Bool) (n k : ℕ) (u : List Lexeme) → taken b n u ≡ Err (deep k) → ⊥
unfolding taken
taken_deep true n k u e = absurd cc
taken_deep false n k u e = absurd cc

pub expect_ok : (s : Sign) (ts r : List Lexeme) → expect s ts ≡ Ok r → ts ≡ sign s (position_of (head ts)) ∷ r
unfolding expect taken
expect_ok s ts r e =
    let p = taken_ok (is_sign s (head ts)) (length ts) (tail ts) r e in
    at_sign s ts p.0 ∙ ap (λ u. sign s (position_of (head ts)) ∷ u) p.1

pub expect_not_deep : (s : Sign) (ts : List Lexeme) (k : ℕ) → expect s ts ≡ Err (deep k) → ⊥
unfolding expect taken
expect_not_deep s ts k e = taken_deep (is_sign s (head ts)) (length ts) k (tail ts) e

pub expect_word_ok : (w : Word) (ts r : List Lexeme) → expect_word w ts ≡ Ok r
    → ts ≡ reserved w (position_of (head ts)) ∷ r
unfolding expect_word taken
expect_word_ok w ts r e =
    let p = taken_ok (is_word w (head ts)) (length ts) (tail ts) r e in
    at_word w ts p.0 ∙ ap (λ u. reserved w (position_of (head ts)) ∷ u) p.1

pub expect_word_not_deep : (w : Word) (ts : List Lexeme) (k : ℕ) → expect_word w ts ≡ Err (deep k) → ⊥
unfolding expect_word taken
expect_word_not_deep w ts k e = taken_deep (is_word w (head ts)) (length ts) k (tail ts) e
