-- Tokens of a line of words, for samples: what is between two spaces is a token.
use Rattle.std.specs.Prelude.{◌==◌, ◌-◌, ℕ, List, [], ◌∷◌, if◌then◌else◌, take, length}
use Rattle.std.specs.List.{slice_split}
use Rattle.std.specs.Str.{bytes_eq}
use Rattle.std.specs.Str.Parse.{digits_value}
use Rattle.syntax_lexer.specs.declared.token.Position.{Position}
use Rattle.syntax_lexer.specs.declared.token.Sign.{Sign}
use Rattle.syntax_lexer.specs.declared.token.Sign.TheVariants as s
use Rattle.syntax_lexer.specs.declared.token.Word.{Word}
use Rattle.syntax_lexer.specs.declared.token.Word.TheVariants as w
use Rattle.syntax_lexer.specs.Bytes.{is_letter, is_digit}
use Rattle.syntax_lexer.specs.Spelling.{sign_spelling, word_spelling}
use Rattle.syntax_lexer.specs.Token.{Lexeme, name, number, text, dictionary_word, reserved, sign, end}

abbrev pub signs : List Sign
signs =
    s.OpenParenthesis ∷ s.CloseParenthesis ∷ s.OpenBrace ∷ s.CloseBrace ∷ s.OpenBracket ∷ s.CloseBracket ∷ s.Semicolon
    ∷ s.Comma ∷ s.Colon ∷ s.Dot ∷ s.DotAmpersand ∷ s.DotHash ∷ s.Assign ∷ s.Equal ∷ s.NotEqual ∷ s.Not ∷ s.Tilde
    ∷ s.Greater ∷ s.GreaterOrEqual ∷ s.Less ∷ s.LessOrEqual ∷ s.AndAlso ∷ s.Ampersand ∷ s.OrElse ∷ s.Bar ∷ s.Plus
    ∷ s.Increment ∷ s.Minus ∷ s.Decrement ∷ s.Arrow ∷ s.LongArrow ∷ s.Star ∷ s.Slash ∷ s.Percent ∷ []

abbrev pub words : List Word
words =
    w.Array ∷ w.Char ∷ w.Child ∷ w.Constant ∷ w.Else ∷ w.For ∷ w.Global ∷ w.Has ∷ w.Hasnt ∷ w.If ∷ w.In ∷ w.NewLine
    ∷ w.Notin ∷ w.Object ∷ w.Objectloop ∷ w.Or ∷ w.Parent ∷ w.Print ∷ w.PrintRet ∷ w.Property ∷ w.Provides ∷ w.Quit
    ∷ w.Return ∷ w.Rfalse ∷ w.Rtrue ∷ w.Sibling ∷ w.String ∷ w.Switch ∷ w.While ∷ w.With ∷ []

abbrev pub sign_of : Position → List ℕ → List Sign → Lexeme
sign_of p b [] = end p
sign_of p b (x ∷ xs) = if bytes_eq (sign_spelling x) b then sign x p else sign_of p b xs

abbrev pub name_of : Position → List ℕ → List Word → Lexeme
name_of p b [] = name b p
name_of p b (x ∷ xs) = if bytes_eq (word_spelling x) b then reserved x p else name_of p b xs

-- without the quote at the end
abbrev pub unquoted : List ℕ → List ℕ
unquoted b = take (length b - 1) b

abbrev pub token : Position → List ℕ → Lexeme
token p [] = end p
token p (b ∷ bs) =
    if is_letter b then name_of p (b ∷ bs) words
    else if is_digit b then number (digits_value 10 (b ∷ bs)) p
    else if b == 34 then text (unquoted bs) p
    else if b == 39 then dictionary_word (unquoted bs) p
    else sign_of p (b ∷ bs) signs

abbrev pub tokens_of : Position → List (List ℕ) → List Lexeme
tokens_of p [] = []
tokens_of p ([] ∷ xs) = tokens_of p xs
tokens_of p (x ∷ xs) = token p x ∷ tokens_of p xs

-- the tokens of a line of words, at a position
abbrev pub worded : Position → List ℕ → List Lexeme
worded p line = tokens_of p (slice_split (λ b. b == 32) line)
