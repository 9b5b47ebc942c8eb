-- Kinds of tokens.
use Rattle.std.specs.Prelude.{List, [], ◌∷◌}
use Rattle.syntax_lexer.specs.declared.token.Position.{Position}
use Rattle.syntax_lexer.specs.declared.token.Sign.TheVariants as s
use Rattle.syntax_lexer.specs.declared.token.Word.TheVariants as w
use Rattle.syntax_lexer.specs.Token.{Lexeme, name, number, text, character, dictionary_word, reserved, sign, end}
use Rattle.messages_advice.specs.declared.kinds.TokenKind.{TokenKind}
use Rattle.messages_advice.specs.declared.kinds.TokenKind.TheVariants as k

-- what a token is, whatever its bytes and wherever it stands
abbrev pub kind_of : Lexeme → TokenKind
kind_of (name bytes p) = k.Name
kind_of (number n p) = k.Number
kind_of (text bytes p) = k.Text
kind_of (character c p) = k.Character
kind_of (dictionary_word bytes p) = k.DictionaryWord
kind_of (reserved w p) = k.Reserved w
kind_of (sign s p) = k.Sign s
kind_of (end p) = k.End

-- Words of proofs

abbrev pub nowhere : Position
nowhere = record { offset = 0; line = 0 }

-- some token of a kind
abbrev pub some_token : TokenKind → Lexeme
some_token k.Name = name [] nowhere
some_token k.Number = number 0 nowhere
some_token k.Text = text [] nowhere
some_token k.Character = character 0 nowhere
some_token k.DictionaryWord = dictionary_word [] nowhere
some_token (k.Reserved w) = reserved w nowhere
some_token (k.Sign s) = sign s nowhere
some_token k.End = end nowhere

unfoldable pub all_kinds : List TokenKind
all_kinds =
    k.Name ∷ k.Number ∷ k.Text ∷ k.Character ∷ k.DictionaryWord ∷ k.Reserved w.Abbreviate ∷ k.Reserved w.Array
    ∷ k.Reserved w.Attribute ∷ k.Reserved w.Break ∷ k.Reserved w.Char ∷ k.Reserved w.Child
    ∷ k.Reserved w.Constant ∷ k.Reserved w.Continue ∷ k.Reserved w.Default ∷ k.Reserved w.Do ∷ k.Reserved w.Else
    ∷ k.Reserved w.False ∷ k.Reserved w.For ∷ k.Reserved w.Give ∷ k.Reserved w.Global ∷ k.Reserved w.Has
    ∷ k.Reserved w.Hasnt ∷ k.Reserved w.If ∷ k.Reserved w.In ∷ k.Reserved w.Move ∷ k.Reserved w.NewLine
    ∷ k.Reserved w.Nothing ∷ k.Reserved w.Notin ∷ k.Reserved w.Object ∷ k.Reserved w.Objectloop
    ∷ k.Reserved w.Or ∷ k.Reserved w.Parent ∷ k.Reserved w.Print ∷ k.Reserved w.PrintRet ∷ k.Reserved w.Property
    ∷ k.Reserved w.Provides ∷ k.Reserved w.Quit ∷ k.Reserved w.Read ∷ k.Reserved w.Remove ∷ k.Reserved w.Return
    ∷ k.Reserved w.Rfalse ∷ k.Reserved w.Rtrue ∷ k.Reserved w.Sibling ∷ k.Reserved w.String
    ∷ k.Reserved w.Switch ∷ k.Reserved w.Table ∷ k.Reserved w.To ∷ k.Reserved w.True ∷ k.Reserved w.Until
    ∷ k.Reserved w.While ∷ k.Reserved w.With ∷ k.Sign s.OpenParenthesis ∷ k.Sign s.CloseParenthesis
    ∷ k.Sign s.OpenBrace ∷ k.Sign s.CloseBrace ∷ k.Sign s.OpenBracket ∷ k.Sign s.CloseBracket
    ∷ k.Sign s.Semicolon ∷ k.Sign s.Comma ∷ k.Sign s.Colon ∷ k.Sign s.Dot ∷ k.Sign s.DotAmpersand
    ∷ k.Sign s.DotHash ∷ k.Sign s.Assign ∷ k.Sign s.Equal ∷ k.Sign s.NotEqual ∷ k.Sign s.Not ∷ k.Sign s.Tilde
    ∷ k.Sign s.Greater ∷ k.Sign s.GreaterOrEqual ∷ k.Sign s.Less ∷ k.Sign s.LessOrEqual ∷ k.Sign s.AndAlso
    ∷ k.Sign s.Ampersand ∷ k.Sign s.OrElse ∷ k.Sign s.Bar ∷ k.Sign s.Plus ∷ k.Sign s.Increment ∷ k.Sign s.Minus
    ∷ k.Sign s.Decrement ∷ k.Sign s.Arrow ∷ k.Sign s.LongArrow ∷ k.Sign s.Star ∷ k.Sign s.Slash
    ∷ k.Sign s.Percent ∷ k.End ∷ []
