-- Which bytes spell which token.
use Rattle.std.specs.Prelude.{◌≡◌, ◌≤◌, ◌<◌, ◌+◌, ℕ, true, List, [], ◌∷◌, ◌++◌, length, slice_index, ◌⊎◌}
use Rattle.std.specs.Str.{str_to_ascii_lowercase}
use lib.Chars.{codes}
use Rattle.syntax_lexer.specs.declared.bytes.Base.{Base}
use Rattle.syntax_lexer.specs.declared.bytes.Base.TheVariants as bases
use Rattle.syntax_lexer.specs.declared.token.Sign.{Sign}
use Rattle.syntax_lexer.specs.declared.token.Sign.TheVariants as s
use Rattle.syntax_lexer.specs.declared.token.Word.{Word}
use Rattle.syntax_lexer.specs.declared.token.Word.TheVariants as w
use Rattle.syntax_lexer.specs.Bytes.{is_letter, is_name_byte, is_text_byte, is_word_byte, is_character, is_digit_of}
use Rattle.syntax_lexer.specs.Bytes.{value_from, Each}
use Rattle.syntax_lexer.specs.Token.{Lexeme, name, number, text, character, dictionary_word, reserved, sign, end}

abbrev pub sign_spelling : Sign → List ℕ
sign_spelling s.OpenParenthesis = codes "("
sign_spelling s.CloseParenthesis = codes ")"
sign_spelling s.OpenBrace = codes "{"
sign_spelling s.CloseBrace = codes "}"
sign_spelling s.OpenBracket = codes "["
sign_spelling s.CloseBracket = codes "]"
sign_spelling s.Semicolon = codes ";"
sign_spelling s.Comma = codes ","
sign_spelling s.Colon = codes ":"
sign_spelling s.Dot = codes "."
sign_spelling s.DotAmpersand = codes ".&"
sign_spelling s.DotHash = codes ".#"
sign_spelling s.Assign = codes "="
sign_spelling s.Equal = codes "=="
sign_spelling s.NotEqual = codes "~="
sign_spelling s.Not = codes "~~"
sign_spelling s.Tilde = codes "~"
sign_spelling s.Greater = codes ">"
sign_spelling s.GreaterOrEqual = codes ">="
sign_spelling s.Less = codes "<"
sign_spelling s.LessOrEqual = codes "<="
sign_spelling s.AndAlso = codes "&&"
sign_spelling s.Ampersand = codes "&"
sign_spelling s.OrElse = codes "||"
sign_spelling s.Bar = codes "|"
sign_spelling s.Plus = codes "+"
sign_spelling s.Increment = codes "++"
sign_spelling s.Minus = codes "-"
sign_spelling s.Decrement = codes "--"
sign_spelling s.Arrow = codes "->"
sign_spelling s.LongArrow = codes "-->"
sign_spelling s.Star = codes "*"
sign_spelling s.Slash = codes "/"
sign_spelling s.Percent = codes "%"

-- in small letters
abbrev pub word_spelling : Word → List ℕ
word_spelling w.Abbreviate = codes "abbreviate"
word_spelling w.Array = codes "array"
word_spelling w.Attribute = codes "attribute"
word_spelling w.Break = codes "break"
word_spelling w.Char = codes "char"
word_spelling w.Child = codes "child"
word_spelling w.Constant = codes "constant"
word_spelling w.Continue = codes "continue"
word_spelling w.Default = codes "default"
word_spelling w.Do = codes "do"
word_spelling w.Else = codes "else"
word_spelling w.False = codes "false"
word_spelling w.For = codes "for"
word_spelling w.Give = codes "give"
word_spelling w.Global = codes "global"
word_spelling w.Has = codes "has"
word_spelling w.Hasnt = codes "hasnt"
word_spelling w.If = codes "if"
word_spelling w.In = codes "in"
word_spelling w.Move = codes "move"
word_spelling w.NewLine = codes "new_line"
word_spelling w.Nothing = codes "nothing"
word_spelling w.Notin = codes "notin"
word_spelling w.Object = codes "object"
word_spelling w.Objectloop = codes "objectloop"
word_spelling w.Or = codes "or"
word_spelling w.Parent = codes "parent"
word_spelling w.Print = codes "print"
word_spelling w.PrintRet = codes "print_ret"
word_spelling w.Property = codes "property"
word_spelling w.Provides = codes "provides"
word_spelling w.Quit = codes "quit"
word_spelling w.Read = codes "read"
word_spelling w.Remove = codes "remove"
word_spelling w.Return = codes "return"
word_spelling w.Rfalse = codes "rfalse"
word_spelling w.Rtrue = codes "rtrue"
word_spelling w.Sibling = codes "sibling"
word_spelling w.String = codes "string"
word_spelling w.Switch = codes "switch"
word_spelling w.Table = codes "table"
word_spelling w.To = codes "to"
word_spelling w.True = codes "true"
word_spelling w.Until = codes "until"
word_spelling w.While = codes "while"
word_spelling w.With = codes "with"

-- the reserved word, in small letters or in capitals
abbrev pub IsReserved : Word → List ℕ → Type 0
IsReserved w bs = str_to_ascii_lowercase bs ≡ word_spelling w

-- a letter or underscore, then letters, digits and underscores; no reserved word
abbrev pub IsName : List ℕ → Type 0
IsName [] = ⊥
IsName (b ∷ bs) = (is_letter b ≡ true) × Each is_name_byte bs × ((w : Word) → IsReserved w (b ∷ bs) → ⊥)

abbrev pub prefix : Base → List ℕ
prefix bases.Decimal = []
prefix bases.Hexadecimal = codes "$"
prefix bases.Binary = codes "$$"

-- the digits of a base, at least one, after its prefix
abbrev pub IsNumber : ℕ → List ℕ → Type 0
IsNumber v bs = (base : Base) × (digits : List ℕ) × (bs ≡ prefix base ++ digits) × (0 < length digits)
    × Each (is_digit_of base) digits × (v ≡ value_from base 0 digits)

-- a character, alone between quotes
abbrev pub IsCharacter : ℕ → List ℕ → Type 0
IsCharacter c content = (is_character c ≡ true) × (content ≡ c ∷ [])

-- at least one byte, and no two slashes in a row
abbrev pub IsPlainWord : List ℕ → Type 0
IsPlainWord s = (0 < length s) × Each is_word_byte s
    × ((i : ℕ) → slice_index s i ≡ 47 → slice_index s (i + 1) ≡ 47 → ⊥)

-- a dictionary word between quotes: two bytes or more, the last two of which are dropped where they are `//`
abbrev pub IsDictionaryWord : List ℕ → List ℕ → Type 0
IsDictionaryWord s content = IsPlainWord s × (((2 ≤ length s) × (content ≡ s)) ⊎ (content ≡ s ++ codes "//"))

abbrev pub quoted : List ℕ → List ℕ
quoted content = 39 ∷ (content ++ 39 ∷ [])

-- wherever the token stands
abbrev pub Spells : Lexeme → List ℕ → Type 0
Spells (name s p) bs = (s ≡ bs) × IsName bs
Spells (number v p) bs = IsNumber v bs
Spells (text s p) bs = Each is_text_byte s × (bs ≡ 34 ∷ (s ++ 34 ∷ []))
Spells (character c p) bs = (content : List ℕ) × IsCharacter c content × (bs ≡ quoted content)
Spells (dictionary_word s p) bs = (content : List ℕ) × IsDictionaryWord s content × (bs ≡ quoted content)
Spells (reserved w p) bs = IsReserved w bs
Spells (sign s p) bs = bs ≡ sign_spelling s
Spells (end p) bs = ⊥
