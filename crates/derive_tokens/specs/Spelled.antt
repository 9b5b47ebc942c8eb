-- How a derived token is spelled: a number in decimal digits, a reserved word in small letters.
use Rattle.std.specs.Prelude.{ℕ, List, [], ◌∷◌, ◌++◌, codes}
use Rattle.std.specs.Fmt.{decimal}
use Rattle.syntax_lexer.specs.Spelling.{sign_spelling, word_spelling, quoted}
use Rattle.syntax_lexer.specs.Token.{Lexeme, name, number, text, character, dictionary_word, reserved, sign, end}

-- what stands between the quotes of a dictionary word: a word of one byte has two slashes, since it is a character else
abbrev pub quoted_word : List ℕ → List ℕ
quoted_word (b ∷ []) = b ∷ codes "//"
quoted_word s = s

abbrev pub spelling : Lexeme → List ℕ
spelling (name s p) = s
spelling (number n p) = decimal n
spelling (text s p) = 34 ∷ (s ++ 34 ∷ [])
spelling (character c p) = quoted (c ∷ [])
spelling (dictionary_word s p) = quoted (quoted_word s)
spelling (reserved w p) = word_spelling w
spelling (sign s p) = sign_spelling s
spelling (end p) = []
