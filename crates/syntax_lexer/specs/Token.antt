-- Tokens, without where they lie in memory.
use Rattle.std.specs.Prelude.{ℕ, List, [], ◌∷◌, map}
use Rattle.syntax_lexer.specs.declared.token.Sign.{Sign}
use Rattle.syntax_lexer.specs.declared.token.Word.{Word}
use Rattle.syntax_lexer.specs.declared.token.Position.{Position}
use Rattle.syntax_lexer.specs.declared.token.Kind.{Kind}
use Rattle.syntax_lexer.specs.declared.token.Kind.TheVariants as kinds
use Rattle.syntax_lexer.specs.declared.token.Token.{Token}

-- a token as the grammar sees it, and its position in the source
pub data Lexeme : Type 0 where
  name : List ℕ → Position → Lexeme
  number : ℕ → Position → Lexeme
  text : List ℕ → Position → Lexeme
  character : ℕ → Position → Lexeme
  dictionary_word : List ℕ → Position → Lexeme
  reserved : Word → Position → Lexeme
  sign : Sign → Position → Lexeme
  end : Position → Lexeme

abbrev pub lexeme_of : Kind → Position → Lexeme
lexeme_of (kinds.Name s) position = name s.now position
lexeme_of (kinds.Number n) position = number n position
lexeme_of (kinds.Text s) position = text s.now position
lexeme_of (kinds.Character c) position = character c position
lexeme_of (kinds.DictionaryWord s) position = dictionary_word s.now position
lexeme_of (kinds.Reserved w) position = reserved w position
lexeme_of (kinds.Sign s) position = sign s position
lexeme_of kinds.End position = end position

abbrev pub lexeme : Token → Lexeme
lexeme t = lexeme_of t.kind t.position

abbrev pub lexemes : List Token → List Lexeme
lexemes ts = map lexeme ts

-- where a token stands
abbrev pub position_of : Lexeme → Position
position_of (name s p) = p
position_of (number n p) = p
position_of (text s p) = p
position_of (character c p) = p
position_of (dictionary_word s p) = p
position_of (reserved w p) = p
position_of (sign s p) = p
position_of (end p) = p

-- Lists of tokens

-- the token that comes next; a list of tokens that is at its end goes on with the source's end
abbrev pub head : List Lexeme → Lexeme
head [] = end (record { offset = 0; line = 0 })
head (t ∷ ts) = t

abbrev pub tail : List Lexeme → List Lexeme
tail [] = []
tail (t ∷ ts) = ts
