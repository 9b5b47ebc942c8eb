-- The head of an object: arrows, its name, its short name and its parent. One without a name gets a name by where it
-- stands.
use Rattle.std.specs.Prelude.{◌&&◌, ℕ, Bool, true, false, not, List, [], ◌∷◌, if◌then◌else◌, codes}
use Rattle.syntax_lexer.specs.declared.token.Position.{Position}
use Rattle.syntax_lexer.specs.declared.token.Sign.TheVariants as s
use Rattle.syntax_lexer.specs.Token.{Lexeme, name}
use Rattle.derive_tokens.specs.Tokens.{is_sign, numbered}
use Rattle.derive_tokens.specs.Names.{is_name}
use Rattle.derive_classes.specs.Parts.{is_between}

-- a name that stands in the head
abbrev pub is_own_name : Lexeme → Bool
is_own_name t = is_name t && not (is_between t)

-- the tokens behind the first of an object have a name behind the arrows
abbrev pub has_own_name : List Lexeme → Bool
has_own_name [] = false
has_own_name (t ∷ ts) = if is_sign s.Arrow t then has_own_name ts else is_own_name t

abbrev pub made_name : Position → Lexeme
made_name p = name (numbered (codes "x__o") p.offset) p

-- the tokens behind the arrows, of an object that begins at a place, with a name
abbrev pub named_here : Position → Lexeme → List Lexeme → List Lexeme
named_here p t ts = if is_own_name t then t ∷ ts else made_name p ∷ t ∷ ts

abbrev pub with_own_name : Position → List Lexeme → List Lexeme
with_own_name p [] = made_name p ∷ []
with_own_name p (t ∷ ts) = if is_sign s.Arrow t then t ∷ with_own_name p ts else named_here p t ts

-- the head, and what is behind it
abbrev pub head_of : List Lexeme → List Lexeme
head_of [] = []
head_of (t ∷ ts) = if is_between t then [] else t ∷ head_of ts

abbrev pub body_of : List Lexeme → List Lexeme
body_of [] = []
body_of (t ∷ ts) = if is_between t then t ∷ ts else body_of ts
