-- `spaces e;` stands for `x__spaces(e);`, and `objectloop (x from e) S` for `for (x = e : x : x = sibling(x)) S`.
use Rattle.std.specs.Prelude.{◌&&◌, ◌||◌, Bool, true, false, not, List, [], ◌∷◌, ◌++◌, if◌then◌else◌, codes}
use Rattle.std.specs.Prelude.{Option, Some, None}
use Rattle.syntax_lexer.specs.declared.token.Position.{Position}
use Rattle.syntax_lexer.specs.declared.token.Sign.TheVariants as s
use Rattle.syntax_lexer.specs.declared.token.Word.TheVariants as w
use Rattle.syntax_lexer.specs.Token.{Lexeme, name, reserved, sign, head, position_of}
use Rattle.derive_tokens.specs.Tokens.{is_sign, is_word, is_named}
use Rattle.derive_values.specs.declared.places.Scope.{Scope}
use Rattle.derive_values.specs.Places.{Reading, unread, reading_after}
use Rattle.derive_values.specs.Values.{begins_operand}
use Rattle.derive_statements.specs.FileNames.{FileNames, names_of, is_defined}
use Rattle.derive_statements.specs.Lists.{at_statement, is_in_header}

-- `spaces` before an operand, if the source has no such name
abbrev pub begins_spaces : FileNames → Reading → Lexeme → List Lexeme → Bool
begins_spaces names r t rest =
    at_statement r.scope && (is_named (codes "spaces") t && (begins_operand (head rest)
    && not (is_defined names r.own (codes "spaces"))))

-- the variable of a bracket, a name and `from`
abbrev pub variable_in : List Lexeme → Option Lexeme
variable_in (bracket ∷ x ∷ from ∷ ts) =
    if is_sign s.OpenParenthesis bracket && is_named (codes "from") from then Some x else None
variable_in _ = None

-- that of an `objectloop` with `from`, which begins with the token
abbrev pub variable_of : Scope → Lexeme → List Lexeme → Option Lexeme
variable_of scope t rest =
    if at_statement scope && is_word w.Objectloop t then variable_in rest else None

abbrev pub variable_after : Scope → Option Lexeme → Lexeme → List Lexeme → Option Lexeme
variable_after scope variable t rest = if at_statement scope then variable_of scope t rest else variable

abbrev pub is_found : Option Lexeme → Bool
is_found None = false
is_found (Some x) = true

-- the rest of the header
abbrev pub onward : Lexeme → Position → List Lexeme
onward x p =
    sign s.Colon p ∷ x ∷ sign s.Colon p ∷ x ∷ sign s.Assign p ∷ reserved w.Sibling p ∷ sign s.OpenParenthesis p ∷ x
    ∷ sign s.CloseParenthesis p ∷ []

-- a token of the header of a loop with this variable
abbrev pub header_as : Lexeme → Lexeme → List Lexeme
header_as x t =
    if is_named (codes "from") t then sign s.Assign (position_of t) ∷ []
    else if is_sign s.CloseParenthesis t then onward x (position_of t) ++ t ∷ [] else t ∷ []

abbrev pub in_loop : Scope → Option Lexeme → Lexeme → List Lexeme
in_loop scope None t = t ∷ []
in_loop scope (Some x) t = if is_in_header scope then header_as x t else t ∷ []

-- the beginning of a call for `spaces`
abbrev pub spaces_begun : Position → List Lexeme
spaces_begun p = name (codes "x__spaces") p ∷ sign s.OpenParenthesis p ∷ []

-- `spaced`: the statement is `spaces`; `variable` is that of an `objectloop` with `from`
abbrev pub looped_as : FileNames → Reading → Bool → Option Lexeme → Lexeme → List Lexeme → List Lexeme
looped_as names r spaced variable t rest =
    if begins_spaces names r t rest then spaces_begun (position_of t)
    else if spaced && is_sign s.Semicolon t then sign s.CloseParenthesis (position_of t) ∷ t ∷ []
    else if is_found (variable_of r.scope t rest) then reserved w.For (position_of t) ∷ []
    else in_loop r.scope variable t

abbrev pub spaced_after : FileNames → Reading → Bool → Lexeme → List Lexeme → Bool
spaced_after names r spaced t rest = begins_spaces names r t rest || (spaced && not (is_sign s.Semicolon t))

abbrev pub looped_from : FileNames → Reading → Bool → Option Lexeme → List Lexeme → List Lexeme
looped_from names r spaced variable [] = []
looped_from names r spaced variable (t ∷ ts) =
    looped_as names r spaced variable t ts
    ++ looped_from names (reading_after r t) (spaced_after names r spaced t ts) (variable_after r.scope variable t ts) ts

abbrev pub looped : List Lexeme → List Lexeme
looped ts = looped_from (names_of ts) unread false None ts
