-- What a token is to the primaries of a statement.
use Rattle.std.specs.Prelude.{◌&&◌, ◌||◌, ℕ, Bool, true, false, not, List, [], ◌∷◌, if◌then◌else◌, codes, nat_eq}
use Rattle.std.specs.Prelude.{Option, Some, None, is_some}
use Rattle.std.specs.List.{starts_with}
use Rattle.std.specs.Str.{bytes_eq}
use Rattle.syntax_lexer.specs.declared.token.Sign.TheVariants as s
use Rattle.syntax_lexer.specs.declared.token.Word.TheVariants as w
use Rattle.syntax_lexer.specs.Token.{Lexeme, head}
use Rattle.derive_tokens.specs.Tokens.{is_sign, is_word, own_prefix}
use Rattle.derive_values.specs.declared.places.Place.TheVariants as places
use Rattle.derive_values.specs.declared.places.Scope.{Scope}
use Rattle.derive_values.specs.declared.places.Scope.TheVariants as scopes
use Rattle.derive_tokens.specs.Names.{is_among, is_name, small_name}
use Rattle.derive_values.specs.Places.{Reading, unread, reading_after}
use Rattle.derive_statements.specs.FileNames.{FileNames, is_defined}
use Rattle.derive_statements.specs.Lists.{is_before_header}
use Rattle.derive_expressions.specs.declared.roles.Role.{Role}
use Rattle.derive_expressions.specs.declared.roles.Role.TheVariants as roles

-- functions that are no routines of a source, each with the routine that is made for it
pub record Function : Type 0 where
  pub function : List ℕ
  pub routine : List ℕ

abbrev pub functions : List Function
functions =
    record { function = codes "random"; routine = codes "x__random" }
    ∷ record { function = codes "indirect"; routine = codes "x__call" }
    ∷ record { function = codes "children"; routine = codes "x__children" }
    ∷ record { function = codes "youngest"; routine = codes "x__youngest" }
    ∷ record { function = codes "eldest"; routine = codes "x__eldest" }
    ∷ record { function = codes "younger"; routine = codes "x__younger" }
    ∷ record { function = codes "elder"; routine = codes "x__elder" }
    ∷ []

abbrev pub routine_in : List Function → List ℕ → Option (List ℕ)
routine_in [] n = None
routine_in (f ∷ fs) n = if bytes_eq n f.function then Some f.routine else routine_in fs n

-- a name, in small letters, that only passes make
abbrev pub is_own_name : List ℕ → Bool
is_own_name n = starts_with nat_eq n own_prefix

-- the routine that is made for a function, in small letters, which the source does not define as something else
abbrev pub routine_of : FileNames → Reading → List ℕ → Option (List ℕ)
routine_of names r n = if is_defined names r.own n then None else routine_in functions n

-- the name is called plainly: it is a routine, or a function
abbrev pub is_called : FileNames → Reading → List ℕ → Bool
is_called names r n =
    is_own_name n || (is_some (routine_of names r n) || (is_among names.routines n && not (is_among r.own n)))

-- the names of the tree of objects, which are called too
abbrev pub is_kin : Lexeme → Bool
is_kin t = is_word w.Parent t || (is_word w.Child t || is_word w.Sibling t)

-- a name that is called plainly, before its bracket
abbrev pub is_named_callee : FileNames → Reading → Lexeme → List Lexeme → Bool
is_named_callee names r t rest = is_sign s.OpenParenthesis (head rest) && is_called names r (small_name t)

-- the token begins a primary, with the bracket of a call directly after it
abbrev pub is_callee : FileNames → Reading → Lexeme → List Lexeme → Bool
is_callee names r t rest = if is_name t then is_named_callee names r t rest else is_kin t

-- `char` or `object`, with which a rule is written in brackets
abbrev pub is_cast : List Lexeme → Bool
is_cast rest = is_word w.Char (head rest) || is_word w.Object (head rest)

-- the role of what follows a sign
abbrev pub role_signed : Lexeme → List Lexeme → Role
role_signed t rest =
    if is_sign s.CloseParenthesis t then roles.Follows
    else if is_sign s.Dot t || (is_sign s.DotAmpersand t || is_sign s.DotHash t) then roles.Dotted
    else if is_sign s.OpenParenthesis t && is_cast rest then roles.Cast
    else roles.Operand

-- the role of what follows a token
abbrev pub role_on : FileNames → Reading → Lexeme → List Lexeme → Role
role_on names r t rest =
    if is_callee names r t rest then roles.Callee
    else if is_name t then roles.Follows
    else role_signed t rest

-- the name of a property to which a message is sent
abbrev pub is_sent : Lexeme → List Lexeme → Bool
is_sent t rest = is_name t && is_sign s.OpenParenthesis (head rest)

abbrev pub role_after : FileNames → Reading → Role → Lexeme → List Lexeme → Role
role_after names r roles.Cast t rest = roles.CastEnd
role_after names r roles.CastEnd t rest = roles.Operand
role_after names r roles.Dotted t rest = if is_sent t rest then roles.Sent else roles.Follows
role_after names r role t rest = role_on names r t rest

-- a statement or an item begins
abbrev pub begins_part : Scope → Bool
begins_part (scopes.Body places.Statement) = true
begins_part (scopes.Body places.Item) = true
begins_part _ = false

-- Where a statement or an item begins, and in the bracket of `if` and kin, no primary is before.
abbrev pub role_in : Scope → Role → Role
role_in scope role =
    if begins_part scope then roles.Operand else if is_before_header scope then roles.Callee else role

abbrev pub is_in_body : Scope → Bool
is_in_body (scopes.Body place) = true
is_in_body _ = false

-- what is read, and the role of the token that comes next, if it is in a statement
pub record Calling : Type 0 where
  pub reading : Reading
  pub role : Role

abbrev pub role_now : Calling → Role
role_now c = role_in c.reading.scope c.role

abbrev pub next_role : FileNames → Calling → Lexeme → List Lexeme → Role
next_role names c t rest =
    if is_in_body c.reading.scope then role_after names c.reading (role_now c) t rest else roles.Operand

abbrev pub calling_after : FileNames → Calling → Lexeme → List Lexeme → Calling
calling_after names c t rest =
    record { reading = reading_after c.reading t; role = next_role names c t rest }

abbrev pub uncalled : Calling
uncalled = record { reading = unread; role = roles.Operand }
