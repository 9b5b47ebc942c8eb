-- Lists in statements: a text with which a list begins (`"You see ", x;`), and lists of actions (`x = 1, y = 2;`).
use Rattle.std.specs.Prelude.{◌==◌, ◌&&◌, ◌||◌, ◌+◌, ◌-◌, ℕ, Bool, true, false, not, List, [], ◌∷◌, ◌++◌, if◌then◌else◌}
use Rattle.std.specs.Prelude.{codes}
use Rattle.syntax_lexer.specs.declared.token.Sign.{Sign}
use Rattle.syntax_lexer.specs.declared.token.Sign.TheVariants as s
use Rattle.syntax_lexer.specs.declared.token.Word.TheVariants as w
use Rattle.syntax_lexer.specs.Token.{Lexeme, name, text, reserved, sign, end, head, position_of}
use Rattle.derive_tokens.specs.Tokens.{is_sign, is_word}
use Rattle.derive_values.specs.declared.places.Form.TheVariants as forms
use Rattle.derive_values.specs.declared.places.Place.TheVariants as places
use Rattle.derive_values.specs.declared.places.Scope.{Scope}
use Rattle.derive_values.specs.declared.places.Scope.TheVariants as scopes
use Rattle.derive_values.specs.Places.{is_text, scope_after}

-- ---- a list that is printed

abbrev pub at_statement : Scope → Bool
at_statement (scopes.Body places.Statement) = true
at_statement _ = false

abbrev pub begins_list : Scope → Lexeme → List Lexeme → Bool
begins_list scope t rest = at_statement scope && (is_text t && is_sign s.Comma (head rest))

-- `print_ret` before the text
abbrev pub introduction : Scope → Lexeme → List Lexeme → List Lexeme
introduction scope t rest = if begins_list scope t rest then reserved w.PrintRet (position_of t) ∷ [] else []

abbrev pub introduced_from : Scope → List Lexeme → List Lexeme
introduced_from scope [] = []
introduced_from scope (t ∷ ts) = introduction scope t ts ++ t ∷ introduced_from (scope_after scope t) ts

abbrev pub introduced : List Lexeme → List Lexeme
introduced ts = introduced_from scopes.Between ts

-- ---- a list of actions

abbrev pub deeper : ℕ → Lexeme → ℕ
deeper n t =
    if is_sign s.OpenParenthesis t then n + 1 else if is_sign s.CloseParenthesis t then n - 1 else n

-- the end of an action, in however many brackets
abbrev pub ends_statement : Lexeme → Bool
ends_statement (end p) = true
ends_statement t =
    is_sign s.Semicolon t || (is_sign s.OpenBrace t || (is_sign s.CloseBrace t || is_sign s.CloseBracket t))

-- the end of an action, where so many brackets are open
abbrev pub ends_action : ℕ → Lexeme → Bool
ends_action n t =
    ends_statement t || ((n == 0) && (is_sign s.Colon t || is_sign s.CloseParenthesis t))

-- whether a comma outside brackets was met, after a token
abbrev pub comma_after : Bool → ℕ → Lexeme → Bool
comma_after comma n t = comma || ((n == 0) && is_sign s.Comma t)

-- a list ends with this sign
abbrev pub ends_list : Sign → Bool → Lexeme → Bool
ends_list wanted comma t = comma && is_sign wanted t

-- The tokens up to the end of an action are a list, and this sign ends it: a comma was met, or is outside brackets.
abbrev pub is_listed_from : Sign → Bool → ℕ → List Lexeme → Bool
is_listed_from wanted comma n [] = false
is_listed_from wanted comma n (t ∷ ts) =
    if ends_action n t then ends_list wanted comma t
    else is_listed_from wanted (comma_after comma n t) (deeper n t) ts

-- the tokens before which so many brackets are open
abbrev pub is_listed : Sign → ℕ → List Lexeme → Bool
is_listed wanted n ts = is_listed_from wanted false n ts

-- the token may begin an action
abbrev pub begins_action : Lexeme → Bool
begins_action (reserved t p) =
    is_word w.Parent (reserved t p) || (is_word w.Child (reserved t p) || is_word w.Sibling (reserved t p))
begins_action (text b p) = false
begins_action (sign t p) =
    is_sign s.OpenParenthesis (sign t p)
    || (is_sign s.Increment (sign t p) || is_sign s.Decrement (sign t p))
begins_action _ = true

-- what is read: whether the statement is a `for`, and whether a list of actions is being read
pub record Listing : Type 0 where
  pub scope : Scope
  pub loop : Bool
  pub listed : Bool

-- outside the brackets of a statement; before those of its header, and in them
abbrev pub is_outside : Scope → Bool
is_outside (scopes.Body (places.Within forms.Plain n)) = n == 0
is_outside _ = false

abbrev pub is_before_header : Scope → Bool
is_before_header (scopes.Body (places.Within forms.Header n)) = n == 0
is_before_header _ = false

abbrev pub is_in_header : Scope → Bool
is_in_header (scopes.Body (places.Within forms.Header n)) = n == 1
is_in_header _ = false

-- a list of actions as a statement; as the first part of a `for`, or as its last
abbrev pub opens_block : Listing → Lexeme → List Lexeme → Bool
opens_block l t rest = at_statement l.scope && (begins_action t && is_listed s.Semicolon (deeper 0 t) rest)

abbrev pub opens_first : Listing → Lexeme → List Lexeme → Bool
opens_first l t rest =
    is_before_header l.scope && (is_sign s.OpenParenthesis t && is_listed s.Colon 0 rest)

abbrev pub opens_last : Listing → Lexeme → List Lexeme → Bool
opens_last l t rest =
    is_in_header l.scope && (is_sign s.Colon t && is_listed s.CloseParenthesis 0 rest)

abbrev pub opens_both : Listing → Lexeme → List Lexeme → Bool
opens_both l t rest = l.loop && (opens_first l t rest || opens_last l t rest)

-- the end of a list in a `for`
abbrev pub closes_both : Listing → Lexeme → Bool
closes_both l t =
    l.listed && (is_in_header l.scope && (is_sign s.Colon t || is_sign s.CloseParenthesis t))

-- what is before a token, and after it, in the header of a `for`
abbrev pub closing : Listing → Lexeme → List Lexeme
closing l t = if closes_both l t then sign s.CloseParenthesis (position_of t) ∷ [] else []

abbrev pub opening : Listing → Lexeme → List Lexeme → List Lexeme
opening l t rest =
    if opens_both l t rest
    then name (codes "x__both") (position_of t) ∷ sign s.OpenParenthesis (position_of t) ∷ []
    else []

-- A list is a block, and in a `for` the arguments of `x__both`.
abbrev pub listed_as : Listing → Lexeme → List Lexeme → List Lexeme
listed_as l t rest =
    if opens_block l t rest then sign s.OpenBrace (position_of t) ∷ t ∷ []
    else if l.listed && (is_outside l.scope && is_sign s.Comma t) then sign s.Semicolon (position_of t) ∷ []
    else if l.listed && is_sign s.Semicolon t then t ∷ sign s.CloseBrace (position_of t) ∷ []
    else closing l t ++ t ∷ opening l t rest

abbrev pub is_loop_after : Listing → Lexeme → Bool
is_loop_after l t = if at_statement l.scope then is_word w.For t else l.loop

abbrev pub is_listed_after : Listing → Lexeme → List Lexeme → Bool
is_listed_after l t rest =
    opens_block l t rest || (opens_both l t rest
    || (l.listed && not (closes_both l t || is_sign s.Semicolon t)))

abbrev pub listing_after : Listing → Lexeme → List Lexeme → Listing
listing_after l t rest = record {
  scope = scope_after l.scope t;
  loop = is_loop_after l t;
  listed = is_listed_after l t rest;
}

abbrev pub listed_from : Listing → List Lexeme → List Lexeme
listed_from l [] = []
listed_from l (t ∷ ts) = listed_as l t ts ++ listed_from (listing_after l t ts) ts

abbrev pub listed : List Lexeme → List Lexeme
listed ts = listed_from (record { scope = scopes.Between; loop = false; listed = false }) ts
