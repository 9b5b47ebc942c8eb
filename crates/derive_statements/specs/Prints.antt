-- Print rules. `print (string) t, (F) x, 5;` stands for `{ x__string(t); F(x); print 5; }`: a list with a rule of these is
-- cut into its items.
use Rattle.std.specs.Prelude.{◌==◌, ◌&&◌, ◌||◌, ◌-◌, ℕ, Bool, true, false, not, List, [], ◌∷◌, ◌++◌, if◌then◌else◌}
use Rattle.std.specs.Prelude.{codes, nat_lt, Option, Some, None, is_some}
use Rattle.std.specs.Str.{bytes_eq}
use Rattle.syntax_lexer.specs.declared.token.Position.{Position}
use Rattle.syntax_lexer.specs.declared.token.Sign.TheVariants as s
use Rattle.syntax_lexer.specs.declared.token.Word.TheVariants as w
use Rattle.syntax_lexer.specs.Token.{Lexeme, name, text, reserved, sign, head, position_of}
use Rattle.derive_tokens.specs.Tokens.{is_sign, is_word}
use Rattle.derive_values.specs.declared.places.Form.TheVariants as forms
use Rattle.derive_values.specs.declared.places.Place.{Place}
use Rattle.derive_values.specs.declared.places.Place.TheVariants as places
use Rattle.derive_values.specs.declared.places.Scope.{Scope}
use Rattle.derive_values.specs.declared.places.Scope.TheVariants as scopes
use Rattle.derive_tokens.specs.Names.{is_among, has_name, small_name}
use Rattle.derive_values.specs.Places.{Reading, begins_print, place_after, unread, reading_after, routines_of}
use Rattle.derive_values.specs.Values.{begins_operand}
use Rattle.derive_statements.specs.Lists.{at_statement}

-- a call of a routine; or an article, if there is one, and the short name
pub data Rule : Type 0 where
  call : Lexeme → Rule
  article : List ℕ → Position → Rule

abbrev pub article_of : List ℕ → Position → List Lexeme
article_of [] p = []
article_of bytes p = text bytes p ∷ sign s.Comma p ∷ []

-- what is before and after the expression of a rule
abbrev pub opening_of : Rule → List Lexeme
opening_of (call t) = t ∷ sign s.OpenParenthesis (position_of t) ∷ []
opening_of (article bytes p) =
    reserved w.Print p ∷ article_of bytes p
    ++ sign s.OpenParenthesis p ∷ reserved w.Object p ∷ sign s.CloseParenthesis p ∷ []

abbrev pub closing_of : Rule → List Lexeme
closing_of (call t) = sign s.CloseParenthesis (position_of t) ∷ sign s.Semicolon (position_of t) ∷ []
closing_of (article bytes p) = sign s.Semicolon p ∷ []

-- the rule of a routine if the source has it, or else of an article
abbrev pub either : List (List ℕ) → Position → List ℕ → List ℕ → Option Rule
either routines p routine bytes =
    Some (if has_name routines routine then call (name routine p) else article bytes p)

-- a rule that Inform has, in whose name capitals count
abbrev pub known_rule : List (List ℕ) → Position → List ℕ → Option Rule
known_rule routines p n =
    if bytes_eq n (codes "the") then either routines p (codes "DefArt") (codes "the ")
    else if bytes_eq n (codes "The") then either routines p (codes "CDefArt") (codes "The ")
    else if bytes_eq n (codes "a") || bytes_eq n (codes "an") then either routines p (codes "IndefArt") (codes "a ")
    else if bytes_eq n (codes "A") || bytes_eq n (codes "An") then either routines p (codes "CInDefArt") (codes "A ")
    else if bytes_eq n (codes "name") then either routines p (codes "PrintShortName") []
    else if bytes_eq n (codes "address") then Some (call (name (codes "x__address") p))
    else None

-- the rule of the token between the brackets; a routine of the source is one
abbrev pub rule_of : List (List ℕ) → Reading → Lexeme → Option Rule
rule_of routines r (reserved t p) =
    if is_word w.String (reserved t p) then Some (call (name (codes "x__string") p)) else None
rule_of routines r (name n p) =
    if is_among routines (small_name (name n p)) && not (is_among r.own (small_name (name n p)))
    then Some (call (name n p)) else known_rule routines p n
rule_of routines r t = None

-- after the opening bracket, with an operand after the other one
abbrev pub rule_in : List (List ℕ) → Reading → List Lexeme → Option Rule
rule_in routines r (t ∷ bracket ∷ ts) =
    if is_sign s.CloseParenthesis bracket && begins_operand (head ts) then rule_of routines r t else None
rule_in routines r _ = None

abbrev pub rule_at : List (List ℕ) → Reading → Lexeme → List Lexeme → Option Rule
rule_at routines r t rest = if is_sign s.OpenParenthesis t then rule_in routines r rest else None

-- ---- which lists are cut

abbrev pub is_item : Place → Bool
is_item places.Item = true
is_item _ = false

abbrev pub is_ended : Place → Bool
is_ended places.Statement = true
is_ended _ = false

-- an item that is a rule begins
abbrev pub begins_rule : List (List ℕ) → Reading → Place → Lexeme → List Lexeme → Bool
begins_rule routines r place t rest = is_item place && is_some (rule_at routines r t rest)

-- an item up to the end of the statement is a rule
abbrev pub has_rule_from : List (List ℕ) → Reading → Place → List Lexeme → Bool
has_rule_from routines r place [] = false
has_rule_from routines r place (t ∷ ts) =
    if is_ended place then false
    else if begins_rule routines r place t ts then true
    else has_rule_from routines r (place_after place t) ts

-- ---- the pass

pub data Cut : Type 0 where
  whole : Cut  -- in no list that is cut
  apart : Cut  -- in an item that is no rule
  ruled : Rule → Cut  -- in one of a rule

-- what is read: the item, whether the list is of a `print_ret`, and how many tokens of a rule's brackets are to be passed
pub record Printing : Type 0 where
  pub cut : Cut
  pub returns : Bool
  pub passed : ℕ

abbrev pub is_whole : Cut → Bool
is_whole whole = true
is_whole _ = false

-- a list that is to be cut begins after the token
abbrev pub begins_cut : List (List ℕ) → Reading → Lexeme → List Lexeme → Bool
begins_cut routines r t rest =
    at_statement r.scope && (begins_print t && has_rule_from routines r places.Item rest)

abbrev pub is_at_item : Scope → Bool
is_at_item (scopes.Body place) = is_item place
is_at_item _ = false

abbrev pub is_at_comma : Scope → Lexeme → Bool
is_at_comma (scopes.Body (places.Within forms.Printing n)) t = (n == 0) && is_sign s.Comma t
is_at_comma _ t = false

-- the end of an item
abbrev pub item_end : Cut → Position → List Lexeme
item_end (ruled rule) p = closing_of rule
item_end _ p = sign s.Semicolon p ∷ []

abbrev pub list_end : Bool → Position → List Lexeme
list_end true p =
    reserved w.NewLine p ∷ sign s.Semicolon p ∷ reserved w.Rtrue p ∷ sign s.Semicolon p ∷ sign s.CloseBrace p ∷ []
list_end false p = sign s.CloseBrace p ∷ []

-- at the first token of an item
abbrev pub item_begun : Option Rule → Lexeme → List Lexeme
item_begun None t = reserved w.Print (position_of t) ∷ t ∷ []
item_begun (Some rule) t = opening_of rule

abbrev pub cut_begun : Option Rule → Cut
cut_begun None = apart
cut_begun (Some rule) = ruled rule

-- the rule with which an item begins at the token
abbrev pub item_rule : List (List ℕ) → Reading → Lexeme → List Lexeme → Option Rule
item_rule routines r t rest = if is_at_item r.scope then rule_at routines r t rest else None

-- what a token of a list that is cut stands for
abbrev pub item_token : Scope → Printing → Option Rule → Lexeme → List Lexeme
item_token scope q rule t =
    if nat_lt 0 q.passed then []
    else if is_at_item scope then item_begun rule t
    else if is_at_comma scope t then item_end q.cut (position_of t)
    else if is_sign s.Semicolon t then item_end q.cut (position_of t) ++ list_end q.returns (position_of t)
    else t ∷ []

abbrev pub whole_as : Bool → Lexeme → List Lexeme
whole_as begins t = if begins then sign s.OpenBrace (position_of t) ∷ [] else t ∷ []

abbrev pub printed_as : List (List ℕ) → Reading → Printing → Lexeme → List Lexeme → List Lexeme
printed_as routines r q t rest =
    if is_whole q.cut then whole_as (begins_cut routines r t rest) t
    else item_token r.scope q (item_rule routines r t rest) t

-- after a token of a list that is cut
abbrev pub cut_moved : Scope → Cut → Option Rule → Lexeme → Cut
cut_moved scope cut rule t =
    if is_at_item scope then cut_begun rule else if is_sign s.Semicolon t then whole else cut

abbrev pub cut_after : List (List ℕ) → Reading → Cut → Lexeme → List Lexeme → Cut
cut_after routines r cut t rest =
    if is_whole cut then (if begins_cut routines r t rest then apart else whole)
    else cut_moved r.scope cut (item_rule routines r t rest) t

abbrev pub passed_after : Printing → Option Rule → ℕ
passed_after q rule = if not (is_whole q.cut) && is_some rule then 2 else q.passed - 1

abbrev pub returns_after : Scope → Bool → Lexeme → Bool
returns_after scope returns t = if at_statement scope then is_word w.PrintRet t else returns

abbrev pub printing_after : List (List ℕ) → Reading → Printing → Lexeme → List Lexeme → Printing
printing_after routines r q t rest = record {
  cut = cut_after routines r q.cut t rest;
  returns = returns_after r.scope q.returns t;
  passed = passed_after q (item_rule routines r t rest);
}

abbrev pub printed_from : List (List ℕ) → Reading → Printing → List Lexeme → List Lexeme
printed_from routines r q [] = []
printed_from routines r q (t ∷ ts) =
    printed_as routines r q t ts
    ++ printed_from routines (reading_after r t) (printing_after routines r q t ts) ts

abbrev pub printed : List Lexeme → List Lexeme
printed ts = printed_from (routines_of ts) unread (record { cut = whole; returns = false; passed = 0 }) ts
