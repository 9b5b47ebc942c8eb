-- Where a token stands: in which part of a directive, and where in the statements of a routine. Statements are read by
-- their first words and their brackets alone; a source that breaks the grammar is refused later, by the profile's parser.
use Rattle.std.specs.Prelude.{◌==◌, ◌&&◌, ◌||◌, ◌+◌, ◌-◌, ℕ, Bool, true, false, List, [], ◌∷◌, if◌then◌else◌, codes, nat_le}
use Rattle.syntax_lexer.specs.declared.token.Sign.TheVariants as s
use Rattle.syntax_lexer.specs.declared.token.Word.TheVariants as w
use Rattle.syntax_lexer.specs.Token.{Lexeme, text}
use Rattle.derive_tokens.specs.Tokens.{is_sign, is_word, is_named}
use Rattle.derive_values.specs.declared.places.Form.{Form}
use Rattle.derive_values.specs.declared.places.Form.TheVariants as forms
use Rattle.derive_values.specs.declared.places.Place.{Place}
use Rattle.derive_values.specs.declared.places.Place.TheVariants as places
use Rattle.derive_values.specs.declared.places.Scope.{Scope}
use Rattle.derive_values.specs.declared.places.Scope.TheVariants as scopes
use Rattle.derive_tokens.specs.Names.{with_name_of}

-- ---- in the statements of a routine

abbrev pub is_text : Lexeme → Bool
is_text (text b p) = true
is_text _ = false

abbrev pub begins_print : Lexeme → Bool
begins_print t = is_word w.Print t || is_word w.PrintRet t

-- the words with a bracket after them, and then a statement
abbrev pub begins_header : Lexeme → Bool
begins_header t =
    is_word w.If t || (is_word w.While t || (is_word w.For t || (is_word w.Objectloop t || (is_word w.Switch t
    || is_word w.Until t))))

-- a statement may begin after it, however many brackets are open
abbrev pub ends_statement : Lexeme → Bool
ends_statement t =
    is_sign s.Semicolon t || (is_sign s.OpenBrace t || (is_sign s.CloseBrace t || (is_word w.Else t || is_word w.Do t)))

-- after a closing bracket
abbrev pub closed : Form → ℕ → Place
closed forms.Header opened = if nat_le opened 1 then places.Statement else places.Within forms.Header (opened - 1)
closed form opened = places.Within form (opened - 1)

-- after a comma outside brackets
abbrev pub parted : Form → Place
parted forms.Printing = places.Item
parted form = places.Within form 0

abbrev pub place_within : Form → ℕ → Lexeme → Place
place_within form opened t =
    if ends_statement t || (is_sign s.Colon t && (opened == 0)) then places.Statement
    else if is_sign s.OpenParenthesis t then places.Within form (opened + 1)
    else if is_sign s.CloseParenthesis t then closed form opened
    else if is_sign s.Comma t && (opened == 0) then parted form
    else places.Within form opened

-- A text with which a statement begins is the first item of what it prints.
abbrev pub place_begun : Lexeme → Place
place_begun t =
    if begins_print t then places.Item
    else if is_text t then places.Within forms.Printing 0
    else if begins_header t then places.Within forms.Header 0
    else place_within forms.Plain 0 t

-- the place after a token
abbrev pub place_after : Place → Lexeme → Place
place_after places.Statement t = place_begun t
place_after places.Item t =
    if is_sign s.OpenParenthesis t then places.Rule else place_within forms.Printing 0 t
place_after places.Rule t = place_within forms.Printing 1 t
place_after (places.Within form opened) t = place_within form opened t

-- how many brackets are open in the statement
abbrev pub opened_in : Place → ℕ
opened_in places.Rule = 1
opened_in (places.Within form opened) = opened
opened_in _ = 0

-- ---- in a file

-- a statement or a directive begins
abbrev pub is_at_rest : Scope → Bool
is_at_rest scopes.Between = true
is_at_rest (scopes.Body places.Statement) = true
is_at_rest _ = false

abbrev pub gives_values : Lexeme → Bool
gives_values t =
    is_word w.Array t || (is_word w.Constant t || (is_word w.Global t || is_word w.Property t))

-- the end of a directive, or else
abbrev pub ended : Lexeme → Scope → Scope
ended t scope = if is_sign s.Semicolon t then scopes.Between else scope

-- the property of the words of an object
abbrev pub is_words : Lexeme → Bool
is_words t = is_named (codes "name") t

-- after a token in the values of a property, an array, a constant or a global
abbrev pub after_value : Scope → Lexeme → Scope
after_value scope t = ended t (if is_sign s.Comma t then scopes.Property else scope)

-- after a token in the header of a routine
abbrev pub after_header : Lexeme → Scope
after_header t = if is_sign s.Semicolon t then scopes.Body places.Statement else scopes.Locals

-- the scope after a token
abbrev pub scope_after : Scope → Lexeme → Scope
scope_after scopes.Between t =
    if is_sign s.OpenBracket t then scopes.Named else if is_word w.Object t then scopes.Head
    else if gives_values t then scopes.Worth else ended t scopes.Bare
scope_after scopes.Named t = after_header t
scope_after scopes.Locals t = after_header t
scope_after (scopes.Body place) t =
    if is_sign s.CloseBracket t then scopes.Bare else scopes.Body (place_after place t)
scope_after scopes.Head t =
    ended t (if is_sign s.Comma t || is_word w.With t then scopes.Property else scopes.Head)
scope_after scopes.Property t =
    ended t (if is_word w.With t then scopes.Property else if is_words t then scopes.Words else scopes.Worth)
scope_after scopes.Words t = after_value scopes.Words t
scope_after scopes.Worth t = after_value scopes.Worth t
scope_after scopes.Bare t = ended t scopes.Bare

-- a scope, without the place in the statements of a routine
abbrev pub outside : Scope → Scope
outside (scopes.Body place) = scopes.Body places.Statement
outside scope = scope

-- how many brackets are open in the statement of a scope
abbrev pub opened_within : Scope → ℕ
opened_within (scopes.Body place) = opened_in place
opened_within _ = 0

-- the scope, and the locals of the routine that is read: none in the directives behind it
pub record Reading : Type 0 where
  pub scope : Scope
  pub own : List (List ℕ)

abbrev pub own_after : Scope → Lexeme → List (List ℕ) → List (List ℕ)
own_after scopes.Between t own = []
own_after scopes.Named t own = []
own_after scopes.Locals t own = with_name_of own t
own_after _ t own = own

abbrev pub reading_after : Reading → Lexeme → Reading
reading_after r t = record { scope = scope_after r.scope t; own = own_after r.scope t r.own }

abbrev pub unread : Reading
unread = record { scope = scopes.Between; own = [] }

-- ---- the routines of a file

abbrev pub routines_after : Scope → Lexeme → List (List ℕ) → List (List ℕ)
routines_after scopes.Named t names = with_name_of names t
routines_after _ t names = names

abbrev pub routines_from : List (List ℕ) → Scope → List Lexeme → List (List ℕ)
routines_from names scope [] = names
routines_from names scope (t ∷ ts) = routines_from (routines_after scope t names) (scope_after scope t) ts

-- the names of all routines
abbrev pub routines_of : List Lexeme → List (List ℕ)
routines_of ts = routines_from [] scopes.Between ts
