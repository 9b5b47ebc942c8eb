-- The parts of an object or a class: what is behind `with` (or `private`), `has` and `class`, in any order, with or
-- without commas between them.
use Rattle.std.specs.Prelude.{◌==◌, ◌&&◌, ◌||◌, ℕ, nat_lt, Bool, true, false, not, List, [], ◌∷◌, ◌++◌, if◌then◌else◌}
use Rattle.std.specs.Prelude.{codes}
use Rattle.syntax_lexer.specs.declared.token.Sign.TheVariants as s
use Rattle.syntax_lexer.specs.declared.token.Word.TheVariants as w
use Rattle.syntax_lexer.specs.Token.{Lexeme, sign, position_of}
use Rattle.derive_tokens.specs.Tokens.{is_sign, is_word, is_named}
use Rattle.derive_tokens.specs.Names.{is_name}
use Rattle.derive_classes.specs.declared.parts.Mode.{Mode}
use Rattle.derive_classes.specs.declared.parts.Mode.TheVariants as modes
use Rattle.derive_classes.specs.declared.parts.Row.{Row}
use Rattle.derive_classes.specs.declared.parts.Row.TheVariants as rows

abbrev pub begins_properties : Lexeme → Bool
begins_properties t = is_word w.With t || is_named (codes "private") t

abbrev pub begins_classes : Lexeme → Bool
begins_classes t = is_named (codes "class") t

abbrev pub begins_part : Lexeme → Bool
begins_part t = begins_properties t || (is_word w.Has t || begins_classes t)

-- it stands between parts, or between properties
abbrev pub is_between : Lexeme → Bool
is_between t = begins_part t || is_sign s.Comma t

abbrev pub after_comma : Mode → Mode
after_comma modes.Naming = modes.Naming
after_comma modes.Values = modes.Naming
after_comma _ = modes.Outside

abbrev pub after_other : Mode → Mode
after_other modes.Naming = modes.Values
after_other mode = mode

-- in which part the token after this one stands
abbrev pub mode_after : Mode → Lexeme → Mode
mode_after mode t =
    if begins_properties t then modes.Naming
    else if is_word w.Has t then modes.Attributes
    else if begins_classes t then modes.Classes
    else if is_sign s.Comma t then after_comma mode
    else after_other mode

-- the properties, each behind a comma, with their values
abbrev pub in_properties : Mode → Lexeme → List Lexeme
in_properties modes.Naming t = sign s.Comma (position_of t) ∷ t ∷ []
in_properties modes.Values t = t ∷ []
in_properties _ t = []

-- the names of the properties; the attributes and the classes; the classes; or what fits into no part
abbrev pub is_taken : Row → Mode → Lexeme → Bool
is_taken rows.Names modes.Naming t = is_name t
is_taken rows.Given modes.Attributes t = true
is_taken rows.Given modes.Classes t = is_name t
is_taken rows.Mentions modes.Classes t = is_name t
is_taken rows.Unfit modes.Outside t = true
is_taken rows.Unfit modes.Classes t = not (is_name t)
is_taken _ _ t = false

-- what a row takes of a token
abbrev pub taken : Row → Mode → Lexeme → List Lexeme
taken rows.Properties mode t = in_properties mode t
taken row mode t = if is_taken row mode t then t ∷ [] else []

abbrev pub row_from : Row → Mode → List Lexeme → List Lexeme
row_from row mode [] = []
row_from row mode (t ∷ ts) =
    (if is_between t then [] else taken row mode t) ++ row_from row (mode_after mode t) ts

-- a row of what is behind the head of an object
abbrev pub row_of : Row → List Lexeme → List Lexeme
row_of row ts = row_from row modes.Outside ts

-- ---- parts of the profile: `with` at most once, then `has` at most once, which takes no attribute away

abbrev pub stage_after : ℕ → Lexeme → ℕ
stage_after stage t = if is_word w.With t then 1 else if is_word w.Has t then 2 else stage

abbrev pub fits_at : ℕ → Lexeme → Bool
fits_at stage t =
    if is_word w.With t then stage == 0
    else if is_word w.Has t then nat_lt stage 2
    else not (begins_part t || is_sign s.Tilde t)

abbrev pub is_plain_from : ℕ → List Lexeme → Bool
is_plain_from stage [] = true
is_plain_from stage (t ∷ ts) = if fits_at stage t then is_plain_from (stage_after stage t) ts else false

abbrev pub is_plain : List Lexeme → Bool
is_plain ts = is_plain_from 0 ts
