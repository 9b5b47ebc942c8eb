-- What an object gets of its classes. Its properties are a row: each behind a comma, with its values.
use Rattle.std.specs.Prelude.{◌&&◌, ◌||◌, ℕ, Bool, List, [], ◌∷◌, ◌++◌, reverse, if◌then◌else◌}
use Rattle.std.specs.Str.{bytes_eq}
use Rattle.syntax_lexer.specs.declared.token.Sign.TheVariants as s
use Rattle.syntax_lexer.specs.Token.{Lexeme, head, tail}
use Rattle.derive_tokens.specs.Tokens.{is_sign}
use Rattle.derive_tokens.specs.Names.{is_among, is_name, small_name, with_name_of}

-- ---- properties

-- the values that a row begins with
abbrev pub first_values : List Lexeme → List Lexeme
first_values [] = []
first_values (t ∷ ts) = if is_sign s.Comma t then [] else t ∷ first_values ts

-- the values of the property behind a comma, if it has this name, which is in small letters
abbrev pub named_values : List ℕ → Lexeme → List Lexeme → List Lexeme
named_values n t ts = if is_sign s.Comma t && bytes_eq n (small_name (head ts)) then first_values (tail ts) else []

-- all values of the properties of a name
abbrev pub values_of : List ℕ → List Lexeme → List Lexeme
values_of n [] = []
values_of n (t ∷ ts) = named_values n t ts ++ values_of n ts

-- the values of the property that these tokens begin with, and, if it is additive, of those of its name behind it
abbrev pub own_values : List (List ℕ) → List Lexeme → List Lexeme
own_values additive ts =
    first_values (tail ts)
    ++ (if is_among additive (small_name (head ts)) then values_of (small_name (head ts)) (tail ts) else [])

-- a property before these tokens, which begin with its name: the first of a name counts, and the values of additive ones
-- come one after another
abbrev pub property_at : List (List ℕ) → List (List ℕ) → Lexeme → List Lexeme → List Lexeme
property_at additive seen comma ts =
    if is_among seen (small_name (head ts)) then [] else comma ∷ head ts ∷ own_values additive ts

abbrev pub merged_from : List (List ℕ) → List (List ℕ) → List Lexeme → List Lexeme
merged_from additive seen [] = []
merged_from additive seen (t ∷ ts) =
    if is_sign s.Comma t then
    property_at additive seen t ts ++ merged_from additive (with_name_of seen (head ts)) ts
    else merged_from additive seen ts

abbrev pub merged : List (List ℕ) → List Lexeme → List Lexeme
merged additive ts = merged_from additive [] ts

-- ---- attributes

-- Of each attribute the last mention counts, so they are read from the last to the first: one that is mentioned later is
-- left out, and one that is taken away, with the `~` before it.
abbrev pub is_left_out : List (List ℕ) → Lexeme → List Lexeme → Bool
is_left_out later t before =
    is_sign s.Tilde t || (is_name t && (is_among later (small_name t) || is_sign s.Tilde (head before)))

abbrev pub attribute_at : List (List ℕ) → Lexeme → List Lexeme → List Lexeme
attribute_at later t before = if is_left_out later t before then [] else t ∷ []

abbrev pub settled_from : List (List ℕ) → List Lexeme → List Lexeme
settled_from later [] = []
settled_from later (t ∷ before) = attribute_at later t before ++ settled_from (with_name_of later t) before

abbrev pub settled : List Lexeme → List Lexeme
settled ts = reverse (settled_from [] (reverse ts))
