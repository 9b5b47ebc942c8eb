-- Statements in which no entry is read.
use Rattle.std.specs.Prelude.{◌&&◌, ◌||◌, ◌==◌, ℕ, Bool, true, false, not, List, [], ◌∷◌, if◌then◌else◌}
use Rattle.std.specs.Prelude.{drop, length, take}
use Rattle.std.specs.List.{list_all}
use Rattle.std.specs.Char.{to_ascii_lowercase}
use Rattle.syntax_lexer.specs.declared.token.Sign.TheVariants as s
use Rattle.syntax_lexer.specs.Token.{Lexeme, head}
use Rattle.derive_tokens.specs.declared.piece.Piece.{Piece}
use Rattle.derive_tokens.specs.Pieces.{derived_all}
use Rattle.derive_tokens.specs.Tokens.{is_sign}
use Rattle.derive_tokens.specs.Names.{is_among, is_name, small_name}
use Rattle.derive_values.specs.declared.places.Scope.{Scope}
use Rattle.derive_values.specs.declared.places.Scope.TheVariants as scopes
use Rattle.derive_statements.specs.Lists.{deeper}
use Rattle.derive_entries.specs.Arrays.{Placing, is_arrow}
use Rattle.derive_entries.specs.Entries.{Entering, opened}

-- the signs with which a statement ends
abbrev pub ends_plain : Lexeme → Bool
ends_plain t =
    is_sign s.Semicolon t || (is_sign s.OpenBrace t || (is_sign s.CloseBrace t || is_sign s.CloseBracket t))

-- before the name of a property
abbrev pub is_dot : Lexeme → Bool
is_dot t = is_sign s.Dot t || (is_sign s.DotHash t || is_sign s.DotAmpersand t)

-- No entry comes up to the sign with which the statement ends. Its brackets are closed, of which so many are open, and no
-- dot is the last token.
abbrev pub quiet : ℕ → Bool → List Lexeme → Bool
quiet n dot [] = false
quiet n dot (t ∷ ts) =
    if ends_plain t then not dot && (n == 0)
    else if is_arrow t then false
    else quiet (deeper n t) (is_dot t) ts

-- between statements, and outside brackets
abbrev pub clear : Placing → Entering
clear p = record { placing = p; frame = opened; outer = [] }

-- ---- statements without names of arrays, in which no token stands for another

-- It has the length of an array's name, and begins with the same letter.
abbrev pub is_like : List ℕ → List ℕ → Bool
is_like (b ∷ bs) (c ∷ cs) = (length (b ∷ bs) == length (c ∷ cs)) && (to_ascii_lowercase b == c)
is_like _ _ = true

abbrev pub is_named_array : List (List ℕ) → Lexeme → Bool
is_named_array arrays t = is_name t && is_among arrays (small_name t)

-- neither the end of a statement nor the name of an array
abbrev pub is_apart : List (List ℕ) → Lexeme → Bool
is_apart arrays t = not (ends_plain t) && not (is_named_array arrays t)

-- From a scope on, the last token of a statement alone tells what is read behind it.
abbrev pub is_skipped : Scope → Lexeme → Lexeme → Bool
is_skipped (scopes.Body place) first last = true
is_skipped scopes.Named first last = false
is_skipped scopes.Locals first last = false
is_skipped scopes.Between first last = is_sign s.Semicolon last && not (is_sign s.OpenBracket first)
is_skipped _ first last = is_sign s.Semicolon last

-- So many tokens come before the end of the statement, none of them the name of an array.
abbrev pub is_bare : List (List ℕ) → Scope → ℕ → List Piece → Bool
is_bare arrays scope n pieces =
    list_all (is_apart arrays) (derived_all (take n pieces))
    && (ends_plain (head (derived_all (drop n pieces)))
    && is_skipped scope (head (derived_all pieces)) (head (derived_all (drop n pieces))))
