-- The names that a file defines.
use Rattle.std.specs.Prelude.{◌&&◌, ◌||◌, ℕ, Bool, true, false, not, List, [], ◌∷◌, if◌then◌else◌}
use Rattle.syntax_lexer.specs.Token.{Lexeme}
use Rattle.derive_values.specs.declared.places.Scope.{Scope}
use Rattle.derive_values.specs.declared.places.Scope.TheVariants as scopes
use Rattle.derive_tokens.specs.Names.{is_name, is_among, with_name_of}
use Rattle.derive_values.specs.Places.{routines_of, scope_after}

pub record FileNames : Type 0 where
  pub routines : List (List ℕ)
  pub others : List (List ℕ)  -- of directives that are no routines

-- in a directive that is no routine
abbrev pub is_in_directive : Scope → Bool
is_in_directive scopes.Between = false
is_in_directive scopes.Named = false
is_in_directive scopes.Locals = false
is_in_directive (scopes.Body place) = false
is_in_directive _ = true

-- A directive's name is the first in it; whether it was met.
abbrev pub is_met_after : Scope → Bool → Lexeme → Bool
is_met_after scope met t = is_in_directive scope && (met || is_name t)

abbrev pub others_after : Scope → Bool → Lexeme → List (List ℕ) → List (List ℕ)
others_after scope met t others = if is_in_directive scope && not met then with_name_of others t else others

abbrev pub others_from : List (List ℕ) → Scope → Bool → List Lexeme → List (List ℕ)
others_from others scope met [] = others
others_from others scope met (t ∷ ts) =
    others_from (others_after scope met t others) (scope_after scope t) (is_met_after scope met t) ts

abbrev pub names_of : List Lexeme → FileNames
names_of ts = record { routines = routines_of ts; others = others_from [] scopes.Between false ts }

-- a name, in small letters, that the file defines, or the routine that is read as a local
abbrev pub is_defined : FileNames → List (List ℕ) → List ℕ → Bool
is_defined names own n = is_among own n || (is_among names.routines n || is_among names.others n)
