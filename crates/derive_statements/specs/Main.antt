-- `Main` with locals stands for a routine of its own, which `Main` calls.
use Rattle.std.specs.Prelude.{◌&&◌, Bool, true, false, List, [], ◌∷◌, if◌then◌else◌, codes}
use Rattle.syntax_lexer.specs.Token.{Lexeme, name, position_of}
use Rattle.derive_tokens.specs.Tokens.{is_named}
use Rattle.derive_values.specs.declared.places.Scope.{Scope}
use Rattle.derive_values.specs.declared.places.Scope.TheVariants as scopes
use Rattle.derive_tokens.specs.Names.{is_name}
use Rattle.derive_values.specs.Places.{scope_after}

-- the name in the header of `Main`
abbrev pub is_main : Scope → Lexeme → Bool
is_main scopes.Named t = is_named (codes "main") t
is_main _ t = false

abbrev pub is_local : Scope → Lexeme → Bool
is_local scopes.Locals t = is_name t
is_local _ t = false

-- whether the routine that is read is `Main`
abbrev pub in_main_after : Scope → Bool → Lexeme → Bool
in_main_after scopes.Named in_main t = is_named (codes "main") t
in_main_after _ in_main t = in_main

-- a local of `Main`
abbrev pub is_own_local : Scope → Bool → Lexeme → Bool
is_own_local scope in_main t = in_main && is_local scope t

abbrev pub has_locals_from : Scope → Bool → List Lexeme → Bool
has_locals_from scope in_main [] = false
has_locals_from scope in_main (t ∷ ts) =
    if is_own_local scope in_main t then true
    else has_locals_from (scope_after scope t) (in_main_after scope in_main t) ts

abbrev pub has_locals : List Lexeme → Bool
has_locals ts = has_locals_from scopes.Between false ts

abbrev pub renamed : Scope → Lexeme → Lexeme
renamed scope t = if is_main scope t then name (codes "x__Main") (position_of t) else t

abbrev pub renamed_from : Scope → List Lexeme → List Lexeme
renamed_from scope [] = []
renamed_from scope (t ∷ ts) = renamed scope t ∷ renamed_from (scope_after scope t) ts

abbrev pub main_apart : List Lexeme → List Lexeme
main_apart ts = if has_locals ts then renamed_from scopes.Between ts else ts
