-- How many arguments `x__call` gives to each routine: as many as it has locals, and six at most.
use Rattle.std.specs.Prelude.{ℕ, min, List, [], ◌∷◌, length, if◌then◌else◌}
use Rattle.syntax_lexer.specs.declared.token.Sign.TheVariants as s
use Rattle.syntax_lexer.specs.Token.{Lexeme}
use Rattle.derive_tokens.specs.Tokens.{is_sign}
use Rattle.derive_constants.specs.Values.{Known, nothing_known, with_number}
use Rattle.derive_tokens.specs.Names.{small_name}
use Rattle.derive_values.specs.declared.places.Scope.{Scope}
use Rattle.derive_values.specs.declared.places.Scope.TheVariants as scopes
use Rattle.derive_values.specs.Places.{Reading, unread, reading_after}

abbrev pub most_arguments : ℕ
most_arguments = 6

-- the name of the routine that is read
abbrev pub routine_after : Scope → List ℕ → Lexeme → List ℕ
routine_after scopes.Named n t = small_name t
routine_after _ n t = n

abbrev pub arity : List (List ℕ) → ℕ
arity own = min most_arguments (length own)

-- the routine whose header ends with the token
abbrev pub arities_after : Scope → List ℕ → List (List ℕ) → Lexeme → Known → Known
arities_after scopes.Locals n own t arities =
    if is_sign s.Semicolon t then with_number arities n (arity own) else arities
arities_after _ n own t arities = arities

abbrev pub arities_from : Known → Reading → List ℕ → List Lexeme → Known
arities_from arities r n [] = arities
arities_from arities r n (t ∷ ts) =
    arities_from (arities_after r.scope n r.own t arities) (reading_after r t) (routine_after r.scope n t) ts

abbrev pub arities_of : List Lexeme → Known
arities_of ts = arities_from nothing_known unread [] ts
