-- What is read of a file for its arrays: where a token stands in the statements of a routine does not matter.
use Rattle.std.specs.Prelude.{◌&&◌, ℕ, Bool, not, List, if◌then◌else◌}
use Rattle.syntax_lexer.specs.declared.token.Sign.TheVariants as s
use Rattle.syntax_lexer.specs.Token.{Lexeme, head}
use Rattle.derive_tokens.specs.Tokens.{is_sign}
use Rattle.derive_tokens.specs.Names.{small_name, with_name_of}
use Rattle.derive_values.specs.declared.places.Scope.{Scope}
use Rattle.derive_values.specs.declared.places.Scope.TheVariants as scopes
use Rattle.derive_values.specs.Places.{Reading, own_after, scope_after}
use Rattle.derive_values.specs.Values.{with_room}
use Rattle.derive_entries.specs.declared.arrays.Keeping.{Keeping}
use Rattle.derive_entries.specs.Arrays.{Placing, is_arrow, is_none_kept, is_worth, keeping_after, most_places, takes_array}

-- the scope after a token, but for the place in statements
abbrev pub rough_after : Scope → Lexeme → Scope
rough_after (scopes.Body place) t = if is_sign s.CloseBracket t then scopes.Bare else scopes.Body place
rough_after scope t = scope_after scope t

-- an array more, if its word comes before the token
abbrev pub array_noted : List (List ℕ) → Scope → Bool → Lexeme → List (List ℕ)
array_noted arrays scope named t = if is_worth scope && named then with_name_of arrays t else arrays

abbrev pub placing : Reading → Keeping → Placing
placing r k = record { reading = r; keeping = k }

-- the same after a token, but for the place in statements
abbrev pub rough_placing : Placing → Lexeme → Placing
rough_placing p t = record {
  reading = record { scope = rough_after p.reading.scope t; own = own_after p.reading.scope t p.reading.own };
  keeping = keeping_after p.keeping t;
}

-- an array's name is a value before the rest of the file
abbrev pub takes_place : Scope → Keeping → List Lexeme → Bool
takes_place scope k rest = takes_array scope && (is_none_kept k && not (is_arrow (head rest)))

-- an array that is a value
abbrev pub placed : Bool → List (List ℕ) → Lexeme → List (List ℕ)
placed array places t = if array then with_room most_places places (small_name t) else places
