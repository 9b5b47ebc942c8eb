-- Names in small letters, and lists that have each once, in the order in which they come first.
use Rattle.std.specs.Prelude.{◌+◌, ℕ, nat_lt, Bool, true, false, List, [], ◌∷◌, ◌++◌, map, position, if◌then◌else◌}
use Rattle.std.specs.Prelude.{Option, Some, None}
use Rattle.std.specs.List.{list_all, list_any}
use Rattle.std.specs.Str.{bytes_eq}
use Rattle.std.specs.Char.{to_ascii_lowercase, is_ascii_uppercase}
use Rattle.syntax_lexer.specs.Token.{Lexeme, name}

abbrev pub is_name : Lexeme → Bool
is_name (name n p) = true
is_name _ = false

abbrev pub name_of : Lexeme → List ℕ
name_of (name n p) = n
name_of _ = []

abbrev pub small : List ℕ → List ℕ
small n = map to_ascii_lowercase n

-- no byte of a name is a capital
abbrev pub is_small : List ℕ → Bool
is_small [] = true
is_small (b ∷ bs) = if is_ascii_uppercase b then false else is_small bs

-- the name that a token is, in small letters: case is ignored
abbrev pub small_name : Lexeme → List ℕ
small_name t = small (name_of t)

abbrev pub is_among : List (List ℕ) → List ℕ → Bool
is_among names n = list_any (bytes_eq n) names

-- no byte of a name is a digit
abbrev pub are_letters : List ℕ → Bool
are_letters n = list_all (λ b. nat_lt 57 b) (small n)

-- in small letters or in capitals
abbrev pub has_name : List (List ℕ) → List ℕ → Bool
has_name names n = is_among names (small n)

-- a name at the end, if it is not there
abbrev pub with_name : List (List ℕ) → List ℕ → List (List ℕ)
with_name names n = if is_among names n then names else names ++ n ∷ []

abbrev pub with_name_of : List (List ℕ) → Lexeme → List (List ℕ)
with_name_of names t = if is_name t then with_name names (small_name t) else names

-- its place, counted from 0, if it is there
abbrev pub place_in : List (List ℕ) → List ℕ → Option ℕ
place_in names n = position (bytes_eq n) names

-- counted from 1; 0 if it is not there
abbrev pub number_at : Option ℕ → ℕ
number_at None = 0
number_at (Some k) = k + 1

abbrev pub number_in : List (List ℕ) → List ℕ → ℕ
number_in names n = number_at (place_in names n)
