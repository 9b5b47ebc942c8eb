-- Arrays as values. The k-th array that is a value, counted from 0, is the number 40,960 + k; each array is counted once.
-- An array is a value where no sign of an entry is behind its name.
use Rattle.std.specs.Prelude.{◌&&◌, ◌||◌, ◌+◌, ℕ, Bool, true, false, not, List, [], ◌∷◌, if◌then◌else◌, nat_lt}
use Rattle.std.specs.Prelude.{Option, Some, None}
use Rattle.syntax_lexer.specs.declared.token.Sign.TheVariants as s
use Rattle.syntax_lexer.specs.declared.token.Word.TheVariants as w
use Rattle.syntax_lexer.specs.Token.{Lexeme, number, head, position_of}
use Rattle.derive_tokens.specs.Tokens.{is_sign, is_word}
use Rattle.derive_tokens.specs.Names.{is_among, is_name, place_in, small_name, with_name_of}
use Rattle.derive_values.specs.declared.places.Scope.{Scope}
use Rattle.derive_values.specs.declared.places.Scope.TheVariants as scopes
use Rattle.derive_entries.specs.declared.arrays.Keeping.{Keeping}
use Rattle.derive_entries.specs.declared.arrays.Keeping.TheVariants as keeps
use Rattle.derive_values.specs.Places.{Reading, unread, reading_after}
use Rattle.derive_values.specs.Values.{with_room}

abbrev pub is_arrow : Lexeme → Bool
is_arrow t = is_sign s.Arrow t || is_sign s.LongArrow t

-- ---- names that stay

-- the words of definitions in which a name stays that is also an array's: it is defined twice
abbrev pub defines_other : Lexeme → Bool
defines_other t = is_word w.Constant t || (is_word w.Global t || is_word w.Property t)

-- after `read` all names stay, until something else comes
abbrev pub names_kept : Keeping → Lexeme → Keeping
names_kept keeps.Read t = if is_name t then keeps.Read else keeps.Nothing
names_kept _ t = keeps.Nothing

abbrev pub keeping_after : Keeping → Lexeme → Keeping
keeping_after k t =
    if is_word w.Array t then keeps.Array
    else if is_word w.Read t then keeps.Read
    else if defines_other t then keeps.Other
    else names_kept k t

abbrev pub is_array_kept : Keeping → Bool
is_array_kept keeps.Array = true
is_array_kept _ = false

abbrev pub is_none_kept : Keeping → Bool
is_none_kept keeps.Nothing = true
is_none_kept _ = false

-- what is read, and which names that come next stay
pub record Placing : Type 0 where
  pub reading : Reading
  pub keeping : Keeping

abbrev pub placing_after : Placing → Lexeme → Placing
placing_after p t = record { reading = reading_after p.reading t; keeping = keeping_after p.keeping t }

abbrev pub unplaced : Placing
unplaced = record { reading = unread; keeping = keeps.Nothing }

-- ---- the arrays of a file

abbrev pub is_worth : Scope → Bool
is_worth scopes.Worth = true
is_worth _ = false

abbrev pub arrays_after : List (List ℕ) → Placing → Lexeme → List (List ℕ)
arrays_after arrays p t =
    if is_worth p.reading.scope && is_array_kept p.keeping then with_name_of arrays t else arrays

abbrev pub arrays_from : List (List ℕ) → Placing → List Lexeme → List (List ℕ)
arrays_from arrays p [] = arrays
arrays_from arrays p (t ∷ ts) = arrays_from (arrays_after arrays p t) (placing_after p t) ts

abbrev pub arrays_of : List Lexeme → List (List ℕ)
arrays_of ts = arrays_from [] unplaced ts

-- ---- those that are values

-- A local hides an array with its name.
abbrev pub is_hidden : Reading → List ℕ → Bool
is_hidden r n = not (is_worth r.scope) && is_among r.own n

-- the name, in small letters, of an array
abbrev pub is_array : List (List ℕ) → Reading → Lexeme → Bool
is_array arrays r t = is_name t && (is_among arrays (small_name t) && not (is_hidden r (small_name t)))

-- an array's name is a value there
abbrev pub takes_array : Scope → Bool
takes_array (scopes.Body place) = true
takes_array scopes.Worth = true
takes_array _ = false

-- before the rest of the file, if it is an array's name
abbrev pub is_value : Bool → Placing → List Lexeme → Bool
is_value array p rest =
    array && (takes_array p.reading.scope && (is_none_kept p.keeping && not (is_arrow (head rest))))

abbrev pub first_place : ℕ
first_place = 40960

abbrev pub most_places : ℕ
most_places = 8192

abbrev pub places_after : List (List ℕ) → List (List ℕ) → Placing → Lexeme → List Lexeme → List (List ℕ)
places_after arrays places p t rest =
    if is_value (is_array arrays p.reading t) p rest then with_room most_places places (small_name t) else places

abbrev pub places_from : List (List ℕ) → List (List ℕ) → Placing → List Lexeme → List (List ℕ)
places_from arrays places p [] = places
places_from arrays places p (t ∷ ts) =
    places_from arrays (places_after arrays places p t ts) (placing_after p t) ts

-- the arrays of a file that are values, in small letters
abbrev pub places_of : List Lexeme → List (List ℕ)
places_of ts = places_from (arrays_of ts) [] unplaced ts

-- ---- what a name stands for

-- What finds no room stays a name.
abbrev pub number_at : Option ℕ → Lexeme → Lexeme
number_at None t = t
number_at (Some k) t = if nat_lt k most_places then number (first_place + k) (position_of t) else t

-- an array's name or not
abbrev pub valued_as : Bool → List (List ℕ) → Placing → Lexeme → List Lexeme → Lexeme
valued_as array places p t rest =
    if is_value array p rest then number_at (place_in places (small_name t)) t else t
