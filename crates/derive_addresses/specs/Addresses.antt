-- Addresses of properties as values: `o.&p`, with no sign of an entry behind it, stands for `o.x__of1`. This is a property
-- that each object with p has beside it. Its value is a number for the words of p of this object, 40,960 + k as for the
-- k-th array that is a value, and 0 where an object has no p.
use Rattle.std.specs.Prelude.{◌+◌, ◌==◌, ◌&&◌, ℕ, Bool, true, false, not, List, [], ◌∷◌, ◌++◌, length}
use Rattle.std.specs.Prelude.{if◌then◌else◌, codes}
use Rattle.std.specs.Fmt.{decimal}
use Rattle.std.specs.List.{fold}
use Rattle.syntax_lexer.specs.declared.token.Position.{Position}
use Rattle.syntax_lexer.specs.declared.token.Sign.TheVariants as s
use Rattle.syntax_lexer.specs.declared.token.Word.TheVariants as w
use Rattle.syntax_lexer.specs.Token.{Lexeme, name, sign, head, tail, position_of}
use Rattle.derive_tokens.specs.Tokens.{is_sign, is_word, numbered}
use Rattle.derive_tokens.specs.Names.{is_among, is_name, name_of, number_in, place_in, small_name}
use Rattle.derive_tokens.specs.Names.{with_name, with_name_of}
use Rattle.derive_values.specs.declared.places.Scope.{Scope}
use Rattle.derive_values.specs.declared.places.Scope.TheVariants as scopes
use Rattle.derive_values.specs.Places.{scope_after}
use Rattle.derive_values.specs.Values.{with_room}
use Rattle.derive_entries.specs.Arrays.{arrays_of, is_arrow, most_places, number_at, places_of}
use Rattle.derive_entries.specs.Entries.{entered}
use Rattle.derive_addresses.specs.Made.{entries_made}

-- ---- the properties

-- before the rest of the file, the sign of an address that is a value
abbrev pub takes_address : Lexeme → List Lexeme → Bool
takes_address t rest =
    is_sign s.DotAmpersand t && (is_name (head rest) && not (is_arrow (head (tail rest))))

abbrev pub defined_after : List (List ℕ) → Lexeme → List Lexeme → List (List ℕ)
defined_after names t rest = if is_word w.Property t then with_name_of names (head rest) else names

abbrev pub defined_from : List (List ℕ) → List Lexeme → List (List ℕ)
defined_from names [] = names
defined_from names (t ∷ ts) = defined_from (defined_after names t ts) ts

-- all properties of a file: `name`, and those that it defines
abbrev pub defined_of : List Lexeme → List (List ℕ)
defined_of ts = defined_from (codes "name" ∷ []) ts

-- one more, if it is defined
abbrev pub with_property : List (List ℕ) → List (List ℕ) → Lexeme → List (List ℕ)
with_property defined properties t =
    if is_name t && is_among defined (small_name t) then with_name properties (small_name t) else properties

abbrev pub properties_after : List (List ℕ) → List (List ℕ) → Lexeme → List Lexeme → List (List ℕ)
properties_after defined properties t rest =
    if takes_address t rest then with_property defined properties (head rest) else properties

abbrev pub properties_from : List (List ℕ) → List (List ℕ) → List Lexeme → List (List ℕ)
properties_from defined properties [] = properties
properties_from defined properties (t ∷ ts) =
    properties_from defined (properties_after defined properties t ts) ts

-- the properties whose addresses are values, in the order of their first use
abbrev pub properties_of : List Lexeme → List (List ℕ)
properties_of ts = properties_from (defined_of ts) [] ts

-- an address is a value
abbrev pub takes_any : List Lexeme → Bool
takes_any [] = false
takes_any (t ∷ ts) = if takes_address t ts then true else takes_any ts

-- ---- their words in objects

-- An object's name is the first in its directive.
abbrev pub name_met : List ℕ → Lexeme → List ℕ
name_met object t = if length object == 0 then name_of t else object

abbrev pub object_after : Scope → List ℕ → Lexeme → List ℕ
object_after scopes.Between object t = []
object_after scopes.Head object t = name_met object t
object_after _ object t = object

abbrev pub begins_property : Scope → Bool
begins_property scopes.Property = true
begins_property _ = false

-- the name of such a property, before its words in an object
abbrev pub has_address : List (List ℕ) → Scope → Lexeme → Bool
has_address properties scope t = begins_property scope && (is_name t && is_among properties (small_name t))

-- the words of a property of an object, but for their sign and index
abbrev pub words_text : List ℕ → Lexeme → List ℕ
words_text object t = object ++ codes ".&" ++ name_of t

abbrev pub places_after : List (List ℕ) → Scope → List ℕ → Lexeme → List (List ℕ) → List (List ℕ)
places_after properties scope object t places =
    if has_address properties scope t then with_room most_places places (words_text object t) else places

abbrev pub places_from : List (List ℕ) → Scope → List ℕ → List (List ℕ) → List Lexeme → List (List ℕ)
places_from properties scope object places [] = places
places_from properties scope object places (t ∷ ts) =
    places_from properties (scope_after scope t) (object_after scope object t)
    (places_after properties scope object t places) ts

-- arrays that are values, and then the words of properties, in the order of the file
abbrev pub with_addresses : List (List ℕ) → List Lexeme → List (List ℕ)
with_addresses arrays ts =
    places_from (properties_of ts) scopes.Between [] (fold (with_room most_places) [] arrays) ts

-- ---- what a token stands for

-- the k-th property, counted from 1, has `x__of` k beside it
abbrev pub beside : List (List ℕ) → List ℕ → Position → Lexeme
beside properties property p = name (numbered (codes "x__of") (number_in properties property)) p

abbrev pub own_property : List (List ℕ) → Lexeme → Lexeme
own_property properties t = beside properties (small_name t) (position_of t)

abbrev pub with_address : List (List ℕ) → List (List ℕ) → List ℕ → Lexeme → List Lexeme
with_address properties places object t =
    own_property properties t ∷ number_at (place_in places (words_text object t)) t ∷ sign s.Comma (position_of t) ∷ t ∷ []

abbrev pub in_object : List (List ℕ) → List (List ℕ) → Scope → List ℕ → Lexeme → List Lexeme
in_object properties places scope object t =
    if has_address properties scope t then with_address properties places object t else t ∷ []

-- Behind the sign of an address, which becomes a dot, what is no property stays, and is refused.
abbrev pub named_property : List (List ℕ) → Lexeme → Lexeme
named_property properties t = if is_among properties (small_name t) then own_property properties t else t

-- behind the sign of an address, or not
abbrev pub addressed_as :
    List (List ℕ) → List (List ℕ) → Scope → List ℕ → Bool → Lexeme → List Lexeme → List Lexeme
addressed_as properties places scope object named t rest =
    if named then named_property properties t ∷ []
    else if takes_address t rest then sign s.Dot (position_of t) ∷ []
    else in_object properties places scope object t

abbrev pub addressed_from :
    List (List ℕ) → List (List ℕ) → Scope → List ℕ → Bool → List Lexeme → List Lexeme
addressed_from properties places scope object named [] = []
addressed_from properties places scope object named (t ∷ ts) =
    addressed_as properties places scope object named t ts
    ++ addressed_from properties places (scope_after scope t) (object_after scope object t) (takes_address t ts) ts

-- the tokens of a file with these properties and places
abbrev pub addressed : List (List ℕ) → List (List ℕ) → List Lexeme → List Lexeme
addressed properties places ts = addressed_from properties places scopes.Between [] false ts

-- ---- what is made

abbrev pub declared : ℕ → List ℕ
declared k = codes "property x__of" ++ decimal k ++ codes ";"

abbrev pub declared_from : ℕ → List (List ℕ) → List ℕ
declared_from k [] = []
declared_from k (n ∷ ns) = declared k ++ declared_from (k + 1) ns

-- the directives of so many properties
abbrev pub addresses_made : List (List ℕ) → List ℕ
addresses_made properties = declared_from 1 properties

-- ---- what operands stand for

-- arrays, those that are values, properties whose addresses are, and all places: the arrays and then the words of these
-- properties
pub record Placed : Type 0 where
  pub arrays : List (List ℕ)
  pub values : List (List ℕ)
  pub properties : List (List ℕ)
  pub places : List (List ℕ)

abbrev pub placed_in : List Lexeme → Placed
placed_in ts = record {
  arrays = arrays_of ts;
  values = places_of ts;
  properties = properties_of ts;
  places = with_addresses (places_of ts) ts;
}

abbrev pub settled_by : Placed → List Lexeme → List Lexeme
settled_by p ts = entered p.arrays p.values (addressed p.properties p.places ts)

-- the tokens of a file with numbers for arrays and for words of properties that are values, and calls for entries
abbrev pub settled : List Lexeme → List Lexeme
settled ts = settled_by (placed_in ts) ts

-- what is made for a file with these names
abbrev pub places_made : List (List ℕ) → Placed → List ℕ
places_made names p = entries_made names p.values p.places ++ addresses_made p.properties
