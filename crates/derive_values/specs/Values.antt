-- Texts and routines as values. The k-th text that is a value, counted from 0, is the number 49,152 + k, and the k-th
-- routine 57,344 + k; each text and each routine is counted once. The numbers follow from the source alone.
use Rattle.std.specs.Prelude.{◌==◌, ◌&&◌, ◌||◌, ◌+◌, ℕ, Bool, true, false, not, List, [], ◌∷◌, length, map}
use Rattle.std.specs.Prelude.{if◌then◌else◌, nat_lt, Result, Ok, Err, Option, Some, None}
use Rattle.syntax_lexer.specs.declared.fault.PlacedFault.{PlacedFault}
use Rattle.syntax_lexer.specs.declared.token.Position.{Position}
use Rattle.syntax_lexer.specs.declared.token.Sign.TheVariants as s
use Rattle.syntax_lexer.specs.declared.token.Word.TheVariants as w
use Rattle.syntax_lexer.specs.Bytes.{is_word_byte}
use Rattle.syntax_lexer.specs.FaultNumbers.{too_many, bad_text}
use Rattle.syntax_lexer.specs.Token.{Lexeme, name, number, text, dictionary_word, reserved, sign, end}
use Rattle.syntax_lexer.specs.Token.{head, tail, position_of}
use Rattle.derive_tokens.specs.Pieces.{quoted_byte}
use Rattle.derive_tokens.specs.Tokens.{Outcome, is_sign, is_word, refused}
use Rattle.derive_values.specs.declared.places.Place.{Place}
use Rattle.derive_values.specs.declared.places.Place.TheVariants as places
use Rattle.derive_values.specs.declared.places.Scope.{Scope}
use Rattle.derive_values.specs.declared.places.Scope.TheVariants as scopes
use Rattle.derive_values.specs.declared.uses.Use.{Use}
use Rattle.derive_values.specs.declared.uses.Use.TheVariants as uses
use Rattle.derive_tokens.specs.Names.{is_among, with_name, place_in, small_name}
use Rattle.derive_values.specs.Places.{Reading, unread, reading_after, routines_of}

-- ---- what a token is used for

-- A text is printed where a statement or an item that is printed begins; it is a short name in an object's head.
abbrev pub is_printed : Place → Bool
is_printed places.Statement = true
is_printed places.Item = true
is_printed _ = false

abbrev pub takes_text : Scope → Bool
takes_text (scopes.Body place) = not (is_printed place)
takes_text scopes.Worth = true
takes_text _ = false

abbrev pub takes_word : Scope → Bool
takes_word scopes.Words = true
takes_word _ = false

abbrev pub text_use : Scope → Use
text_use scope =
    if takes_text scope then uses.TextValue else if takes_word scope then uses.DictionaryValue else uses.Copied

abbrev pub is_operand_sign : Lexeme → Bool
is_operand_sign t =
    is_sign s.OpenParenthesis t || (is_sign s.Minus t || (is_sign s.Increment t || (is_sign s.Decrement t
    || (is_sign s.Tilde t || is_sign s.Not t))))

abbrev pub is_operand_word : Lexeme → Bool
is_operand_word t =
    is_word w.Parent t || (is_word w.Child t || (is_word w.Sibling t || (is_word w.True t || (is_word w.False t
    || is_word w.Nothing t))))

-- the token begins an operand
abbrev pub begins_operand : Lexeme → Bool
begins_operand (sign t p) = is_operand_sign (sign t p)
begins_operand (reserved t p) = is_operand_word (reserved t p)
begins_operand (end p) = false
begins_operand _ = true

-- A routine's name is called before a bracket, and is a print rule where `print (F) x` has it.
abbrev pub takes_routine : Scope → List Lexeme → Bool
takes_routine (scopes.Body places.Rule) rest =
    not (is_sign s.OpenParenthesis (head rest)
    || (is_sign s.CloseParenthesis (head rest) && begins_operand (head (tail rest))))
takes_routine (scopes.Body _) rest = not (is_sign s.OpenParenthesis (head rest))
takes_routine scopes.Worth rest = true
takes_routine _ rest = false

-- in a file with these routines; a local hides a routine with its name
abbrev pub name_use : List (List ℕ) → Reading → List ℕ → List Lexeme → Use
name_use routines r n rest =
    if takes_routine r.scope rest && (is_among routines n && not (is_among r.own n))
    then uses.RoutineValue else uses.Copied

-- before the rest of the file
abbrev pub use_of : List (List ℕ) → Reading → Lexeme → List Lexeme → Use
use_of routines r (text b p) rest = text_use r.scope
use_of routines r (name n p) rest = name_use routines r (small_name (name n p)) rest
use_of routines r t rest = uses.Copied

-- ---- which texts and which routines are values

abbrev pub first_text : ℕ
first_text = 49152

abbrev pub most_texts : ℕ
most_texts = 8192

abbrev pub first_routine : ℕ
first_routine = 57344

abbrev pub most_routines : ℕ
most_routines = 8000

pub record Numbers : Type 0 where
  pub texts : List (List ℕ)
  pub routines : List (List ℕ)

abbrev pub text_of : Lexeme → List ℕ
text_of (text b p) = b
text_of _ = []

-- a row at the end, if there is room and it is not there: what finds no room is refused
abbrev pub with_room : ℕ → List (List ℕ) → List ℕ → List (List ℕ)
with_room most rows row = if nat_lt (length rows) most then with_name rows row else rows

abbrev pub numbers_after : Numbers → Use → Lexeme → Numbers
numbers_after n uses.TextValue t =
    record { texts = with_room most_texts n.texts (text_of t); routines = n.routines }
numbers_after n uses.RoutineValue t =
    record { texts = n.texts; routines = with_room most_routines n.routines (small_name t) }
numbers_after n _ t = n

abbrev pub numbers_from : List (List ℕ) → Numbers → Reading → List Lexeme → Numbers
numbers_from routines n r [] = n
numbers_from routines n r (t ∷ ts) =
    numbers_from routines (numbers_after n (use_of routines r t ts) t) (reading_after r t) ts

-- the texts and the routines of a file that are values
abbrev pub numbers_of : List Lexeme → Numbers
numbers_of ts = numbers_from (routines_of ts) (record { texts = []; routines = [] }) unread ts

-- ---- their numbers

-- the number of the k-th of at most so many, from a first number on; each that is a value is there
abbrev pub number_from : ℕ → ℕ → Option ℕ → Position → Result Lexeme PlacedFault
number_from first most None p = Err (refused too_many p)
number_from first most (Some k) p = if nat_lt k most then Ok (number (first + k) p) else Err (refused too_many p)

-- ---- texts of `name` as words

-- The bytes may stand between the quotes of a dictionary word, before `//`: no two slashes are in a row, the first of which
-- may stand before them.
abbrev pub is_bad_byte : Bool → ℕ → Bool
is_bad_byte slash b = not (is_word_byte (quoted_byte b)) || (slash && (b == 47))

abbrev pub are_word_bytes : Bool → List ℕ → Bool
are_word_bytes slash [] = true
are_word_bytes slash (b ∷ bs) = if is_bad_byte slash b then false else are_word_bytes (b == 47) bs

abbrev pub is_word_text : List ℕ → Bool
is_word_text [] = false
is_word_text bytes = are_word_bytes false bytes

abbrev pub word_from : List ℕ → Position → Result Lexeme PlacedFault
word_from b p = if is_word_text b then Ok (dictionary_word (map quoted_byte b) p) else Err (refused bad_text p)

-- ---- the pass

abbrev pub value_of : Numbers → Use → Lexeme → Result Lexeme PlacedFault
value_of n uses.TextValue t = number_from first_text most_texts (place_in n.texts (text_of t)) (position_of t)
value_of n uses.RoutineValue t =
    number_from first_routine most_routines (place_in n.routines (small_name t)) (position_of t)
value_of n uses.DictionaryValue t = word_from (text_of t) (position_of t)
value_of n uses.Copied t = Ok t

abbrev pub put_first : Result Lexeme PlacedFault → Outcome → Outcome
put_first (Ok t) (Ok ts) = Ok (t ∷ ts)
put_first (Ok t) (Err fault) = Err fault
put_first (Err fault) others = Err fault

abbrev pub valued_from : List (List ℕ) → Numbers → Reading → List Lexeme → Outcome
valued_from routines n r [] = Ok []
valued_from routines n r (t ∷ ts) =
    put_first (value_of n (use_of routines r t ts) t) (valued_from routines n (reading_after r t) ts)

-- the tokens of a file, with numbers and words for values
abbrev pub valued : List Lexeme → Outcome
valued ts = valued_from (routines_of ts) (numbers_of ts) unread ts
