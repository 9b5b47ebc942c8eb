-- The pass: computed constants become numbers.
use Rattle.std.specs.Prelude.{◌+◌, ◌-◌, ◌==◌, ◌&&◌, ◌||◌, ℕ, Bool, true, nat_lt, List, [], ◌∷◌, ◌++◌, map, length}
use Rattle.std.specs.Prelude.{take, drop, Option, Some, None, if◌then◌else◌, codes}
use Rattle.std.specs.List.{flat_map}
use Rattle.syntax_lexer.specs.declared.token.Position.{Position}
use Rattle.syntax_lexer.specs.declared.token.Sign.TheVariants as s
use Rattle.syntax_lexer.specs.declared.token.Word.TheVariants as w
use Rattle.syntax_lexer.specs.Token.{Lexeme, name, number, text, reserved, sign, head, tail, position_of}
use Rattle.derive_tokens.specs.Tokens.{is_sign, is_word, is_named, name_in}
use Rattle.derive_tokens.specs.Names.{small}
use Rattle.derive_constants.specs.Values.{Known, nothing_known, with_number, value_in}
use Rattle.derive_constants.specs.Cutting.{directives}
use Rattle.derive_constants.specs.Entries.{entries, as_number}

-- the tokens that are one computed constant, or entries
abbrev pub one_or_entries : Option ℕ → Known → List Lexeme → List Lexeme
one_or_entries None known ts = entries known ts
one_or_entries (Some v) known ts = as_number ts (Some v)

-- a directive in parts: its word, its name, what is between that and what is computed, what is computed, and the `;`
pub record Parts : Type 0 where
  pub first : Lexeme
  pub named : Lexeme
  pub between : List Lexeme
  pub values : List Lexeme
  pub close : List Lexeme

-- tokens, and their last one apart
abbrev pub before_last : List Lexeme → List Lexeme
before_last ts = take (length ts - 1) ts

abbrev pub last_alone : List Lexeme → List Lexeme
last_alone ts = drop (length ts - 1) ts

abbrev pub parts : Lexeme → Lexeme → List Lexeme → List Lexeme → Parts
parts first n between ts =
    record { first = first; named = n; between = between; values = before_last ts; close = last_alone ts }

-- what a constant is: 0 where nothing is said
abbrev pub constant_value : Position → List Lexeme → List Lexeme
constant_value p [] = number 0 p ∷ []
constant_value p ts = ts

-- a constant gets its `=`
abbrev pub assigned : Lexeme → Lexeme → List Lexeme → Parts
assigned first n ts = record {
  first = first;
  named = n;
  between = sign s.Assign (position_of first) ∷ [];
  values = constant_value (position_of first) (before_last ts);
  close = last_alone ts;
}

abbrev pub constant_parts : Lexeme → Lexeme → List Lexeme → Parts
constant_parts first n [] = assigned first n []
constant_parts first n (t ∷ ts) =
    if is_sign s.Assign t then parts first n (t ∷ []) ts else assigned first n (t ∷ ts)

abbrev pub global_parts : Lexeme → Lexeme → List Lexeme → Option Parts
global_parts first n [] = None
global_parts first n (t ∷ ts) = if is_sign s.Assign t then Some (parts first n (t ∷ []) ts) else None

-- the byte of a text that a character of an array is (1.1 of the language): `^` is 13, and `~` a double quote
abbrev pub text_byte : ℕ → ℕ
text_byte b = if b == 94 then 13 else if b == 126 then 34 else b

abbrev pub characters : Position → List ℕ → List Lexeme
characters p bytes = map (λ b. number (text_byte b) p) bytes

-- an array of bytes whose entries are one text has its characters
abbrev pub array_values : Bool → List Lexeme → List Lexeme
array_values true (text bytes p ∷ []) = characters p bytes
array_values holds_bytes ts = ts

-- an array, after its kind
abbrev pub array_parts : Lexeme → Lexeme → List Lexeme → Option Parts
array_parts first n [] = None
array_parts first n (kind ∷ ts) = Some (record {
  first = first;
  named = n;
  between = kind ∷ [];
  values = array_values (is_sign s.Arrow kind || is_word w.String kind) (before_last ts);
  close = last_alone ts;
})

-- what is computed in a directive of a name: the value of a constant, a variable or a property, or what an array has
abbrev pub named_parts : Lexeme → Lexeme → List Lexeme → Option Parts
named_parts first n ts =
    if is_word w.Constant first then Some (constant_parts first n ts)
    else if is_word w.Global first then global_parts first n ts
    else if is_word w.Property first then Some (parts first n [] ts)
    else if is_word w.Array first then array_parts first n ts
    else None

abbrev pub computed : List Lexeme → Option Parts
computed (first ∷ name n q ∷ ts) = named_parts first (name n q) ts
computed _ = None

-- the directive of these parts
abbrev pub joined : Known → Parts → List Lexeme
joined known d =
    d.first ∷ d.named ∷ d.between ++ one_or_entries (value_in known d.values) known d.values ++ d.close

-- ---- buffers

-- a buffer of n bytes, its name, and where its directive and its kind stand
pub record Buffer : Type 0 where
  pub name_of : Lexeme
  pub size : ℕ
  pub at : Position
  pub kind_at : Position

abbrev pub sized : Lexeme → Position → Position → Option ℕ → Option Buffer
sized n p r None = None
sized n p r (Some size) =
    if nat_lt size 65534 then Some (record { name_of = n; size = size; at = p; kind_at = r }) else None

abbrev pub buffer_in : Known → List Lexeme → Option Buffer
buffer_in known (first ∷ name n q ∷ kind ∷ ts) =
    if is_word w.Array first && is_named (codes "buffer") kind
    then sized (name n q) (position_of first) (position_of kind) (value_in known (before_last ts))
    else None
buffer_in known _ = None

-- bytes, two more than its size
abbrev pub buffer_array : Buffer → List Lexeme → List Lexeme
buffer_array b close =
    reserved w.Array b.at ∷ b.name_of ∷ sign s.Arrow b.kind_at ∷ number (b.size + 2) b.kind_at ∷ close

-- its first word, where Main begins: `b-->0 = n;`
abbrev pub buffer_start : Position → Buffer → List Lexeme
buffer_start p b =
    b.name_of ∷ sign s.LongArrow p ∷ number 0 p ∷ sign s.Assign p ∷ number b.size p ∷ sign s.Semicolon p ∷ []

abbrev pub starts : List Buffer → Position → List Lexeme
starts buffers p = flat_map (buffer_start p) buffers

-- ---- directives

-- a name and its number, if it has one
abbrev pub named_number : Option (List ℕ) → Option ℕ → Option (List ℕ × ℕ)
named_number (Some n) (Some v) = Some (n, v)
named_number _ _ = None

-- the constant that a directive defines
abbrev pub constant_in : Known → Option Parts → Option (List ℕ × ℕ)
constant_in known None = None
constant_in known (Some d) =
    if is_word w.Constant d.first then named_number (name_in d.named) (value_in known d.values) else None

abbrev pub with_constant : Known → Option (List ℕ × ℕ) → Known
with_constant known None = known
with_constant known (Some c) = with_number known (small c.0) c.1

-- the constant is known after its directive
abbrev pub known_after : Known → List Lexeme → Known
known_after known d = with_constant known (constant_in known (computed d))

-- tokens with what begins Main after the first `;` of its routine
abbrev pub after_first_semicolon : (Position → List Lexeme) → List Lexeme → List Lexeme
after_first_semicolon begin [] = []
after_first_semicolon begin (t ∷ ts) =
    if is_sign s.Semicolon t then t ∷ begin (position_of t) ++ ts else t ∷ after_first_semicolon begin ts

-- a routine, none of whose values are computed
abbrev pub routine : (Position → List Lexeme) → List Lexeme → List Lexeme
routine begin d = if is_named (codes "Main") (head (tail d)) then after_first_semicolon begin d else d

-- another directive, whether or not it is a buffer, and whether or not it computes
abbrev pub other : Known → List Lexeme → Option Buffer → Option Parts → List Lexeme
other known d (Some b) _ = buffer_array b (last_alone d)
other known d None (Some p) = joined known p
other known d None None = entries known d

abbrev pub directive : (Position → List Lexeme) → Known → List Lexeme → List Lexeme
directive begin known d =
    if is_sign s.OpenBracket (head d) then routine begin d else other known d (buffer_in known d) (computed d)

abbrev pub program_from : (Position → List Lexeme) → Known → List (List Lexeme) → List Lexeme
program_from begin known [] = []
program_from begin known (d ∷ ds) = directive begin known d ++ program_from begin (known_after known d) ds

abbrev pub some_first : Option Buffer → List Buffer → List Buffer
some_first None buffers = buffers
some_first (Some b) buffers = b ∷ buffers

-- the buffers of a program
abbrev pub buffers_from : Known → List (List Lexeme) → List Buffer
buffers_from known [] = []
buffers_from known (d ∷ ds) = some_first (buffer_in known d) (buffers_from (known_after known d) ds)

-- the program that is derived
abbrev pub constants : List Lexeme → List Lexeme
constants ts = program_from (starts (buffers_from nothing_known (directives ts))) nothing_known (directives ts)
