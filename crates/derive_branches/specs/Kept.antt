-- Tokens that are kept, and what they define. `Default NAME value;` is a constant where the name is not defined yet; and
-- `Release`, `Serial`, `Statusline` and `Switches` are nothing.
use Rattle.std.specs.Prelude.{◌||◌, ◌&&◌, ℕ, Bool, true, false, not, List, [], ◌∷◌, ◌++◌, codes}
use Rattle.std.specs.Prelude.{Option, Some, None, if◌then◌else◌}
use Rattle.syntax_lexer.specs.declared.token.Sign.TheVariants as s
use Rattle.syntax_lexer.specs.declared.token.Word.TheVariants as w
use Rattle.syntax_lexer.specs.Token.{Lexeme, name, reserved, sign, position_of}
use Rattle.derive_tokens.specs.Tokens.{is_sign, is_word, is_named, name_in}
use Rattle.derive_tokens.specs.Names.{small, has_name, with_name}
use Rattle.derive_constants.specs.Values.{Known, nothing_known, with_number, value_in}
use Rattle.derive_constants.specs.Constants.{before_last}

pub record Kept : Type 0 where
  -- the directives that are whole
  pub whole : List Lexeme
  -- the tokens of the one that has begun, and whether the next token is in a routine
  pub begun : List Lexeme
  pub in_routine : Bool
  -- the names and the constants that are defined by what is whole
  pub names : List (List ℕ)
  pub known : Known

-- names that no source defines
abbrev pub first_names : List (List ℕ)
first_names =
    with_name (with_name (with_name (with_name [] (codes "target_zcode")) (codes "wordsize")) (codes "name"))
    (codes "self")

abbrev pub nothing_kept : Kept
nothing_kept = record { whole = []; begun = []; in_routine = false; names = first_names; known = nothing_known }

-- the name that stands first, after arrows
abbrev pub first_name : List Lexeme → Option (List ℕ)
first_name [] = None
first_name (t ∷ ts) = if is_sign s.Arrow t then first_name ts else name_in t

-- the name that a directive defines
abbrev pub name_defined : List Lexeme → Option (List ℕ)
name_defined [] = None
name_defined (first ∷ []) = None
name_defined (first ∷ t ∷ ts) =
    if is_word w.Property first && is_named (codes "additive") t then first_name ts else first_name (t ∷ ts)

abbrev pub is_defined : Kept → List ℕ → Bool
is_defined k n = has_name k.names n

abbrev pub with_defined : List (List ℕ) → Option (List ℕ) → List (List ℕ)
with_defined names None = names
with_defined names (Some n) = with_name names (small n)

abbrev pub is_dropped : Lexeme → Bool
is_dropped t =
    is_named (codes "release") t || is_named (codes "serial") t || is_named (codes "statusline") t
    || is_named (codes "switches") t

-- `Default`, and what follows it
abbrev pub defaulted : List (List ℕ) → Lexeme → List Lexeme → List Lexeme
defaulted names first (name n q ∷ ts) =
    if has_name names n then [] else reserved w.Constant (position_of first) ∷ name n q ∷ ts
defaulted names first ts = first ∷ ts

-- what becomes of a directive, where these names are defined before it
abbrev pub settled_from : List (List ℕ) → Lexeme → List Lexeme → List Lexeme
settled_from names first ts =
    if is_word w.Default first then defaulted names first ts else if is_dropped first then [] else first ∷ ts

abbrev pub settled : List (List ℕ) → List Lexeme → List Lexeme
settled names (first ∷ t ∷ u ∷ ts) = settled_from names first (t ∷ u ∷ ts)
settled names ts = ts

-- the number of a constant, whose tokens these are
abbrev pub constant_number : Known → List Lexeme → Option ℕ
constant_number known [] = Some 0
constant_number known (t ∷ ts) = value_in known (t ∷ ts)

-- what a constant is, after its name: without `=` and `;`
abbrev pub constant_tokens : List Lexeme → List Lexeme
constant_tokens [] = []
constant_tokens (t ∷ ts) = if is_sign s.Assign t then before_last ts else before_last (t ∷ ts)

abbrev pub with_constant : Known → List ℕ → Option ℕ → Known
with_constant known n None = known
with_constant known n (Some v) = with_number known (small n) v

-- the constants that are known after a directive
abbrev pub known_after : Known → List Lexeme → Known
known_after known (first ∷ name n q ∷ ts) =
    if is_word w.Constant first then with_constant known n (constant_number known (constant_tokens ts)) else known
known_after known ts = known

abbrev pub with_directive : Kept → List Lexeme → Kept
with_directive k ts = record {
  whole = k.whole ++ ts;
  begun = [];
  in_routine = false;
  names = with_defined k.names (name_defined ts);
  known = known_after k.known ts;
}

abbrev pub routine_after : Bool → Lexeme → Bool
routine_after inside (sign s.OpenBracket p) = true
routine_after inside (sign s.CloseBracket p) = false
routine_after inside t = inside

abbrev pub with_token : Kept → Lexeme → Kept
with_token k t = record {
  whole = k.whole;
  begun = k.begun ++ t ∷ [];
  in_routine = routine_after k.in_routine t;
  names = k.names;
  known = k.known;
}

-- a `;` outside of routines ends a directive
abbrev pub ends : Kept → Lexeme → Bool
ends k t = not k.in_routine && is_sign s.Semicolon t

-- one token more
abbrev pub keep : Kept → Lexeme → Kept
keep k t = if ends k t then with_directive k (settled k.names (k.begun ++ t ∷ [])) else with_token k t

abbrev pub all_kept : Kept → List Lexeme
all_kept k = k.whole ++ k.begun
