-- Tokens that are derived, and what a pass over them gives. A derived token is a token of the profile with the position of
-- the token that it comes from.
use Rattle.std.specs.Prelude.{ℕ, Bool, true, false, List, [], ◌∷◌, ◌++◌, Option, Some, None, Result, if◌then◌else◌, codes}
use Rattle.std.specs.Fmt.{decimal}
use Rattle.std.specs.Str.{bytes_eq, str_eq_ignore_ascii_case}
use Rattle.syntax_lexer.specs.declared.fault.PlacedFault.{PlacedFault}
use Rattle.syntax_lexer.specs.declared.token.Position.{Position}
use Rattle.syntax_lexer.specs.declared.token.Sign.{Sign}
use Rattle.syntax_lexer.specs.declared.token.Word.{Word}
use Rattle.syntax_lexer.specs.Placed.{at_offset}
use Rattle.syntax_lexer.specs.Token.{Lexeme, name, number, text, character, dictionary_word, reserved, sign, end}
use Rattle.syntax_lexer.specs.Spelling.{sign_spelling, word_spelling}

-- the tokens of a pass, the last of which is the end, or the first fault
abbrev pub Outcome : Type 0
Outcome = Result (List Lexeme) PlacedFault

-- the fault of a number at a token's origin
abbrev pub refused : ℕ → Position → PlacedFault
refused fault p = at_offset p.offset (record { number = fault; line = p.line })

abbrev pub is_sign : Sign → Lexeme → Bool
is_sign wanted (sign s p) = bytes_eq (sign_spelling s) (sign_spelling wanted)
is_sign wanted _ = false

abbrev pub is_word : Word → Lexeme → Bool
is_word wanted (reserved w p) = bytes_eq (word_spelling w) (word_spelling wanted)
is_word wanted _ = false

abbrev pub name_in : Lexeme → Option (List ℕ)
name_in (name s p) = Some s
name_in _ = None

-- two names are the same, in small letters or in capitals
abbrev pub is_same_name : List ℕ → List ℕ → Bool
is_same_name a b = str_eq_ignore_ascii_case a b

abbrev pub is_named : List ℕ → Lexeme → Bool
is_named wanted (name s p) = is_same_name s wanted
is_named wanted _ = false

-- What names stand for: pairs of a name and what it is, the newest first.

abbrev pub found : {A : Type 0} → List ℕ → List (List ℕ × A) → Option A
found s [] = None
found s (entry ∷ entries) = if is_same_name s entry.0 then Some entry.1 else found s entries

-- Names that only passes make begin with `x__`.

abbrev pub own_prefix : List ℕ
own_prefix = codes "x__"

-- the name of a prefix and a number, as `x__r12`
abbrev pub numbered : List ℕ → ℕ → List ℕ
numbered prefix n = prefix ++ decimal n
