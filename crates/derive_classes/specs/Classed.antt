-- The pass: classes become attributes, and each object has what its classes give.
use Rattle.std.specs.Prelude.{◌&&◌, ℕ, nat_lt, List, [], ◌∷◌, length, if◌then◌else◌, Option, Some, None, Ok, Err}
use Rattle.std.specs.Prelude.{codes}
use Rattle.syntax_lexer.specs.declared.fault.PlacedFault.{PlacedFault}
use Rattle.syntax_lexer.specs.declared.token.Word.TheVariants as w
use Rattle.syntax_lexer.specs.FaultNumbers.{too_many, unknown_name}
use Rattle.syntax_lexer.specs.Token.{Lexeme, reserved, head, tail, position_of}
use Rattle.derive_tokens.specs.Tokens.{Outcome, is_named, refused}
use Rattle.derive_tokens.specs.Names.{is_among, is_name, small_name, with_name_of}
use Rattle.derive_constants.specs.Cutting.{directives}
use Rattle.derive_classes.specs.Classes.{with_classes}
use Rattle.derive_classes.specs.Properties.{declared}
use Rattle.derive_classes.specs.Directives.{is_class, mentions}

-- the fault of the first class that is not known, of these
abbrev pub unknown_in : List (List ℕ) → List Lexeme → Option PlacedFault
unknown_in names [] = None
unknown_in names (t ∷ ts) =
    if is_among names (small_name t) then unknown_in names ts else Some (refused unknown_name (position_of t))

abbrev pub or_later : Option PlacedFault → Option PlacedFault → Option PlacedFault
or_later (Some fault) later = Some fault
or_later None later = later

-- a class is known after its directive
abbrev pub names_after : List (List ℕ) → List Lexeme → List (List ℕ)
names_after names d = if is_class d then with_name_of names (head (tail d)) else names

-- Each class takes one of 48 attributes: the fault of a class after which these are known.
abbrev pub surplus : List (List ℕ) → List Lexeme → Option PlacedFault
surplus names d = if nat_lt 48 (length names) then Some (refused too_many (position_of (head (tail d)))) else None

abbrev pub fault_at : List (List ℕ) → List Lexeme → Option PlacedFault
fault_at names d = or_later (unknown_in names (mentions d)) (surplus (names_after names d) d)

abbrev pub fault_from : List (List ℕ) → List (List Lexeme) → Option PlacedFault
fault_from names [] = None
fault_from names (d ∷ ds) = or_later (fault_at names d) (fault_from (names_after names d) ds)

abbrev pub class_fault : List Lexeme → Option PlacedFault
class_fault ts = fault_from [] (directives ts)

-- `x ofclass C` is `x has C`
abbrev pub test_of : Lexeme → List Lexeme → Lexeme
test_of t ts = if is_named (codes "ofclass") t && is_name (head ts) then reserved w.Has (position_of t) else t

abbrev pub tested : List Lexeme → List Lexeme
tested [] = []
tested (t ∷ ts) = test_of t ts ∷ tested ts

abbrev pub derived_or : Option PlacedFault → List Lexeme → Outcome
derived_or None ts = Ok ts
derived_or (Some fault) ts = Err fault

-- of a file whose classes are all known, and not too many
abbrev pub known_classes : List Lexeme → List Lexeme
known_classes ts = tested (with_classes (declared ts))

abbrev pub classed : List Lexeme → Outcome
classed ts = derived_or (class_fault ts) (known_classes ts)
