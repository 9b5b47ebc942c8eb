-- Names that only passes make: a source that has one is refused (E20).
use Rattle.std.specs.Prelude.{ℕ, Bool, false, List, [], ◌∷◌, take, Option, Some, None, if◌then◌else◌}
use Rattle.syntax_lexer.specs.declared.fault.PlacedFault.{PlacedFault}
use Rattle.syntax_lexer.specs.FaultNumbers.{unknown_name}
use Rattle.syntax_lexer.specs.Token.{Lexeme, name, position_of}
use Rattle.derive_tokens.specs.Tokens.{is_same_name, own_prefix, refused}

abbrev pub is_own : Lexeme → Bool
is_own (name s p) = is_same_name (take 3 s) own_prefix
is_own _ = false

-- the fault of the first such name
abbrev pub own_fault : List Lexeme → Option PlacedFault
own_fault [] = None
own_fault (t ∷ ts) = if is_own t then Some (refused unknown_name (position_of t)) else own_fault ts
