-- The faults of a parser by their numbers, and where they stand.
use Rattle.std.specs.Prelude.{◌-◌, ℕ, List, drop, length}
use Rattle.syntax_lexer.specs.declared.fault.PlacedFault.{PlacedFault}
use Rattle.syntax_lexer.specs.declared.token.Position.{Position}
use Rattle.syntax_lexer.specs.FaultNumbers.{no_memory}
use Rattle.syntax_lexer.specs.Placed.{nowhere, at_offset}
use Rattle.syntax_lexer.specs.Token.{Lexeme, head, position_of}
use Rattle.syntax_trees.specs.declared.error.Fault.{Fault}
use Rattle.syntax_trees.specs.declared.error.Fault.TheVariants.{Grammar, Deep}
use Rattle.syntax_trees.specs.declared.error.ParseError.{ParseError}
use Rattle.syntax_trees.specs.declared.error.ParseError.TheVariants as errors

abbrev pub fault_number : Fault → ℕ
fault_number Grammar = 10
fault_number Deep = 5

-- where the token stands from which on so many are left
abbrev pub place_of : List Lexeme → ℕ → Position
place_of tokens left = position_of (head (drop (length tokens - left) tokens))

-- an error of reading these tokens, as programs print it
abbrev pub placed_fault : List Lexeme → ParseError → PlacedFault
placed_fault tokens errors.Memory = nowhere no_memory
placed_fault tokens (errors.Fault fault left) =
    at_offset (place_of tokens left).offset
    (record { number = fault_number fault; line = (place_of tokens left).line })
