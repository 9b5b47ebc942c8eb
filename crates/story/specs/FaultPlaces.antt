-- Where a source is at fault: the offset of the byte, the token or the name.
use Rattle.std.specs.Prelude.{◌≡◌, ◌⊎◌, ℕ, List, Option, Some, None, Ok, Err}
use Rattle.syntax_lexer.specs.declared.fault.PlacedFault.{PlacedFault}
use Rattle.syntax_lexer.specs.declared.token.Position.{Position}
use Rattle.syntax_lexer.specs.FaultNumbers as fault_numbers
use Rattle.syntax_lexer.specs.Tokens.{SourceToken, Lexes}
use Rattle.syntax.specs.Tree.{ProgramTree}
use Rattle.syntax.specs.Places.{IsFirstUnfit, IsFirstDeep}
use Rattle.meaning.specs.Sizes.{first_heavy}
use Rattle.checker.specs.Places.{StandsAtFirst}
use Rattle.checker.specs.Programs.{program_breaches, routine_trees}
use Rattle.story.specs.Refused.{IsTreeOf, lexemes_of, greatest_nesting, tree_weight, tree_name_place}

-- of these faults no place is named: E30, E31 and E99
abbrev pub IsUnplaced : ℕ → Type 0
IsUnplaced number =
    (number ≡ fault_numbers.tables_too_large) ⊎ (number ≡ fault_numbers.story_too_large)
    ⊎ (number ≡ fault_numbers.out_of_memory)

-- a fault stands at that position
abbrev pub StandsAt : PlacedFault → Position → Type 0
StandsAt f place = (place.line ≡ f.fault.line) × (f.offset ≡ Some place.offset)

-- the position of the name of the first routine that is too heavy
abbrev pub heavy_place : ProgramTree → Option Position
heavy_place p = first_heavy tree_weight tree_name_place (routine_trees p.directives)

-- where the fault of a source stands, by its cause
pub data Stands (source : List ℕ) (f : PlacedFault) : Type 0 where
  nowhere : IsUnplaced f.fault.number → f.offset ≡ None → Stands source f
  in_tokens : Lexes 0 1 source (Err f) → Stands source f
  not_in_grammar : (tokens : List SourceToken) → Lexes 0 1 source (Ok tokens)
      → IsFirstUnfit greatest_nesting (lexemes_of tokens) (StandsAt f)
      → f.fault.number ≡ fault_numbers.not_in_grammar → Stands source f
  too_deep : (tokens : List SourceToken) → Lexes 0 1 source (Ok tokens)
      → IsFirstDeep greatest_nesting (lexemes_of tokens) (StandsAt f)
      → f.fault.number ≡ fault_numbers.nested_too_deep → Stands source f
  rule_broken : (p : ProgramTree) → IsTreeOf source p → StandsAtFirst f (program_breaches p) → Stands source f
  routine_too_large : (p : ProgramTree) → IsTreeOf source p → (place : Position) → heavy_place p ≡ Some place
      → StandsAt f place → f.fault.number ≡ fault_numbers.routine_too_large → Stands source f
