-- Which sources have a tree, and why a source is refused.
use Rattle.std.specs.Prelude.{◌≡◌, ◌≤◌, ◌<◌, ℕ, List, [], map, Option, Some, Ok, Err}
use Rattle.zcore.specs.declared.header.Version.{Version}
use Rattle.syntax_lexer.specs.declared.fault.PlacedFault.{PlacedFault}
use Rattle.syntax_lexer.specs.declared.fault.SourceFault.{SourceFault}
use Rattle.syntax_lexer.specs.declared.token.Position.{Position}
use Rattle.syntax_lexer.specs.FaultNumbers as fault_numbers
use Rattle.syntax_lexer.specs.Token.{Lexeme}
use Rattle.syntax_lexer.specs.Tokens.{SourceToken, Lexes}
use Rattle.syntax_directives.specs.Tree.{RoutineTree}
use Rattle.syntax.specs.Tree.{ProgramTree}
use Rattle.syntax.specs.Grammar.{IsProgram, program_nesting}
use Rattle.syntax.specs.Places.{IsFirstUnfit, IsFirstDeep}
use Rattle.meaning.specs.Places.{routines_place}
use Rattle.meaning.specs.Sizes.{first_heavy, size_fault}
use Rattle.checker_values.specs.declared.breach.Breach.{Breach}
use Rattle.checker_values.specs.Breaches.{IsAmong, IsFirst}
use Rattle.checker.specs.Programs.{program_breaches, resolve_program, routine_trees}

-- the tokens of a source
abbrev pub lexemes_of : List SourceToken → List Lexeme
lexemes_of tokens = map (λ (t : SourceToken). t.lexeme) tokens

-- how deep a program may be nested
abbrev pub greatest_nesting : ℕ
greatest_nesting = 100

-- the tree of a source that has one
pub record IsTreeOf (source : List ℕ) (p : ProgramTree) : Type 0 where
  pub tokens : List SourceToken
  pub lexed : Lexes 0 1 source (Ok tokens)
  pub parsed : IsProgram (lexemes_of tokens) p
  pub nested : program_nesting p ≤ greatest_nesting

-- Sizes

-- which programs are too large, and why
abbrev pub Limits : Type 0
Limits = Version → ProgramTree → Option SourceFault

abbrev pub tree_weight : RoutineTree → ℕ
tree_weight r = r.weight

abbrev pub tree_name_place : RoutineTree → Position
tree_name_place r = r.name.position

abbrev pub tree_size_fault : Limits
tree_size_fault version p =
    size_fault version (routines_place (resolve_program p)) p.weight
    (first_heavy tree_weight tree_name_place (routine_trees p.directives))

-- why a source is refused: the earliest part that finds a fault answers, or a growth of memory was refused
pub data RefusesBy (limits : Limits) (version : Version) (source : List ℕ) (f : SourceFault) : Type 0 where
  no_memory : f ≡ fault_numbers.no_memory → RefusesBy limits version source f
  in_tokens : (placed : PlacedFault) → Lexes 0 1 source (Err placed) → placed.fault ≡ f → RefusesBy limits version source f
  not_in_grammar : (tokens : List SourceToken) → Lexes 0 1 source (Ok tokens)
      → ((p : ProgramTree) → IsProgram (lexemes_of tokens) p → ⊥)
      → IsFirstUnfit greatest_nesting (lexemes_of tokens) (λ place. place.line ≡ f.line)
      → f.number ≡ fault_numbers.not_in_grammar → RefusesBy limits version source f
  too_deep : (tokens : List SourceToken) → Lexes 0 1 source (Ok tokens)
      → ((p : ProgramTree) → IsProgram (lexemes_of tokens) p → greatest_nesting < program_nesting p)
      → IsFirstDeep greatest_nesting (lexemes_of tokens) (λ place. place.line ≡ f.line)
      → f.number ≡ fault_numbers.nested_too_deep → RefusesBy limits version source f
  rule_broken : (p : ProgramTree) → IsTreeOf source p → (b : Breach) → IsAmong b (program_breaches p)
      → IsFirst b (program_breaches p)
      → f.number ≡ b.number → f.line ≡ b.position.line → RefusesBy limits version source f
  too_large : (p : ProgramTree) → IsTreeOf source p → program_breaches p ≡ [] → limits version p ≡ Some f
      → RefusesBy limits version source f
