-- The laws of programs that functions of `laws` carry as their contracts.
use Rattle.std.specs.Prelude.{◌≡◌, ◌≤◌, ◌+◌, ◌*◌, ℕ, List, length}
use Rattle.std.specs.List.{All}
use Rattle.syntax_lexer.specs.Token.{Lexeme}
use Rattle.syntax_lexer.specs.Printable.{HasPrintableText}
use Rattle.syntax_directives.specs.Tree.{DirectiveTree, routine}
use Rattle.syntax_directives.specs.Weight.{statement_weights, statements_values}
use Rattle.syntax.specs.Tree.{ProgramTree}
use Rattle.syntax.specs.Grammar.{IsProgram}
use Rattle.syntax.specs.Printable.{HasPrintableTexts}

-- tokens whose texts print are a program whose texts print
abbrev pub PrintableTrees : Type 0
PrintableTrees = (ts : List Lexeme) (p : ProgramTree) → IsProgram ts p → All HasPrintableText ts → HasPrintableTexts p

-- a routine weighs what its brackets, its name, its two semicolons, its locals and its statements weigh, and a `-`
-- before some values of ranges and a `~` before some attributes of `give`
abbrev pub IsWeighed : DirectiveTree → Type 0
IsWeighed (routine r) = (signs : ℕ) × (signs ≤ statements_values r.body)
    × (r.weight ≡ 32 * (5 + length r.locals + signs) + statement_weights r.body)
IsWeighed _ = Unit {0}

abbrev pub WeighedRoutines : Type 0
WeighedRoutines = (ts : List Lexeme) (p : ProgramTree) → IsProgram ts p → All IsWeighed p.directives
