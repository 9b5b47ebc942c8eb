-- What a parser of programs answers.
use Rattle.std.specs.Prelude.{◌≡◌, ℕ, Result, Ok, Err}
use Rattle.syntax_lexer.specs.declared.fault.SourceFault.{SourceFault}
use Rattle.syntax_lexer.specs.FaultNumbers.{no_memory}
use Rattle.syntax.specs.declared.tree.Program.{Program}
use Rattle.syntax.specs.Tree.{ProgramTree}
use Rattle.syntax.specs.Views.{program_tree}

-- P, where the answer is a fault of that number
abbrev pub IfNumber : {X : Type 0} → Result X SourceFault → ℕ → Type 0 → Type 0
IfNumber (Ok x) n P = Unit {0}
IfNumber (Err f) n P = f.number ≡ n → P

-- that tree, unless memory was refused
abbrev pub AnswersProgram : Result Program SourceFault → ProgramTree → Type 0
AnswersProgram (Ok p) tree = program_tree p ≡ tree
AnswersProgram (Err f) tree = f ≡ no_memory
