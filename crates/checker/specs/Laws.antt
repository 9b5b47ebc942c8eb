-- The laws of checks that functions of `laws` carry as their contracts.
use Rattle.std.specs.Prelude.{◌≡◌, ℕ, []}
use Rattle.syntax.specs.Tree.{ProgramTree}
use Rattle.syntax.specs.Printable as source
use Rattle.checker_values.specs.Names.{File, table_of}
use Rattle.meaning.specs.Places.{number_in}
use Rattle.checker.specs.Programs.{program_breaches, resolve_with, resolve_program}
use Rattle.meaning.specs.Accepted.{IsAccepted}
use Rattle.meaning.specs.Printable.{HasPrintableTexts}

-- what a program that breaks no rule resolves to is within the limits
abbrev pub AcceptedPrograms : Type 0
AcceptedPrograms = (p : ProgramTree) → program_breaches p ≡ [] → IsAccepted (resolve_program p)

-- what a program whose texts print resolves to has texts that print
abbrev pub PrintablePrograms : Type 0
PrintablePrograms = (p : ProgramTree) → source.HasPrintableTexts p → HasPrintableTexts (resolve_program p)

-- the names of a program's file, with the numbers that keys have in this program
abbrev pub numbered_by : ProgramTree → (ℕ → ℕ) → File
numbered_by p number = record { table = table_of p.directives; number = number }

-- a word of a program is the number that it has in the program's own dictionary
abbrev pub WordsAreNumbered : Type 0
WordsAreNumbered = (p : ProgramTree)
    → resolve_program p ≡ resolve_with (numbered_by p (number_in (resolve_program p))) p
