-- The laws of the size of code that functions of `laws` carry as their contracts.
use Rattle.std.specs.Prelude.{◌≡◌, ◌+◌, ◌≤◌, List, None}
use Rattle.std.specs.List.{All}
use Rattle.syntax_lexer.specs.Token.{Lexeme}
use Rattle.syntax_directives.specs.Tree.{RoutineTree}
use Rattle.syntax.specs.Tree.{ProgramTree}
use Rattle.syntax.specs.Grammar.{IsProgram}
use Rattle.zcore.specs.declared.header.Version.{Version}
use Rattle.checker_values.specs.Names.{File}
use Rattle.checker.specs.Programs.{resolve_routine, routines_of, routine_trees}
use Rattle.checker.specs.Checked.{IsCheckedOf}
use Rattle.meaning.specs.Resolved.{RoutineOf}
use Rattle.meaning.specs.Views.{CheckedProgram, program_of}
use Rattle.meaning.specs.Sizes.{greatest_weight, greatest_routine_weight}
use Rattle.meaning.specs.CheckedSizes.{checked_size_fault}
use Rattle.code_drafts.specs.Addresses.{Sizes}
use Rattle.code.specs.HeldProgram.{sizes_of}
use Rattle.code.specs.Sizes.{routine_size, routines_size}

-- where names and words stand for what a file tells, and a program has these sizes: the code of each routine, and that
-- of all of them, is no longer than the source weighs
pub record HasShortCode (p : ProgramTree) (file : File) (sizes : Sizes) : Type 0 where
  pub each : All (λ (r : RoutineTree). routine_size sizes (resolve_routine file r) + 7 ≤ r.weight)
      (routine_trees p.directives)
  pub all : routines_size sizes (routines_of file p.directives) ≤ p.weight

-- the code of the program that some tokens are is short, whatever its names and words stand for, however large its
-- arrays are, however many objects it has, and whatever its abbreviations are
abbrev pub CodeIsShort : Type 0
CodeIsShort = (tokens : List Lexeme) (p : ProgramTree) → IsProgram tokens p → (file : File)
    → (sizes : Sizes) → HasShortCode p file sizes

-- the code of a checked program is within the limits of a source's weight: that of a routine, and the version's for
-- all
pub record IsSmall (c : CheckedProgram) (version : Version) : Type 0 where
  pub each : All (λ (r : RoutineOf). routine_size (sizes_of (program_of c)) r + 7 ≤ greatest_routine_weight)
      (program_of c).routines
  pub all : routines_size (sizes_of (program_of c)) (program_of c).routines ≤ greatest_weight version

-- so is that of each source that is not too large for a version
abbrev pub SmallSourcesHaveSmallCode : Type 0
SmallSourcesHaveSmallCode =
    (tokens : List Lexeme) (p : ProgramTree) (c : CheckedProgram) (version : Version) → IsProgram tokens p
    → IsCheckedOf p c → checked_size_fault c version ≡ None → IsSmall c version
