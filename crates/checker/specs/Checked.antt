-- What a checked program is of its source.
use Rattle.std.specs.Prelude.{◌≡◌, ℕ, map}
use Rattle.syntax_trees.specs.Tree.{NameTree}
use Rattle.syntax_directives.specs.Tree.{RoutineTree}
use Rattle.syntax.specs.Tree.{ProgramTree}
use Rattle.meaning.specs.Views.{CheckedProgram, program_of, title_of}
use Rattle.checker.specs.Programs.{resolve_program, routine_trees}

-- a routine's name and weight
abbrev pub title : RoutineTree → NameTree × ℕ
title r = (r.name, r.weight)

-- it is what the source resolves to, with the source's names, weights and end
pub record IsCheckedOf (p : ProgramTree) (c : CheckedProgram) : Type 0 where
  pub program : program_of c ≡ resolve_program p
  pub titles : map title_of c.routines ≡ map title (routine_trees p.directives)
  pub weight : c.weight ≡ p.weight
  pub end_line : c.end_line ≡ p.end.line
