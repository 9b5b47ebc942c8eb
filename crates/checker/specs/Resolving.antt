-- Words of proofs: what walks over directives find, and what they note.
use Rattle.std.specs.Prelude.{◌≡◌, ℕ, List, ◌++◌, length, map}
use Rattle.std.specs.List.{concat}
use Rattle.syntax_trees.specs.Tree.{NameTree}
use Rattle.syntax_directives.specs.Tree.{RoutineTree, DirectiveTree}
use Rattle.meaning.specs.declared.checked.CheckedRoutine.{CheckedRoutine}
use Rattle.meaning.specs.Resolved.{RoutineOf}
use Rattle.meaning.specs.Views.{object_of, routine_of, title_of}
use Rattle.meaning.specs.Enclosure.{outside}
use Rattle.checker_values.specs.declared.noting.Tally.{Tally}
use Rattle.checker_values.specs.Names.{File, Seen}
use Rattle.checker_values.specs.Walk.{IsWalked}
use Rattle.checker_statements.specs.Statements.{statements_breaches}
use Rattle.checker_statements.specs.Arrays.{arrays_of}
use Rattle.checker_statements.specs.FirstListed.{first_objects_in}
use Rattle.checker.specs.declared.directive_rules.ResolvedFile.{ResolvedFile}
use Rattle.checker.specs.Programs.{routine_breaches, resolve_body, resolve_routine, routine_trees, globals_of}
use Rattle.checker.specs.Programs.{defaults_in, routines_of}
use Rattle.checker.specs.Checked.{title}

-- in a routine that sees so much of the file
module _ (seen : Seen) where
  -- a routine and its title
  abbrev pub IsRoutineIn : RoutineTree → Tally → Tally → CheckedRoutine → Type 0
  IsRoutineIn r before after c =
      IsWalked {A = RoutineOf × (NameTree × ℕ)} (statements_breaches seen.look outside r.body) before after
      (routine_of c, title_of c) (resolve_body seen r, title r)

-- in a file of these names
abbrev pub IsRoutineOf : File → RoutineTree → Tally → Tally → CheckedRoutine → Type 0
IsRoutineOf file r before after c =
    IsWalked {A = RoutineOf × (NameTree × ℕ)} (routine_breaches file.table r) before after (routine_of c, title_of c)
    (resolve_routine file r, title r)

-- what these directives resolve to
pub record IsFound (file : File) (ds : List DirectiveTree) (found : ResolvedFile) : Type 0 where
  pub globals : found.globals.items ≡ globals_of file ds
  pub bytes : found.arrays.bytes.items ≡ concat (arrays_of file ds)
  pub sizes : found.arrays.sizes.items ≡ map length (arrays_of file ds)
  pub defaults : found.defaults.items ≡ defaults_in file ds
  pub objects : map object_of found.objects.items ≡ first_objects_in file ds
  pub routines : map routine_of found.routines.items ≡ routines_of file ds
  pub titles : map title_of found.routines.items ≡ map title (routine_trees ds)

-- it is added to what was found before
pub record IsAdded (file : File) (ds : List DirectiveTree) (old new : ResolvedFile) : Type 0 where
  pub globals : new.globals.items ≡ old.globals.items ++ globals_of file ds
  pub bytes : new.arrays.bytes.items ≡ old.arrays.bytes.items ++ concat (arrays_of file ds)
  pub sizes : new.arrays.sizes.items ≡ old.arrays.sizes.items ++ map length (arrays_of file ds)
  pub defaults : new.defaults.items ≡ old.defaults.items ++ defaults_in file ds
  pub objects : map object_of new.objects.items ≡ map object_of old.objects.items ++ first_objects_in file ds
  pub routines : map routine_of new.routines.items ≡ map routine_of old.routines.items ++ routines_of file ds
  pub titles : map title_of new.routines.items ≡ map title_of old.routines.items ++ map title (routine_trees ds)

-- with what the rest adds, what was found becomes what all add to what was found first
pub record IsAdding (file : File) (rest all : List DirectiveTree) (first found : ResolvedFile) : Type 0 where
  pub globals : found.globals.items ++ globals_of file rest ≡ first.globals.items ++ globals_of file all
  pub bytes : found.arrays.bytes.items ++ concat (arrays_of file rest) ≡ first.arrays.bytes.items
      ++ concat (arrays_of file all)
  pub sizes : found.arrays.sizes.items ++ map length (arrays_of file rest) ≡ first.arrays.sizes.items
      ++ map length (arrays_of file all)
  pub defaults : found.defaults.items ++ defaults_in file rest ≡ first.defaults.items ++ defaults_in file all
  pub objects : map object_of found.objects.items ++ first_objects_in file rest ≡ map object_of first.objects.items
      ++ first_objects_in file all
  pub routines : map routine_of found.routines.items ++ routines_of file rest ≡ map routine_of first.routines.items
      ++ routines_of file all
  pub titles : map title_of found.routines.items ++ map title (routine_trees rest)
      ≡ map title_of first.routines.items ++ map title (routine_trees all)
