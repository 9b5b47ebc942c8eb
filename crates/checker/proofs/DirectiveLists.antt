-- What is found of directives: of the first of a list, and then of the others.
use Rattle.std.proofs.Common.{◌≡◌, List, [], ◌∷◌, ◌++◌, refl}
use Rattle.std.specs.Prelude.{map}
use Rattle.syntax_directives.specs.Tree.{DirectiveTree, global, constant, array, attribute, property, object, routine}
use Rattle.checker_values.specs.Names.{File}
use Rattle.checker.specs.Programs.{globals_of, defaults_in, routines_of, routine_trees}
use Rattle.checker.specs.Checked.{title}
use Rattle.checker_statements.specs.FirstListed.{first_objects_in}

pub globals_more : (file : File) (d : DirectiveTree) (ds : List DirectiveTree)
    → globals_of file (d ∷ ds) ≡ globals_of file (d ∷ []) ++ globals_of file ds
globals_more file (global n v) ds = refl
globals_more file (constant n v) ds = refl
globals_more file (attribute n) ds = refl
globals_more file (property n v) ds = refl
globals_more file (object o) ds = refl
globals_more file (array a) ds = refl
globals_more file (routine r) ds = refl

pub routines_more : (file : File) (d : DirectiveTree) (ds : List DirectiveTree)
    → routines_of file (d ∷ ds) ≡ routines_of file (d ∷ []) ++ routines_of file ds
routines_more file (global n v) ds = refl
routines_more file (constant n v) ds = refl
routines_more file (attribute n) ds = refl
routines_more file (property n v) ds = refl
routines_more file (object o) ds = refl
routines_more file (array a) ds = refl
routines_more file (routine r) ds = refl

pub titles_more : (d : DirectiveTree) (ds : List DirectiveTree)
    → map title (routine_trees (d ∷ ds)) ≡ map title (routine_trees (d ∷ [])) ++ map title (routine_trees ds)
titles_more (global n v) ds = refl
titles_more (constant n v) ds = refl
titles_more (attribute n) ds = refl
titles_more (property n v) ds = refl
titles_more (object o) ds = refl
titles_more (array a) ds = refl
titles_more (routine r) ds = refl

pub defaults_more : (file : File) (d : DirectiveTree) (ds : List DirectiveTree)
    → defaults_in file (d ∷ ds) ≡ defaults_in file (d ∷ []) ++ defaults_in file ds
defaults_more file (global n v) ds = refl
defaults_more file (constant n v) ds = refl
defaults_more file (array a) ds = refl
defaults_more file (attribute n) ds = refl
defaults_more file (property n v) ds = refl
defaults_more file (object o) ds = refl
defaults_more file (routine r) ds = refl

pub objects_more : (file : File) (d : DirectiveTree) (ds : List DirectiveTree)
    → first_objects_in file (d ∷ ds) ≡ first_objects_in file (d ∷ []) ++ first_objects_in file ds
objects_more file (global n v) ds = refl
objects_more file (constant n v) ds = refl
objects_more file (array a) ds = refl
objects_more file (attribute n) ds = refl
objects_more file (property n v) ds = refl
objects_more file (object o) ds = refl
objects_more file (routine r) ds = refl
