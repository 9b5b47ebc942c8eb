-- Words of proofs: objects by the first 63 properties that they list. An object that lists more breaks a rule, so the
-- code puts no others in their places. In a program that breaks none, these are its objects.
use Rattle.std.specs.Prelude.{ℕ, List, map, take}
use Rattle.syntax_directives.specs.Tree.{ObjectTree, DirectiveTree}
use Rattle.meaning.specs.Objects.{ObjectOf}
use Rattle.checker_values.specs.Names.{File}
use Rattle.checker_statements.specs.Objects.{object_in, object_trees}
use Rattle.zcore.specs.Layout.{default_count}

-- the most properties that an object can provide: their numbers are from 1 to 63
abbrev pub most_provided : ℕ
most_provided = default_count

abbrev pub first_listed : ObjectTree → ObjectTree
first_listed o = record o { properties = take most_provided o.properties }

-- the objects of a file by these, still without their parents
abbrev pub first_objects_in : File → List DirectiveTree → List ObjectOf
first_objects_in file ds = map (object_in file) (map first_listed (object_trees ds))
