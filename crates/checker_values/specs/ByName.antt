-- Words of proofs: whether a file defines a constant by a name, which may be that of a later object.
use Rattle.std.specs.Prelude.{Bool, true, false, if◌then◌else◌, List, [], ◌∷◌}
use Rattle.syntax_statements.specs.PartTree.{named_value}
use Rattle.syntax_directives.specs.Tree.{DirectiveTree, constant}

abbrev pub is_by_name : DirectiveTree → Bool
is_by_name (constant n (named_value v)) = true
is_by_name _ = false

abbrev pub has_by_name : List DirectiveTree → Bool
has_by_name [] = false
has_by_name (d ∷ ds) = if is_by_name d then true else has_by_name ds
