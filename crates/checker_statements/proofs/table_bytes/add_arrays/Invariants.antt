use Rattle.std.proofs.Common.{◌≡◌, ◌++◌, drop}
use Rattle.std.specs.Prelude.{map}
use Rattle.std.specs.List.{concat}
use Rattle.syntax_directives.specs.Views.{directive_tree}
use Rattle.checker_values.specs.Scope.{file_in}
use Rattle.checker_statements.specs.Arrays.{arrays_of}
use Rattle.checker_statements.proofs.table_bytes.add_arrays.Given as goal

abbrev pub invariant-loop-one : goal.invariant-loop-one
invariant-loop-one l =
    l.arrays.bytes.items ++ concat (arrays_of (file_in l.file) (map directive_tree (drop l.one-index l.directives)))
    ≡ l.fn.arrays.bytes.items ++ concat (arrays_of (file_in l.file) (map directive_tree l.directives))
