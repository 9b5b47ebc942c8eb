-- The two arrays of a `read`: the rules that their names can break.
use Rattle.std.specs.Prelude.{◌==◌, ℕ, Bool, true, false, if◌then◌else◌, List, [], ◌++◌, Option, Some, None}
use Rattle.syntax_lexer.specs.FaultNumbers.{unknown_name, wrong_kind}
use Rattle.syntax_lexer.specs.declared.token.Position.{Position}
use Rattle.syntax_trees.specs.Tree.{NameTree}
use Rattle.syntax_directives.specs.declared.tree.ArrayKind.{ArrayKind}
use Rattle.syntax_directives.specs.declared.tree.ArrayKind.TheVariants as kinds
use Rattle.checker_values.specs.declared.binding.Binding.{Binding}
use Rattle.checker_values.specs.declared.binding.Binding.TheVariants as bindings
use Rattle.checker_values.specs.declared.breach.Breach.{Breach}
use Rattle.checker_values.specs.Breaches.{at}

abbrev pub is_of_bytes : ArrayKind → Bool
is_of_bytes kinds.Bytes = true
is_of_bytes kinds.Words = false
is_of_bytes kinds.String = true
is_of_bytes kinds.Table = false

-- E20 where a name is unknown, E23 where it is no array of bytes
abbrev pub buffer_breaches : Position → Option Binding → List Breach
buffer_breaches p None = at p unknown_name
buffer_breaches p (Some (bindings.Array a kind)) = if is_of_bytes kind then [] else at p wrong_kind
buffer_breaches p (Some _) = at p wrong_kind

-- a name stands for the array of a number
abbrev pub is_array : ℕ → Option Binding → Bool
is_array number (Some (bindings.Array a kind)) = number == a
is_array number _ = false

-- E23 at the second name, where both are one array
abbrev pub same_breaches : Position → Option Binding → Option Binding → List Breach
same_breaches p (Some (bindings.Array a kind)) second = if is_array a second then at p wrong_kind else []
same_breaches p _ second = []

-- `look` tells what a name stands for
abbrev pub read_breaches : (List ℕ → Option Binding) → NameTree → NameTree → List Breach
read_breaches look n m = buffer_breaches n.position (look n.text)
    ++ (buffer_breaches m.position (look m.text) ++ same_breaches m.position (look n.text) (look m.text))
