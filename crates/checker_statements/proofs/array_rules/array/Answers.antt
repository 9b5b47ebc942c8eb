use Rattle.std.proofs.Common.{◌≡◌, List, ◌-◌, ◌++◌, refl, ap, ◌∙◌, length, length-append, arith}
use Rattle.std.specs.Prelude.{map}
use Rattle.syntax_directives.specs.declared.tree.ArrayValue.{ArrayValue}
use Rattle.syntax_directives.specs.Views.{value_tree, array_tree}
use Rattle.checker_statements.specs.Arrays.{bytes_of, entries_of, array_bytes}
use Rattle.checker_values.specs.Scope.{file_in}
use Rattle.checker_statements.proofs.ArrayBytes.{array_added}
use Rattle.checker_statements.proofs.array_rules.array.Goals as goal

pub returns-clause-added : goal.returns-clause-added
returns-clause-added c =
    let file = file_in c.args.file.now in
    let kind = c.args.written.now.kind in
    let old = c.args.found.now.bytes.items in
    let more = array_bytes file (array_tree c.args.written.now) in
    let mid : c.add_values.new.bytes.items ≡ old ++ more = c.in_ok-add_values.ensures.bytes
    ∙ ap (λ (vs : List ArrayValue). old ++ bytes_of kind (entries_of file kind (map value_tree vs)))
    c.deref.ensures.value in
    let both = length-append old more in
    let long = ap length mid in
    let new = c.len.ensures in
    let before = c.len-before.ensures in
    array_added c.args.found.now _ more c.add_values.new.bytes.items (c.len.result - c.len-before.result) mid refl
    (omega (arith, both, long, new, before)) c.in_ok-push.ensures.items
