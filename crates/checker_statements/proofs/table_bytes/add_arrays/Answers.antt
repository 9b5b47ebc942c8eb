use Rattle.std.proofs.Common.{List, ◌++◌, sym, ap, ◌∙◌}
use Rattle.std.specs.Prelude.{map}
use Rattle.std.specs.List.{concat}
use Rattle.syntax_directives.specs.declared.tree.Directive.{Directive}
use Rattle.syntax_directives.specs.Tree.{DirectiveTree}
use Rattle.syntax_directives.specs.Views.{directive_tree}
use Rattle.checker_values.specs.Scope.{file_in}
use Rattle.checker_statements.specs.Arrays.{arrays_of}
use Rattle.checker_values.proofs.Dropped.{drop_end}
use Rattle.checker_values.proofs.Mapped.{nothing_more}
use Rattle.checker_statements.proofs.ArrayLists.{bytes_more, list_step}
use Rattle.checker_statements.proofs.table_bytes.add_arrays.Goals as goal

pub loop-one-preserved : goal.loop-one-preserved
loop-one-preserved c =
    list_step (λ (q : List DirectiveTree). concat (arrays_of (file_in c.args.file.now) q))
    (bytes_more (file_in c.args.file.now)) c.loop-one.arrays.bytes.items c.add_array.new.arrays.bytes.items
    c.args.directives.now c.loop-one.one-index c.one-item.result c.loop-one-test.true c.one-item.is
    c.in_ok-add_array.ensures ∙ c.loop-one.invariant

pub returns : goal.returns
returns c =
    nothing_more c.loop-one.arrays.bytes.items
    ∙ ap (λ (ds : List Directive). c.loop-one.arrays.bytes.items
    ++ concat (arrays_of (file_in c.args.file.now) (map directive_tree ds)))
    (sym (drop_end c.args.directives.now c.loop-one.one-index c.loop-one-test.false))
    ∙ c.loop-one.invariant
