use Rattle.std.proofs.Common.{List, ap, ◌∙◌}
use Rattle.std.specs.Prelude.{map}
use Rattle.syntax_directives.specs.declared.tree.Directive.{Directive}
use Rattle.syntax_directives.specs.Views.{directive_tree}
use Rattle.syntax.specs.Views.{program_tree}
use Rattle.checker_values.specs.Names.{table_of}
use Rattle.checker.proofs.Numbered.{none_numbered}
use Rattle.checker.proofs.check_program.unnumbered_file.Goals as goal

pub returns : goal.returns
returns c =
    none_numbered (program_tree c.args.program.now) c.in_ok-table.table.entries c.none-numbers.result.dictionary
    c.none-numbers.result.keys.items c.none-numbers.ensures
    (c.in_ok-table.ensures ∙ ap (λ (ds : List Directive). table_of (map directive_tree ds)) c.deref.ensures.value)
