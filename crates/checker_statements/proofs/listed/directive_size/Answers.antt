use Rattle.std.proofs.Common.{ap, sym, ◌∙◌}
use Rattle.syntax_directives.specs.declared.tree.Directive.{Directive}
use Rattle.syntax_directives.specs.Views.{directive_tree, object_tree}
use Rattle.meaning.specs.Places.{folded}
use Rattle.meaning.proofs.Folding.{fold_part}
use Rattle.checker_statements.specs.Sizes.{listed_directive_size, listed_table_size}
use Rattle.checker_statements.proofs.listed.directive_size.Goals as goal

pub returns-in-Object-clause-size : goal.returns-in-Object-clause-size
returns-in-Object-clause-size c =
    c.fold.ensures.size
    ∙ fold_part 14 (listed_table_size (object_tree c.in-Object.written)) c.table_size.result
    c.table_size.ensures.size
    ∙ ap (λ (d : Directive). folded (listed_directive_size (directive_tree d))) (sym c.in-Object.is)
