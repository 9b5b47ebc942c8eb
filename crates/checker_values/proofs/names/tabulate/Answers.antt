use Rattle.std.proofs.Common.{[], sym, ◌∙◌}
use Rattle.std.specs.Prelude.{map}
use Rattle.syntax_directives.specs.Views.{directive_tree}
use Rattle.checker_values.specs.Names.{first_table, no_counts, table_from, table_of}
use Rattle.checker_values.proofs.Constants.{same_table}
use Rattle.checker_values.proofs.names.tabulate.Goals as goal

pub returns : goal.returns
unfolding table_of
returns c =
    let ds = map directive_tree c.args.directives.now in
    c.in_ok-whole.ensures ∙ same_table c.new-none.result.entries (table_from [] first_table no_counts ds) first_table
    no_counts ds (sym c.define_by_name.ensures ∙ c.if-define_by_name.false)
