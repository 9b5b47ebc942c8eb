use Rattle.std.proofs.Common.{ap, ◌∙◌}
use Rattle.syntax_statements.specs.Views.{simple_tree}
use Rattle.syntax_statements.proofs.Rows.{added, is_simple}
use Rattle.syntax_statements.proofs.parts.add_simple.Goals as goal

pub returns-in-Ok : goal.returns-in-Ok
returns-in-Ok c = added c.args.row.now.items _ _ _ _ c.args.parser.now c.in-Ok.ensures.items
    c.push_reserved.ensures.items
    (is_simple c.into_inner.result ∙ ap simple_tree c.into_inner.ensures)
