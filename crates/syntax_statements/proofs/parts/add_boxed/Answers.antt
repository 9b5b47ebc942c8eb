use Rattle.syntax_statements.proofs.Rows.{pushed}
use Rattle.syntax_statements.proofs.parts.add_boxed.Goals as goal

pub returns : goal.returns
returns c = pushed c.push_boxed.result c.args.row.now.items c.push_boxed.new.row.items c.args.next.value
    c.args.parser.now c.push_boxed.ensures.ok c.push_boxed.ensures.err
