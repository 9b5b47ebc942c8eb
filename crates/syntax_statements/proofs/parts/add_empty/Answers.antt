use Rattle.std.proofs.Common.{subst}
use Rattle.syntax_trees.specs.Returned.{ahead}
use Rattle.std.specs.Prelude.{Ok}
use Rattle.syntax_statements.specs.declared.tree.Statement.TheVariants as said
use Rattle.syntax_statements.specs.Rows.{AddsStatement}
use Rattle.syntax_statements.proofs.Rows.{pushed, is_empty}
use Rattle.syntax_statements.proofs.parts.add_empty.Goals as goal

pub returns : goal.returns
returns c = subst
    (λ x. AddsStatement c.push.result c.args.row.now.items c.push.new.row.items c.args.parser.now
    (Ok (x, ahead c.args.parser.now))) is_empty
    (pushed c.push.result c.args.row.now.items c.push.new.row.items said.Empty c.args.parser.now c.push.ensures.ok
    c.push.ensures.err)
