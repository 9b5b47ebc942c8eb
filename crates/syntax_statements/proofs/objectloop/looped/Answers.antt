use Rattle.std.proofs.Common.{sym, ◌∙◌}
use Rattle.syntax_trees.specs.Returned.{ahead}
use Rattle.syntax_statements.proofs.Looped.{looped_read}
use Rattle.syntax_statements.proofs.objectloop.looped.Goals as goal

pub returns : goal.returns
returns c = rw (c.in_ok-new.ensures.ok, c.loop_of.ensures) (looped_read c.args.depth (ahead c.args.parser.now) _ _
    c.in-Some.variable _ (sym c.peek.ensures ∙ c.in-Some.ensures) c.in_ok-found.ensures c.in_ok-expect.ensures)
