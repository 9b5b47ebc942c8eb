use Rattle.std.proofs.Common.{length, sym, ap, ◌∙◌}
use Rattle.syntax_trees.specs.Returned.{ahead}
use Rattle.syntax.specs.Parse.{goes_on, parts_in}
use Rattle.syntax.proofs.EntriesRead.{entries_fail}
use Rattle.syntax.proofs.entries.entries.Goals as goal

pub returns-in-Err : goal.returns-in-Err
returns-in-Err c = entries_fail c.args.depth c.in-Err.e (length c.args.parser.now.tokens.now) c.loop-turn._turn
    (parts_in c.loop-turn.found) (ahead c.loop-turn.parser) _ c.loop-turn-test.true
    (ap goes_on (sym c.peek.ensures) ∙ sym c.goes_on.ensures ∙ c.if-not-goes_on.false) c.in-Err.ensures
    c.loop-turn.invariant
