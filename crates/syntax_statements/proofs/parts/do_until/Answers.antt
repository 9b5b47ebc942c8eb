use Rattle.std.proofs.Common.{Ok, refl, subst}
use Rattle.syntax_lexer.specs.declared.token.Sign.TheVariants as s
use Rattle.syntax_trees.specs.Returned.{ahead}
use Rattle.syntax_statements.specs.Parse.{ended, closed_by}
use Rattle.syntax_statements.specs.Returned.{TakesStatement}
use Rattle.syntax_statements.specs.Views.{statement_tree}
use Rattle.syntax_statements.proofs.Cases.{in_its_box, no_box}
use Rattle.syntax_statements.proofs.parts.do_until.Goals as goal

pub returns-in-Ok : goal.returns-in-Ok
unfolding ended
returns-in-Ok c = subst
    (λ x. TakesStatement c.closed.result c.closed.new.parser (closed_by s.Semicolon x (ahead c.args.parser.now)))
    (in_its_box (Ok (statement_tree c.do_until.result, ahead c.args.parser.now)) refl
    c.in-Ok.ensures c.do_until.ensures) c.closed.ensures

pub returns-in-Err : goal.returns-in-Err
unfolding ended
returns-in-Err c = no_box c.in-Err.e _ _ c.in-Err.ensures
