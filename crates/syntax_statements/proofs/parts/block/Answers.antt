use Rattle.std.proofs.Common.{Ok, refl, subst}
use Rattle.syntax_lexer.specs.declared.token.Sign.TheVariants as s
use Rattle.syntax_trees.specs.Returned.{ahead}
use Rattle.syntax_statements.specs.Parse.{closed_by}
use Rattle.syntax_statements.specs.Returned.{TakesStatement}
use Rattle.syntax_statements.specs.Views.{statement_tree}
use Rattle.syntax_statements.proofs.Cases.{in_its_box, no_box}
use Rattle.syntax_statements.proofs.parts.block.Goals as goal

pub returns-in-Ok : goal.returns-in-Ok
returns-in-Ok c = subst
    (λ x. TakesStatement c.closed.result c.closed.new.parser (closed_by s.CloseBrace x (ahead c.args.parser.now)))
    (in_its_box (Ok (statement_tree c.block.result, ahead c.args.parser.now)) refl
    c.in-Ok.ensures c.block.ensures) c.closed.ensures

pub returns-in-Err : goal.returns-in-Err
returns-in-Err c = no_box c.in-Err.e _ _ c.in-Err.ensures
