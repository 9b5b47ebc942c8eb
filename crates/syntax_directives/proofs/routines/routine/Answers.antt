use Rattle.syntax_trees.specs.Returned.{ahead}
use Rattle.syntax_directives.proofs.RoutineParts.{routine_unheaded, routine_unclosed}
use Rattle.syntax_directives.proofs.routines.routine.Goals as goal

pub returns-in-Ok : goal.returns-in-Ok
returns-in-Ok c = routine_unclosed c.args.depth (ahead c.args.parser.now) c.in-Err-body.e _ _ _ _ c.pass.ensures
    c.in-Ok.ensures c.in-Err-body.ensures

pub returns : goal.returns
returns c = routine_unheaded c.args.depth (ahead c.args.parser.now) c.in-Err.e _ c.pass.ensures c.in-Err.ensures
