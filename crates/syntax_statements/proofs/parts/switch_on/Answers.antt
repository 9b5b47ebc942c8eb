use Rattle.std.proofs.Common.{subst}
use Rattle.std.specs.Prelude.{map}
use Rattle.std.specs.Global.{Vec}
use Rattle.syntax_trees.specs.Views.{expression_tree}
use Rattle.syntax_trees.specs.Returned.{ahead}
use Rattle.syntax_statements.specs.declared.part_tree.Range.{Range}
use Rattle.std.specs.Prelude.{Option}
use Rattle.syntax_statements.specs.declared.tree.Statement.{Statement}
use Rattle.syntax_statements.specs.Parse.{switch_of}
use Rattle.syntax_statements.specs.Returned.{TakesStatement}
use Rattle.syntax_statements.specs.Views.{case_tree, other_tree}
use Rattle.syntax_statements.proofs.parts.switch_on.Goals as goal

-- what is in the box may be named
pub returns-in-Ok : goal.returns-in-Ok
returns-in-Ok c = subst
    (λ (x : Vec (Vec Range × Vec Statement) × Option (Vec Statement)).
    TakesStatement c.switch_over.result c.switch_over.new.parser
    (switch_of c.args.position (expression_tree c.args.value.value) (map case_tree x.0.items) (other_tree x.1)
    (ahead c.args.parser.now))) c.in-Ok.ensures.ok c.switch_over.ensures
