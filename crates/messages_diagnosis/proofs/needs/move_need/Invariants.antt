use Rattle.std.proofs.Common.{◌-◌}
use Rattle.syntax_trees.specs.Views.{expression_tree}
use Rattle.checker_statements.specs.Statements.{move_need}
use Rattle.messages_diagnosis.proofs.Raising.{IsOnTheWay}
use Rattle.messages_diagnosis.proofs.needs.move_need.Given as goal

abbrev pub invariant-loop-number : goal.invariant-loop-number
invariant-loop-number l =
    IsOnTheWay l.most l.least (move_need (expression_tree l.object) (expression_tree l.parent)) l.number

abbrev pub decreases-loop-number : goal.decreases-loop-number
decreases-loop-number l = l.most - l.number
