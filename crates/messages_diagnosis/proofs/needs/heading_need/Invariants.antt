use Rattle.std.proofs.Common.{◌-◌}
use Rattle.syntax_statements.specs.PartViews.{heading_tree}
use Rattle.checker_statements.specs.Walk.{need_of_heading}
use Rattle.messages_diagnosis.proofs.Raising.{IsOnTheWay}
use Rattle.messages_diagnosis.proofs.needs.heading_need.Given as goal

abbrev pub invariant-loop-number : goal.invariant-loop-number
invariant-loop-number l = IsOnTheWay l.most l.least (need_of_heading (heading_tree l.heading)) l.number

abbrev pub decreases-loop-number : goal.decreases-loop-number
decreases-loop-number l = l.most - l.number
