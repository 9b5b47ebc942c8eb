use Rattle.std.proofs.Common.{◌≡◌, ◌+◌, ◌-◌, ◌*◌, max, drop, nat_le}
use Rattle.std.specs.Prelude.{map}
use Rattle.syntax_trees.specs.declared.tree.Expression.{size-Expression}
use Rattle.meaning.specs.Limits.{operands}
use Rattle.checker_values.specs.Temporaries.{greatest}
use Rattle.checker_values.proofs.Needs.{operand_needs, link_need}
use Rattle.checker_values.proofs.temporaries.+fits.Given as goal

abbrev pub decreases-fits : goal.decreases-fits
decreases-fits l = 4 * goal.size-fits l

abbrev pub decreases-both_fit : goal.decreases-both_fit
decreases-both_fit l = 4 * max (size-Expression l.first.now) (size-Expression l.second.now) + 1

abbrev pub decreases-assignment_fits : goal.decreases-assignment_fits
decreases-assignment_fits l = 4 * max (size-Expression l.left.now) (size-Expression l.right.now) + 2

abbrev pub decreases-operands_fit : goal.decreases-operands_fit
decreases-operands_fit l = 4 * goal.size-operands_fit l + 1

abbrev pub decreases-links_fit : goal.decreases-links_fit
decreases-links_fit l = 4 * goal.size-links_fit l + 1

abbrev pub invariant-operands_fit-loop-operand : goal.invariant-operands_fit-loop-operand
invariant-operands_fit-loop-operand l = record {
  room : l.left ≡ l.room - (l.before + l.operand-index);
  same : nat_le (operands (l.before + l.operand-index) (operand_needs (drop l.operand-index l.given))) l.room
      ≡ nat_le (operands l.before (operand_needs l.given)) l.room;
}

abbrev pub invariant-links_fit-loop-link : goal.invariant-links_fit-loop-link
invariant-links_fit-loop-link l = nat_le (greatest (map link_need (drop l.link-index l.links))) (l.room - 1)
    ≡ nat_le (greatest (map link_need l.links)) (l.room - 1)
