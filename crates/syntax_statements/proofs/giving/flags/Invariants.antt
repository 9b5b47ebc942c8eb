use Rattle.std.proofs.Common.{◌≡◌, map, ◌-◌}
use Rattle.syntax_trees.specs.Returned.{ahead}
use Rattle.syntax_trees.specs.Parse as reading
use Rattle.syntax_trees.proofs.Loops.{joined}
use Rattle.syntax_statements.specs.PartViews.{flag_tree}
use Rattle.syntax_statements.specs.PartParse as parts
use Rattle.syntax_statements.proofs.giving.flags.Given as goal

abbrev pub invariant-loop-turn : goal.invariant-loop-turn
invariant-loop-turn l =
    joined (map flag_tree l.found.items)
    (reading.repeated parts.begins_flag parts.flag (l._turn-end - l._turn) (ahead l.parser))
    ≡ parts.flags (ahead l.fn.parser)
