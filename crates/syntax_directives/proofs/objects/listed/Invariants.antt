use Rattle.std.proofs.Common.{◌≡◌, map, ◌-◌}
use Rattle.syntax_trees.specs.Returned.{ahead}
use Rattle.syntax_trees.specs.Parse.{as_long}
use Rattle.syntax_trees.proofs.Loops.{joined}
use Rattle.syntax_directives.specs.Views.{property_tree}
use Rattle.syntax_directives.specs.Parse as spec
use Rattle.syntax_directives.proofs.objects.listed.Given as goal

abbrev pub invariant-loop-turn : goal.invariant-loop-turn
invariant-loop-turn l =
    joined (map property_tree l.found.items)
    (as_long spec.lists_further spec.next_prop (l._turn-end - l._turn) (ahead l.parser))
    ≡ spec.props (ahead l.fn.parser)
