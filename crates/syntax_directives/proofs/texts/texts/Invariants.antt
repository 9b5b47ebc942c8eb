use Rattle.std.proofs.Common.{◌≡◌, map, ◌-◌}
use Rattle.syntax_trees.specs.Returned.{ahead}
use Rattle.syntax_trees.specs.Parse.{repeated}
use Rattle.syntax_trees.proofs.Loops.{joined}
use Rattle.syntax_directives.specs.Views.{text_tree}
use Rattle.syntax_directives.specs.Parse as spec
use Rattle.syntax_directives.proofs.texts.texts.Given as goal

abbrev pub invariant-loop-turn : goal.invariant-loop-turn
invariant-loop-turn l =
    joined (map text_tree l.found.items)
    (repeated spec.is_text spec.one_text (l._turn-end - l._turn) (ahead l.parser))
    ≡ spec.texts (ahead l.fn.parser)
