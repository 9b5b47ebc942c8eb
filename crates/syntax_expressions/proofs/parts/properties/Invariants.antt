use Rattle.std.proofs.Common.{◌≡◌, ◌-◌, length}
use Rattle.syntax_trees.specs.Tree.{property}
use Rattle.syntax_trees.specs.Views.{expression_tree, name_tree, propertied}
use Rattle.syntax_trees.specs.Returned.{ahead}
use Rattle.syntax_expressions.specs.PartParse as spec
use Rattle.syntax_expressions.proofs.parts.properties.Given as goal

abbrev pub invariant-loop-turn : goal.invariant-loop-turn
invariant-loop-turn l =
    spec.properties (l.turns - l._turn)
    (propertied (property (expression_tree l.owner.value) (name_tree l.first)) l.others.items) (ahead l.parser)
    ≡ spec.properties (length (ahead l.fn.parser)) (expression_tree l.owner.value) (ahead l.fn.parser)
