use Rattle.std.proofs.Common.{◌≡◌, ◌-◌}
use Rattle.syntax_lexer.specs.declared.token.Sign.TheVariants as s
use Rattle.syntax_trees.specs.Returned.{ahead}
use Rattle.syntax_trees.specs.Parse.{is_sign, repeated}
use Rattle.syntax_trees.proofs.Loops.{joined}
use Rattle.syntax_directives.specs.Parse as spec
use Rattle.syntax_directives.proofs.objects.arrows.Given as goal

abbrev pub invariant-loop-turn : goal.invariant-loop-turn
invariant-loop-turn l =
    joined l.found.items (repeated (is_sign s.Arrow) spec.arrow (l._turn-end - l._turn) (ahead l.parser))
    ≡ spec.arrows (ahead l.fn.parser)
