use Rattle.std.proofs.Common.{◌≡◌, map, ◌-◌}
use Rattle.syntax_lexer.specs.declared.token.Sign.TheVariants as s
use Rattle.syntax_trees.specs.Parse.{is_sign, further}
use Rattle.syntax_trees.specs.Returned.{ahead}
use Rattle.syntax_trees.proofs.Loops.{joined}
use Rattle.syntax_statements.specs.PartViews.{item_tree}
use Rattle.syntax_statements.specs.PartParse as spec
use Rattle.syntax_statements.proofs.printing.items.Given as goal

abbrev pub invariant-loop-turn : goal.invariant-loop-turn
invariant-loop-turn l =
    joined (map item_tree l.found.items)
    (further (is_sign s.Comma) (spec.item l.depth) (l._turn-end - l._turn) (ahead l.parser))
    ≡ spec.items l.depth (ahead l.fn.parser)
