use Rattle.std.proofs.Common.{◌≡◌, map, ◌+◌, ◌-◌, ◌*◌}
use Rattle.syntax_trees.specs.Returned.{ahead}
use Rattle.syntax_trees.specs.Parse as reading
use Rattle.syntax_trees.proofs.Loops.{joined}
use Rattle.syntax_statements.specs.PartParse as parts
use Rattle.syntax_statements.specs.Nesting.{begins_statement, begins_in_case}
use Rattle.syntax_statements.specs.Views.{statement_tree, case_tree}
use Rattle.syntax_statements.specs.Parse as spec
use Rattle.syntax_directives.proofs.nested.+statement.Given as goal

abbrev pub decreases-statements : goal.decreases-statements
decreases-statements l = 8 * l.depth + 8

abbrev pub decreases-add_next : goal.decreases-add_next
decreases-add_next l = 8 * l.depth + 7

abbrev pub decreases-add_inside : goal.decreases-add_inside
decreases-add_inside l = 8 * l.depth

abbrev pub decreases-statement : goal.decreases-statement
decreases-statement l = 8 * l.depth + 6

abbrev pub decreases-braces : goal.decreases-braces
decreases-braces l = 8 * l.depth

abbrev pub decreases-block : goal.decreases-block
decreases-block l = 8 * l.depth + 5

abbrev pub decreases-further_in : goal.decreases-further_in
decreases-further_in l = 8 * l.depth

abbrev pub decreases-choice : goal.decreases-choice
decreases-choice l = 8 * l.depth + 5

abbrev pub decreases-repetition : goal.decreases-repetition
decreases-repetition l = 8 * l.depth + 5

abbrev pub decreases-do_body : goal.decreases-do_body
decreases-do_body l = 8 * l.depth + 1

abbrev pub decreases-until : goal.decreases-until
decreases-until l = 8 * l.depth + 5

abbrev pub decreases-iteration : goal.decreases-iteration
decreases-iteration l = 8 * l.depth + 5

abbrev pub decreases-traversal : goal.decreases-traversal
decreases-traversal l = 8 * l.depth + 5

abbrev pub decreases-bodies : goal.decreases-bodies
decreases-bodies l = 8 * l.depth + 1

abbrev pub decreases-one_case : goal.decreases-one_case
decreases-one_case l = 8 * l.depth + 2

abbrev pub decreases-cases : goal.decreases-cases
decreases-cases l = 8 * l.depth + 3

abbrev pub decreases-otherwise : goal.decreases-otherwise
decreases-otherwise l = 8 * l.depth + 1

abbrev pub decreases-selection : goal.decreases-selection
decreases-selection l = 8 * l.depth + 5

abbrev pub invariant-statements-loop-turn : goal.invariant-statements-loop-turn
invariant-statements-loop-turn l =
    joined (map statement_tree l.found.items)
    (reading.repeated begins_statement (spec.statement l.depth) (l._turn-end - l._turn) (ahead l.parser))
    ≡ spec.statements l.depth (ahead l.fn.parser)

abbrev pub invariant-bodies-loop-turn : goal.invariant-bodies-loop-turn
invariant-bodies-loop-turn l =
    joined (map statement_tree l.found.items)
    (reading.as_long begins_in_case (spec.inside l.inside) (l._turn-end - l._turn) (ahead l.parser))
    ≡ spec.bodies l.depth (ahead l.fn.parser)

abbrev pub invariant-cases-loop-turn : goal.invariant-cases-loop-turn
invariant-cases-loop-turn l =
    joined (map case_tree l.found.items)
    (reading.repeated parts.begins_value (spec.one_case (spec.bodies l.depth)) (l._turn-end - l._turn) (ahead l.parser))
    ≡ spec.cases (spec.bodies l.depth) (ahead l.fn.parser)
