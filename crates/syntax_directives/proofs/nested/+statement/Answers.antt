use Rattle.std.proofs.Common.{◌-◌, length, map, sym, ap, ◌∙◌, arith}
use Rattle.syntax_trees.specs.Parse.{tail}
use Rattle.syntax_trees.proofs.Failing.{part_fails}
use Rattle.syntax_trees.specs.Returned.{ahead}
use Rattle.syntax_trees.proofs.Loops.{repeated_out, repeated_done, repeated_more, repeated_fails, as_long_out}
use Rattle.syntax_trees.proofs.Loops.{as_long_done}
use Rattle.syntax_statements.specs.PartParse.{begins_value}
use Rattle.syntax_statements.specs.Nesting.{begins_statement, begins_in_case}
use Rattle.syntax_statements.specs.Rows.{contains_statements}
use Rattle.syntax_statements.specs.Views.{statement_tree, case_tree}
use Rattle.syntax_statements.specs.Parse.{one_case, statement, inside, braces, bodies}
use Rattle.syntax_statements.proofs.Cases.{block_after, block_read, repetition_made, iteration_made, traversal_made}
use Rattle.syntax_statements.proofs.Cases.{otherwise_default, otherwise_made, otherwise_uncoloned, selection_made}
use Rattle.syntax_statements.proofs.Inside.{bodies_begun, inside_more}
use Rattle.syntax_statements.proofs.Rows.{as_long_adds, as_long_stops, repeated_adds, repeated_stops, after_fails}
use Rattle.syntax_statements.proofs.Rows.{inside_none, statement_flat}
use Rattle.syntax_directives.proofs.nested.+statement.Goals as goal
use Rattle.syntax_directives.proofs.nested.+statement.Goals.{statements-else-loop-turn-test}
use Rattle.syntax_directives.proofs.nested.+statement.Goals.{statements-then-loop-turn-test+then-not-begins_statement}
use Rattle.syntax_directives.proofs.nested.+statement.Goals.{bodies-else-loop-turn-test}
use Rattle.syntax_directives.proofs.nested.+statement.Goals.{bodies-then-loop-turn-test+then-not-begins_in_case}
use Rattle.syntax_directives.proofs.nested.+statement.Goals.{cases-else-loop-turn-test}
use Rattle.syntax_directives.proofs.nested.+statement.Goals.{cases-then-loop-turn-test+then-not-begins_value}

pub block-returns-in-Ok : goal.block-returns-in-Ok
block-returns-in-Ok t c = rw (block_read (braces c.args.depth) _ _ _ _ c.in-Ok.ensures) c.block.ensures

pub block-returns-in-Err : goal.block-returns-in-Err
block-returns-in-Err t c = part_fails c.in-Err.e _ _ _ c.in-Err.ensures
    (block_after (braces c.args.depth) _ (tail (ahead c.args.parser.now)))

pub repetition-returns-in-Ok : goal.repetition-returns-in-Ok
repetition-returns-in-Ok t c = rw
    (repetition_made c.args.depth (inside c.args.depth) c.args.position (ahead c.args.parser.now) _ _
    c.in_ok-condition.ensures.gives _ _ c.in-Ok.ensures) c.while_do.ensures

pub iteration-returns-in-Ok : goal.iteration-returns-in-Ok
iteration-returns-in-Ok t c = rw
    (iteration_made c.args.depth (inside c.args.depth) c.args.position (ahead c.args.parser.now) _ _ _ _
    c.in_ok-heading.ensures.gives c.in-Ok.ensures) c.for_loop.ensures

pub traversal-returns-in-Ok : goal.traversal-returns-in-Ok
traversal-returns-in-Ok t c = rw
    (traversal_made c.args.depth (inside c.args.depth) c.args.position (ahead c.args.parser.now) _ _ _ _
    c.in_ok-over.ensures.gives c.in-Ok.ensures) c.loop_over.ensures

pub otherwise-returns-then-not-is_sign : goal.otherwise-returns-then-not-is_sign
otherwise-returns-then-not-is_sign t c = rw c.fault_at.ensures
    (otherwise_uncoloned (braces c.args.depth) (ahead c.args.parser.now) _ (grind arith) c.pass.ensures (grind arith))

pub otherwise-returns-in-Ok : goal.otherwise-returns-in-Ok
otherwise-returns-in-Ok t c = otherwise_made (braces c.args.depth) (ahead c.args.parser.now) _ (grind arith)
    c.pass.ensures _ _ (grind arith) c.in-Ok.ensures

pub otherwise-returns-in-Err : goal.otherwise-returns-in-Err
otherwise-returns-in-Err t c = part_fails c.in-Err.e _ _ _ c.in-Err.ensures
    (otherwise_default (braces c.args.depth) (ahead c.args.parser.now) _ (grind arith) c.pass.ensures (grind arith))

pub selection-returns-in-Ok-otherwise : goal.selection-returns-in-Ok-otherwise
selection-returns-in-Ok-otherwise t c = rw
    (selection_made c.args.depth (braces c.args.depth) (bodies c.args.depth) c.args.position
    (ahead c.args.parser.now) _ _ _ _ _ _ _ c.in_ok-value.ensures.gives c.in_ok-expect.ensures c.in-Ok.ensures
    c.in-Ok-otherwise.ensures) c.switch_on.ensures

pub add_next-returns-then-not-contains_statements : goal.add_next-returns-then-not-contains_statements
add_next-returns-then-not-contains_statements t c = rw
    (statement_flat c.args.depth (ahead c.args.parser.now)
    (ap contains_statements (sym c.peek.ensures) ∙ sym c.contains_statements.ensures
    ∙ c.if-not-contains_statements.true))
    c.add_flat.ensures

pub add_next-returns-in-Ok : goal.add_next-returns-in-Ok
add_next-returns-in-Ok t c = rw c.in-Ok.ensures c.add_boxed.ensures

pub add_next-returns-in-Err : goal.add_next-returns-in-Err
add_next-returns-in-Err t c = after_fails c.in-Err.e _ _ c.in-Err.ensures

pub add_inside-returns-in-Ok : goal.add_inside-returns-in-Ok
add_inside-returns-in-Ok t c = rw
    (inside_more c.args.depth c.in-Ok.inside (ahead c.args.parser.now) c.in-Ok.ensures.opened) c.add_next.ensures

pub add_inside-returns-in-Err : goal.add_inside-returns-in-Err
add_inside-returns-in-Err t c = inside_none c.in-Err.e c.args.depth _ (ahead c.args.parser.now)
    c.in-Err.ensures.refused.0 c.in-Err.ensures.refused.1

pub statements-loop-turn-preserved : goal.statements-loop-turn-preserved
statements-loop-turn-preserved t c =
    sym (repeated_adds begins_statement (statement c.args.depth) (length c.args.parser.now.tokens.now)
    c.loop-turn._turn (map statement_tree c.loop-turn.found.items) _ (ahead c.loop-turn.parser) _
    c.loop-turn-test.true
    (ap begins_statement (sym c.peek.ensures) ∙ sym c.begins_statement.ensures ∙ c.if-not-begins_statement.false)
    c.in-Ok.ensures) ∙ c.loop-turn.invariant

pub statements-returns-in-Err : goal.statements-returns-in-Err
statements-returns-in-Err t c = repeated_stops begins_statement (statement c.args.depth) c.in-Err.e
    (length c.args.parser.now.tokens.now) c.loop-turn._turn (map statement_tree c.loop-turn.found.items)
    (ahead c.loop-turn.parser) _ c.loop-turn-test.true
    (ap begins_statement (sym c.peek.ensures) ∙ sym c.begins_statement.ensures ∙ c.if-not-begins_statement.false)
    c.in-Err.ensures c.loop-turn.invariant

pub bodies-loop-turn-preserved : goal.bodies-loop-turn-preserved
bodies-loop-turn-preserved t c =
    sym (as_long_adds begins_in_case (inside c.in_ok-inside.inside) (length c.args.parser.now.tokens.now)
    c.loop-turn._turn (map statement_tree c.loop-turn.found.items) _ (ahead c.loop-turn.parser) _
    c.loop-turn-test.true (sym c.begins_in_case.ensures ∙ c.if-not-begins_in_case.false) c.in-Ok.ensures)
    ∙ c.loop-turn.invariant

pub bodies-returns-in-Err : goal.bodies-returns-in-Err
bodies-returns-in-Err t c = as_long_stops begins_in_case (inside c.in_ok-inside.inside) c.in-Err.e
    (length c.args.parser.now.tokens.now) c.loop-turn._turn (map statement_tree c.loop-turn.found.items)
    (ahead c.loop-turn.parser) _ c.loop-turn-test.true
    (sym c.begins_in_case.ensures ∙ c.if-not-begins_in_case.false) c.in-Err.ensures c.loop-turn.invariant

pub bodies-loop-turn-init : goal.bodies-loop-turn-init
bodies-loop-turn-init t c = bodies_begun c.args.depth c.in_ok-inside.inside c.new-found.result.items
    c.args.parser.now.tokens.now c.in_ok-inside.ensures.opened c.new-found.ensures.items

pub cases-loop-turn-preserved : goal.cases-loop-turn-preserved
cases-loop-turn-preserved t c = rw c.in_ok-push-in-Ok.ensures.ok
    (sym (repeated_more case_tree begins_value (one_case (bodies c.args.depth)) (length c.args.parser.now.tokens.now)
    c.loop-turn._turn c.loop-turn.found.items (ahead c.loop-turn.parser) c.in-Ok.next
    _ c.loop-turn-test.true
    (ap begins_value (sym c.peek.ensures) ∙ sym c.begins_value.ensures ∙ c.if-not-begins_value.false) c.in-Ok.ensures)
    ∙ c.loop-turn.invariant)

pub cases-returns-in-Err : goal.cases-returns-in-Err
cases-returns-in-Err t c = repeated_fails case_tree begins_value (one_case (bodies c.args.depth)) c.in-Err.e
    (length c.args.parser.now.tokens.now) c.loop-turn._turn c.loop-turn.found.items (ahead c.loop-turn.parser) _
    c.loop-turn-test.true
    (ap begins_value (sym c.peek.ensures) ∙ sym c.begins_value.ensures ∙ c.if-not-begins_value.false)
    c.in-Err.ensures c.loop-turn.invariant

pub cases-returns : goal.cases-returns
cases-returns t c =
    elim c.loop-turn-test.branch [
      | cases-else-loop-turn-test w ↦ sym c.loop-turn.invariant
          ∙ repeated_out case_tree begins_value (one_case (bodies c.args.depth)) (length c.args.parser.now.tokens.now)
          c.loop-turn._turn c.loop-turn.found.items (ahead c.loop-turn.parser) w.loop-turn-test.false
      | cases-then-loop-turn-test+then-not-begins_value w ↦ sym c.loop-turn.invariant
          ∙ repeated_done case_tree begins_value (one_case (bodies c.args.depth))
          (length c.args.parser.now.tokens.now - c.loop-turn._turn) c.loop-turn.found.items (ahead c.loop-turn.parser)
          (ap begins_value (sym w.peek.ensures) ∙ sym w.begins_value.ensures ∙ w.if-not-begins_value.true)
    ]

pub statements-returns : goal.statements-returns
statements-returns t c = rw c.as_kept.ensures
    (elim c.loop-turn-test.branch [
      | statements-else-loop-turn-test w ↦ sym c.loop-turn.invariant
          ∙ repeated_out statement_tree begins_statement (statement c.args.depth)
          (length c.args.parser.now.tokens.now) c.loop-turn._turn c.loop-turn.found.items (ahead c.loop-turn.parser)
          w.loop-turn-test.false
      | statements-then-loop-turn-test+then-not-begins_statement w ↦ sym c.loop-turn.invariant
          ∙ repeated_done statement_tree begins_statement (statement c.args.depth)
          (length c.args.parser.now.tokens.now - c.loop-turn._turn) c.loop-turn.found.items (ahead c.loop-turn.parser)
          (ap begins_statement (sym w.peek.ensures) ∙ sym w.begins_statement.ensures
          ∙ w.if-not-begins_statement.true)
    ])

pub bodies-returns : goal.bodies-returns
bodies-returns t c = rw c.as_kept.ensures
    (elim c.loop-turn-test.branch [
      | bodies-else-loop-turn-test w ↦ sym c.loop-turn.invariant
          ∙ as_long_out statement_tree begins_in_case (inside c.in_ok-inside.inside)
          (length c.args.parser.now.tokens.now) c.loop-turn._turn c.loop-turn.found.items (ahead c.loop-turn.parser)
          w.loop-turn-test.false
      | bodies-then-loop-turn-test+then-not-begins_in_case w ↦ sym c.loop-turn.invariant
          ∙ as_long_done statement_tree begins_in_case (inside c.in_ok-inside.inside)
          (length c.args.parser.now.tokens.now - c.loop-turn._turn) c.loop-turn.found.items (ahead c.loop-turn.parser)
          (sym w.begins_in_case.ensures ∙ w.if-not-begins_in_case.true)
    ])
