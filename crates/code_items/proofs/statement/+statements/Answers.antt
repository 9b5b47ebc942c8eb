use Rattle.std.proofs.Common.{◌≡◌, ℕ, ◌+◌, ◌-◌, ◌<◌, Bool, List, [], Option, length, map, drop, refl, sym, subst}
use Rattle.std.proofs.Common.{arith}
use Rattle.std.specs.Global.{Vec}
use Rattle.std.specs.Option.{option_map}
use Rattle.meaning.specs.declared.resolved.Action as code_action
use Rattle.meaning.specs.declared.resolved.Value as code_value
use Rattle.meaning.specs.declared.resolved.Span.{Span}
use Rattle.meaning.specs.Resolved.{Action, CasesOf, while_do, do_until, for_loop, switch_on, give_to, each_object}
use Rattle.meaning.specs.Resolved.{each_where, each_in, move_to}
use Rattle.meaning.specs.Views.{value_of, range_of, action_of, actions_of, case_of, cases_of, other_of, boxed_value}
use Rattle.code_drafts.specs.Writing.{written_in, WritesBefore}
use Rattle.code_items.specs.Statements.{action_items, actions_items, cases_items, groups_of, tests_items, action_count}
use Rattle.code_items.specs.declared.exits.Exits.{Exits}
use Rattle.code_items.specs.Writing.{exits_of, LeavesCases}
use Rattle.code_items.proofs.Trees.{while_is, do_is, for_is, switch_is, return_is, give_is, move_is, remove_is, each_is}
use Rattle.code_items.proofs.Trees.{each_where_is, each_in_is}
use Rattle.code_items.proofs.Rounds.{do_by_jump, do_by_test, do_turns, for_more, each_more, each_where_more, each_in_more}
use Rattle.code_items.proofs.StatementCounts.{action_length}
use Rattle.code_items.proofs.SwitchCases.{case_leaves, case_next, cases_all, switch_more}
use Rattle.code_items.proofs.Actions.{if_more, else_more, while_more, action_next, on_ok}
use Rattle.code_items.proofs.statement.+statements.Goals as goal

pub put_statements-loop-done-preserved : goal.put_statements-loop-done-preserved
put_statements-loop-done-preserved t c =
    let xs = c.args.statements.now in
    let i = length xs - 1 - c.loop-done.done in
    let lt : c.loop-done.done < length xs = c.loop-done-test.true in
    let P : ℕ → Type 0 = λ k. WritesBefore (written_in c.args.draft.now) (written_in c.loop-done.draft)
    (λ n at. actions_items (exits_of n c.args.exits) at (actions_of (map action_of (drop k xs)))) in
    let Q : ℕ → Type 0 = λ k. WritesBefore (written_in c.args.draft.now) (written_in c.put_statement.new.draft)
    (λ n at. actions_items (exits_of n c.args.exits) at (actions_of (map action_of (drop k xs)))) in
    let before : length xs - c.loop-done.done ≡ i + 1 = omega (arith, lt) in
    let after : i ≡ length xs - (c.loop-done.done + 1) = omega arith in
    subst Q after (action_next _ _ _ c.args.exits xs i _ (omega (arith, lt)) c.index-statements-statements.is
    (subst P before c.loop-done.invariant) c.in-Ok.ensures)

pub put_if-returns : goal.put_if-returns
put_if-returns t c = on_ok c.put_value.result (if_more _ _ _ c.args.exits (value_of c.args.test.now)
    (action_of c.args.then.now) c.item_count-end.result c.item_count-end.ensures c.in-Ok.ensures) c.put_value.ensures

pub put_while-returns : goal.put_while-returns
put_while-returns t c =
    while_more _ _ _ _ _ (value_of c.args.test.now) (action_of c.args.body.now) _ c.item_count-after.ensures
    c.in-Ok.ensures c.item_count.ensures c.in-Ok-put_statement.ensures c.in-Ok-put_value.ensures c.lead_back.ensures

pub put_if_else-returns : goal.put_if_else-returns
put_if_else-returns t c = on_ok c.put_value.result
    (else_more _ _ _ _ _ c.args.exits (value_of c.args.test.now) (action_of c.args.then.now)
    (action_of c.args.otherwise.now) c.item_count-end.result c.item_count-next.result c.item_count-end.ensures
    c.in-Ok.ensures c.item_count-next.ensures c.in-Ok-put.ensures c.in-Ok-put_statement.ensures) c.put_value.ensures

pub put_statement-returns-in-While : goal.put_statement-returns-in-While
put_statement-returns-in-While t c = on_ok c.put_while.result (λ w.
    let x = c.in-While in
    let P : Action → Type 0 = λ a. WritesBefore (written_in c.args.draft.now) (written_in c.put_while.new.draft)
    (λ n at. action_items (exits_of n c.args.exits) at a) in
    let Q : code_value.Value → code_action.Action → Type 0 =
    λ e s. WritesBefore (written_in c.args.draft.now) (written_in c.put_while.new.draft)
    (λ n at. action_items (exits_of n c.args.exits) at (while_do (value_of e) (action_of s))) in
    subst P (sym (while_is _ _ _ x.is)) (subst
    (λ (e : code_value.Value). Q e x.body.value) c.deref-in-While-2.ensures
    (subst (Q _) c.deref-in-While.ensures (w c.args.exits)))) c.put_while.ensures

pub put_statement-returns-in-ReturnValue : goal.put_statement-returns-in-ReturnValue
put_statement-returns-in-ReturnValue t c = on_ok c.put_return.result (λ w.
    let x = c.in-ReturnValue in
    let P : Action → Type 0 = λ a. WritesBefore (written_in c.args.draft.now) (written_in c.put_return.new.draft)
    (λ n at. action_items (exits_of n c.args.exits) at a) in
    subst P (sym (return_is _ _ x.is)) (w c.args.exits)) c.put_return.ensures

pub put_do_by_jump-returns : goal.put_do_by_jump-returns
put_do_by_jump-returns t c = do_by_jump _ _ _ _ _ (value_of c.args.test.now) (action_of c.args.body.now) _
    c.requires c.item_count-end.ensures c.in-Ok.ensures c.in-Ok-put_value.ensures c.item_count.ensures
    c.in-Ok-put_statement.ensures c.lead_back.ensures

pub put_do_by_test-turn_back-requires : goal.put_do_by_test-turn_back-requires
put_do_by_test-turn_back-requires t c = do_turns _ _ _ (value_of c.args.test.now) (action_of c.args.body.now) _ _
    c.requires c.item_count-end.ensures c.in-Ok.ensures c.in-Ok-put_statement.ensures

pub put_do_by_test-returns : goal.put_do_by_test-returns
put_do_by_test-returns t c = do_by_test _ _ _ _ (value_of c.args.test.now) (action_of c.args.body.now) _
    c.requires c.item_count-end.ensures c.in-Ok.ensures c.item_count.ensures c.in-Ok-put_statement.ensures
    c.turn_back.ensures

pub put_for-returns : goal.put_for-returns
put_for-returns t c = on_ok c.put_once-2.result (for_more _ _ _ _ _ _ _ (option_map boxed_value c.args.before.now)
    (option_map boxed_value c.args.test.now) (option_map boxed_value c.args.after.now) (action_of c.args.body.now) _
    c.item_count-end.ensures c.in-Ok.ensures c.in-Ok-put_once.ensures c.item_count.ensures
    c.in-Ok-put_statement.ensures c.in-Ok-put_test.ensures c.lead_back.ensures) c.put_once-2.ensures

pub put_case-returns : goal.put_case-returns
put_case-returns t c =
    let old = c.args.draft.now in
    let over = c.put_over.new.draft in
    let body = c.put_statements.new.draft in
    let P : List code_action.Action → Type 0 = λ l. WritesBefore (written_in over) (written_in body)
    (λ n at. actions_items (exits_of n c.args.exits) at (actions_of (map action_of l))) in
    let Q : List Span → Type 0 = λ l. WritesBefore (written_in body) (written_in c.put_tests.new.draft)
    (λ n at. tests_items at (groups_of (map range_of l)) (n - c.item_count-inside.result) (n - c.item_count-after.result)) in
    on_ok c.put_tests.result
    (λ w. case_leaves old over body c.put_tests.new.draft c.args.exits c.args.case.now c.args.end
    c.item_count-inside.result c.item_count-after.result c.item_count-after.ensures c.in-Ok.ensures
    (subst P c.deref.ensures.value c.in-Ok-put_statements.ensures) c.item_count-inside.ensures
    (subst Q c.deref-2.ensures.value w)) c.put_tests.ensures

pub put_cases-loop-done-preserved : goal.put_cases-loop-done-preserved
put_cases-loop-done-preserved t c =
    let xs = c.args.cases.now in
    let i = length xs - 1 - c.loop-done.done in
    let lt : c.loop-done.done < length xs = c.loop-done-test.true in
    let P : ℕ → Type 0 = λ k. LeavesCases c.args.draft.now c.loop-done.draft c.args.exits (drop k xs) c.args.end in
    let Q : ℕ → Type 0 = λ k. LeavesCases c.args.draft.now c.put_case.new.draft c.args.exits (drop k xs) c.args.end in
    let before : length xs - c.loop-done.done ≡ i + 1 = omega (arith, lt) in
    let after : i ≡ length xs - (c.loop-done.done + 1) = omega arith in
    subst Q after (case_next c.args.draft.now c.loop-done.draft c.put_case.new.draft c.args.exits xs i _ c.args.end
    (omega (arith, lt)) c.index-cases-cases.is (subst P before c.loop-done.invariant) c.in-Ok.ensures)

pub put_switch-returns : goal.put_switch-returns
put_switch-returns t c =
    let old = c.args.draft.now in
    let end = c.item_count-end.result in
    let inside : Exits = record { breaks = end; continues = c.args.exits.continues } in
    let cs = map case_of c.args.cases.now.0.items in
    let other = other_of c.args.cases.now.1 in
    let P : CasesOf → Type 0 = λ l. WritesBefore (written_in old) (written_in c.put_cases.new.draft)
    (λ n at. cases_items (exits_of n inside) at l (n - end)) in
    let R : List (Vec Span × Vec code_action.Action) → Type 0 =
    λ l. LeavesCases c.put_other.new.draft c.put_cases.new.draft inside l end in
    on_ok c.put_value.result
    (switch_more _ _ _ c.args.exits (value_of c.args.value.now) (cases_of cs other) inside c.item_count-end.ensures refl
    (subst P (cases_all cs other) (subst R c.deref.ensures.value c.in-Ok-put_cases.ensures (written_in old)
    (cases_of [] other)
    (sym c.item_count-end.ensures) (c.in-Ok.ensures end)))) c.put_value.ensures

pub put_statement-returns-in-Do : goal.put_statement-returns-in-Do
put_statement-returns-in-Do t c = on_ok c.put_do.result (λ w.
    let x = c.in-Do in
    let P : Action → Type 0 = λ a. WritesBefore (written_in c.args.draft.now) (written_in c.put_do.new.draft)
    (λ n at. action_items (exits_of n c.args.exits) at a) in
    let Q : code_value.Value → code_action.Action → Type 0 =
    λ e s. WritesBefore (written_in c.args.draft.now) (written_in c.put_do.new.draft)
    (λ n at. action_items (exits_of n c.args.exits) at (do_until (action_of s) (value_of e))) in
    subst P (sym (do_is _ _ _ x.is)) (subst
    (λ (e : code_value.Value). Q e x.body.value) c.deref-in-Do-2.ensures
    (subst (Q _) c.deref-in-Do.ensures (w c.args.exits)))) c.put_do.ensures

pub put_statement-returns-in-For : goal.put_statement-returns-in-For
put_statement-returns-in-For t c = on_ok c.put_for.result (λ w.
    let x = c.in-For in
    let P : Action → Type 0 = λ a. WritesBefore (written_in c.args.draft.now) (written_in c.put_for.new.draft)
    (λ n at. action_items (exits_of n c.args.exits) at a) in
    let Q : code_action.Action → Type 0 =
    λ s. WritesBefore (written_in c.args.draft.now) (written_in c.put_for.new.draft)
    (λ n at. action_items (exits_of n c.args.exits) at (for_loop (option_map boxed_value x.before)
    (option_map boxed_value x.test) (option_map boxed_value x.after) (action_of s))) in
    subst P (sym (for_is _ _ _ _ _ x.is)) (subst Q c.deref-in-For.ensures
    (w c.args.exits))) c.put_for.ensures

pub put_statement-returns-in-Switch : goal.put_statement-returns-in-Switch
put_statement-returns-in-Switch t c = on_ok c.put_switch.result (λ w.
    let x = c.in-Switch in
    let P : Action → Type 0 = λ a. WritesBefore (written_in c.args.draft.now) (written_in c.put_switch.new.draft)
    (λ n at. action_items (exits_of n c.args.exits) at a) in
    let Q : code_value.Value → Vec (Vec Span × Vec code_action.Action) × Option (Vec code_action.Action) → Type 0 =
    λ e l. WritesBefore (written_in c.args.draft.now) (written_in c.put_switch.new.draft)
    (λ n at. action_items (exits_of n c.args.exits) at (switch_on (value_of e)
    (cases_of (map case_of l.0.items) (other_of l.1)))) in
    subst P (sym (switch_is _ _ _ x.is)) (subst
    (λ (e : code_value.Value). Q e x.cases.value) c.deref-in-Switch-2.ensures
    (subst (Q _) c.deref-in-Switch.ensures w))) c.put_switch.ensures

-- Objects

pub put_each-returns : goal.put_each-returns
put_each-returns t c =
    let a = action_of c.args.body.now in
    let next = c.in-Ok.ensures in
    on_ok c.put.result
    (λ w y. each_more _ _ _ _ _ c.args.variable (action_count a) (λ inside place. action_items inside place a)
    c.in-Ok.inside c.item_count-end.result (λ e at. action_length e a at) c.item_count-end.ensures next.0 next.1
    next.2 c.in-Ok-put_statement.ensures c.lead_back.ensures w) c.put.ensures

pub put_each_where-returns : goal.put_each_where-returns
put_each_where-returns t c =
    let next = c.in-Ok.ensures in
    on_ok c.put.result
    (each_where_more _ _ _ _ _ _ c.args.variable (value_of c.args.test.now) (action_of c.args.body.now)
    c.in-Ok.inside c.item_count-end.result c.item_count-end.ensures next.0 next.1 next.2
    c.in-Ok-put_statement.ensures c.in-Ok-put_value.ensures c.lead_back.ensures) c.put.ensures

pub put_each_in-returns : goal.put_each_in-returns
put_each_in-returns t c =
    on_ok c.put_operand.result
    (each_in_more _ _ _ _ _ _ _ c.args.variable _ (value_of c.args.parent.now) (action_of c.args.body.now) _
    c.item_count-end.ensures c.in-Ok.ensures c.in-Ok-put_kin.ensures c.item_count.ensures c.in-Ok-put_statement.ensures
    c.lead_back.ensures c.alone-operand.ensures c.in-Ok-put_kin-2.ensures) c.put_operand.ensures

pub put_statement-returns-in-Give : goal.put_statement-returns-in-Give
put_statement-returns-in-Give t c = on_ok c.put_give.result (λ w.
    let x = c.in-Give in
    let P : Action → Type 0 = λ a. WritesBefore (written_in c.args.draft.now) (written_in c.put_give.new.draft)
    (λ n at. action_items (exits_of n c.args.exits) at a) in
    let Q : code_value.Value → List (Bool × ℕ) → Type 0 =
    λ e l. WritesBefore (written_in c.args.draft.now) (written_in c.put_give.new.draft)
    (λ n at. action_items (exits_of n c.args.exits) at (give_to (value_of e) l)) in
    subst P (sym (give_is _ _ _ x.is)) (subst
    (λ (e : code_value.Value). Q e x.changes.items) c.deref-in-Give.ensures
    (subst (Q _) c.deref-in-Give-2.ensures.value (w c.args.exits)))) c.put_give.ensures

pub put_statement-returns-in-Move : goal.put_statement-returns-in-Move
put_statement-returns-in-Move t c = on_ok c.put_move.result (λ w.
    let P : Action → Type 0 = λ a. WritesBefore (written_in c.args.draft.now) (written_in c.put_move.new.draft)
    (λ n at. action_items (exits_of n c.args.exits) at a) in
    let Q : code_value.Value → code_value.Value → Type 0 =
    λ e d. WritesBefore (written_in c.args.draft.now) (written_in c.put_move.new.draft)
    (λ n at. action_items (exits_of n c.args.exits) at (move_to (value_of e) (value_of d))) in
    subst P (sym (move_is _ _ _ c.in-Move.is)) (subst
    (λ (e : code_value.Value). Q e c.in-Move.into.value) c.deref-in-Move.ensures
    (subst (Q _) c.deref-in-Move-2.ensures (w c.args.exits)))) c.put_move.ensures

pub put_statement-returns-in-Remove : goal.put_statement-returns-in-Remove
put_statement-returns-in-Remove t c = on_ok c.put_remove.result (λ w.
    let P : Action → Type 0 = λ a. WritesBefore (written_in c.args.draft.now) (written_in c.put_remove.new.draft)
    (λ n at. action_items (exits_of n c.args.exits) at a) in
    subst P (sym (remove_is _ _ c.in-Remove.is)) (w c.args.exits)) c.put_remove.ensures

pub put_statement-returns-in-EachObject : goal.put_statement-returns-in-EachObject
put_statement-returns-in-EachObject t c = on_ok c.put_each.result (λ w.
    let x = c.in-EachObject in
    let P : Action → Type 0 = λ a. WritesBefore (written_in c.args.draft.now) (written_in c.put_each.new.draft)
    (λ n at. action_items (exits_of n c.args.exits) at a) in
    let Q : code_action.Action → Type 0 =
    λ s. WritesBefore (written_in c.args.draft.now) (written_in c.put_each.new.draft)
    (λ n at. action_items (exits_of n c.args.exits) at (each_object x.variable (action_of s))) in
    subst P (sym (each_is _ _ _ x.is)) (subst Q c.deref-in-EachObject.ensures
    (w c.args.exits))) c.put_each.ensures

pub put_statement-returns-in-EachWhere : goal.put_statement-returns-in-EachWhere
put_statement-returns-in-EachWhere t c = on_ok c.put_each_where.result (λ w.
    let x = c.in-EachWhere in
    let P : Action → Type 0 = λ a. WritesBefore (written_in c.args.draft.now) (written_in c.put_each_where.new.draft)
    (λ n at. action_items (exits_of n c.args.exits) at a) in
    let Q : code_value.Value → code_action.Action → Type 0 =
    λ e s. WritesBefore (written_in c.args.draft.now) (written_in c.put_each_where.new.draft)
    (λ n at. action_items (exits_of n c.args.exits) at (each_where x.variable (value_of e) (action_of s))) in
    subst P (sym (each_where_is _ _ _ _ x.is)) (subst
    (λ (e : code_value.Value). Q e x.body.value) c.deref-in-EachWhere-2.ensures
    (subst (Q _) c.deref-in-EachWhere.ensures (w c.args.exits)))) c.put_each_where.ensures

pub put_statement-returns-in-EachIn : goal.put_statement-returns-in-EachIn
put_statement-returns-in-EachIn t c = on_ok c.put_each_in.result (λ w.
    let x = c.in-EachIn in
    let P : Action → Type 0 = λ a. WritesBefore (written_in c.args.draft.now) (written_in c.put_each_in.new.draft)
    (λ n at. action_items (exits_of n c.args.exits) at a) in
    let Q : code_value.Value → code_action.Action → Type 0 =
    λ e s. WritesBefore (written_in c.args.draft.now) (written_in c.put_each_in.new.draft)
    (λ n at. action_items (exits_of n c.args.exits) at (each_in x.variable (value_of e) (action_of s))) in
    subst P (sym (each_in_is _ _ _ _ x.is)) (subst
    (λ (e : code_value.Value). Q e x.body.value) c.deref-in-EachIn-2.ensures
    (subst (Q _) c.deref-in-EachIn.ensures (w c.args.exits)))) c.put_each_in.ensures
