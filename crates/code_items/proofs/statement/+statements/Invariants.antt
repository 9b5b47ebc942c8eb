use Rattle.std.proofs.Common.{◌-◌, ◌+◌, ◌*◌, max, [], length, map, drop}
use Rattle.meaning.specs.Views.{action_of, actions_of}
use Rattle.code_drafts.specs.Writing.{written_in, WritesBefore}
use Rattle.code_items.specs.Statements.{actions_items}
use Rattle.code_items.specs.Writing.{exits_of, LeavesCases}
use Rattle.code_items.proofs.statement.+statements.Given as goal

abbrev pub invariant-put_statements-loop-done : goal.invariant-put_statements-loop-done
invariant-put_statements-loop-done l = WritesBefore (written_in l.initial.draft) (written_in l.draft)
    (λ n at. actions_items (exits_of n l.exits) at
    (actions_of (map action_of (drop (length l.statements - l.done) l.statements))))

abbrev pub invariant-put_cases-loop-done : goal.invariant-put_cases-loop-done
invariant-put_cases-loop-done l =
    LeavesCases l.initial.draft l.draft l.exits (drop (length l.cases - l.done) l.cases) l.end

abbrev pub decreases-put_statement : goal.decreases-put_statement
decreases-put_statement l = 8 * goal.size-put_statement l

abbrev pub decreases-put_if : goal.decreases-put_if
decreases-put_if l = 8 * goal.size-put_if l + 2

-- the measure that is offered goes by what the test guards alone
abbrev pub decreases-put_if_else : goal.decreases-put_if_else
decreases-put_if_else l = 8 * max
    (goal.size-put_statement
    (record { the-lifetimes = ([], ([], ([], tt))); draft = l.draft; exits = l.exits; statement = l.then }))
    (goal.size-put_statement
    (record { the-lifetimes = ([], ([], ([], tt))); draft = l.draft; exits = l.exits; statement = l.otherwise })) + 2

abbrev pub decreases-put_while : goal.decreases-put_while
decreases-put_while l = 8 * goal.size-put_while l + 2

abbrev pub decreases-put_do : goal.decreases-put_do
decreases-put_do l = 8 * goal.size-put_do l + 2

abbrev pub decreases-put_do_by_test : goal.decreases-put_do_by_test
decreases-put_do_by_test l = 8 * goal.size-put_do_by_test l + 1

abbrev pub decreases-put_do_by_jump : goal.decreases-put_do_by_jump
decreases-put_do_by_jump l = 8 * goal.size-put_do_by_jump l + 1

abbrev pub decreases-put_for : goal.decreases-put_for
decreases-put_for l = 8 * goal.size-put_for l + 2

abbrev pub decreases-put_each : goal.decreases-put_each
decreases-put_each l = 8 * goal.size-put_each l + 2

abbrev pub decreases-put_each_where : goal.decreases-put_each_where
decreases-put_each_where l = 8 * goal.size-put_each_where l + 2

abbrev pub decreases-put_each_in : goal.decreases-put_each_in
decreases-put_each_in l = 8 * goal.size-put_each_in l + 2

abbrev pub decreases-put_statements : goal.decreases-put_statements
decreases-put_statements l = 8 * goal.size-put_statements l + 1

abbrev pub decreases-put_case : goal.decreases-put_case
decreases-put_case l = 8 * goal.size-put_case l + 2

abbrev pub decreases-put_cases : goal.decreases-put_cases
decreases-put_cases l = 8 * goal.size-put_cases l + 3

abbrev pub decreases-put_other : goal.decreases-put_other
decreases-put_other l = 8 * goal.size-put_other l + 2

abbrev pub decreases-put_switch : goal.decreases-put_switch
decreases-put_switch l = 8 * goal.size-put_switch l + 4
