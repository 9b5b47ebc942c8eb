use Rattle.std.proofs.Common.{◌+◌, ◌*◌, max, []}
use Rattle.map_lines.proofs.statements.+statements.Given as goal

abbrev pub decreases-pass_statement : goal.decreases-pass_statement
decreases-pass_statement l = 8 * goal.size-pass_statement l

abbrev pub decreases-pass_block : goal.decreases-pass_block
decreases-pass_block l = 8 * goal.size-pass_block l + 2

-- the statement in the other is passed
abbrev pub decreases-pass_outer : goal.decreases-pass_outer
decreases-pass_outer l = 8 * (goal.size-pass_statement
    (record { the-lifetimes = ([], ([], ([], ([], tt)))); passing = l.passing; statement = l.inner })) + 2

-- both statements are passed
abbrev pub decreases-pass_if_else : goal.decreases-pass_if_else
decreases-pass_if_else l = 8 * max
    (goal.size-pass_statement
    (record { the-lifetimes = ([], ([], ([], ([], tt)))); passing = l.passing; statement = l.then }))
    (goal.size-pass_statement
    (record { the-lifetimes = ([], ([], ([], ([], tt)))); passing = l.passing; statement = l.otherwise })) + 2

abbrev pub decreases-pass_do : goal.decreases-pass_do
decreases-pass_do l = 8 * goal.size-pass_do l + 2

abbrev pub decreases-pass_statements : goal.decreases-pass_statements
decreases-pass_statements l = 8 * goal.size-pass_statements l + 1

abbrev pub decreases-pass_case : goal.decreases-pass_case
decreases-pass_case l = 8 * goal.size-pass_case l + 2

abbrev pub decreases-pass_cases : goal.decreases-pass_cases
decreases-pass_cases l = 8 * goal.size-pass_cases l + 3

abbrev pub decreases-pass_other : goal.decreases-pass_other
decreases-pass_other l = 8 * goal.size-pass_other l + 2

abbrev pub decreases-pass_switch : goal.decreases-pass_switch
decreases-pass_switch l = 8 * goal.size-pass_switch l + 4
