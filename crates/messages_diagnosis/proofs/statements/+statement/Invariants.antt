use Rattle.std.proofs.Common.{◌≡◌, ◌+◌, ◌*◌, drop}
use Rattle.std.specs.List.{flat_map}
use Rattle.messages_diagnosis.specs.Walk.{raised_all, own_needs, own_case_needs}
use Rattle.messages_diagnosis.proofs.statements.+statement.Given as goal

abbrev pub decreases-statement : goal.decreases-statement
decreases-statement l = 8 * goal.size-statement l

abbrev pub decreases-sequence : goal.decreases-sequence
decreases-sequence l = 8 * goal.size-sequence l + 1

abbrev pub decreases-all_cases : goal.decreases-all_cases
decreases-all_cases l = 8 * goal.size-all_cases l + 3

abbrev pub decreases-choices : goal.decreases-choices
decreases-choices l = 8 * goal.size-choices l + 4

abbrev pub decreases-otherwise_of : goal.decreases-otherwise_of
decreases-otherwise_of l = 8 * goal.size-otherwise_of l + 2

abbrev pub invariant-sequence-loop-s : goal.invariant-sequence-loop-s
invariant-sequence-loop-s l = raised_all l.sought (flat_map own_needs (drop l.s-index l.all))
    ≡ raised_all l.fn.sought (flat_map own_needs l.all)

abbrev pub invariant-all_cases-loop-case : goal.invariant-all_cases-loop-case
invariant-all_cases-loop-case l = raised_all l.sought (flat_map own_case_needs (drop l.case-index l.cases))
    ≡ raised_all l.fn.sought (flat_map own_case_needs l.cases)
