use Rattle.std.proofs.Common.{◌≡◌, find, length}
use Rattle.messages_explanations.specs.Names.{is_named}
use Rattle.messages_explanations.proofs.explanation.find_in.Given as goal

-- none of those that were looked at has the name
abbrev pub invariant-loop-table : goal.invariant-loop-table
invariant-loop-table l = find (is_named l.name) l.table ≡ find (is_named l.name) l.initial.table

abbrev pub decreases-loop-table : goal.decreases-loop-table
decreases-loop-table l = length l.table
