use Rattle.std.proofs.Common.{◌-◌, List, [], ◌∷◌, ◌++◌, map, take, reverse}
use Rattle.code_drafts.specs.Items.{Item}
use Rattle.code_items.specs.Statements.{Group, last_items, tests_items}
use Rattle.code_items.specs.Code.{group_of}
use Rattle.code_drafts.specs.Writing.{written_in, WritesBefore}
use Rattle.code_items.proofs.cases.put_tests.Given as goal

-- before the last group stand those that were written since
abbrev pub invariant-loop-group : goal.invariant-loop-group
invariant-loop-group l = (c : List Item) (g : Group)
    → WritesBefore c (written_in l.initial.draft) (λ n at. last_items g (n - l.after))
    → WritesBefore c (written_in l.draft)
    (λ n at. tests_items at (reverse (map group_of (take l.group-index l.group-items)) ++ g ∷ []) (n - l.inside)
    (n - l.after))
