use Rattle.std.proofs.Common.{◌≡◌, ◌-◌, length, map, drop, reverse}
use Rattle.meaning.specs.Views.{range_of}
use Rattle.code_items.specs.Statements as statements
use Rattle.code_items.specs.Code.{group_of}
use Rattle.code_items.proofs.group.groups.Given as goal

abbrev pub invariant-loop-done : goal.invariant-loop-done
invariant-loop-done l = reverse (map group_of l.found.items)
    ≡ statements.groups_of (map range_of (drop (length l.spans - l.done) l.spans))
