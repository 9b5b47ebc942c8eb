use Rattle.std.proofs.Common.{◌≡◌, map, drop}
use Rattle.meaning.specs.Views.{value_of, values_of}
use Rattle.code_drafts.specs.Items as items
use Rattle.code_drafts.proofs.operand.all_in_place.Given as goal

abbrev pub invariant-loop-value : goal.invariant-loop-value
invariant-loop-value l = items.all_in_place (values_of (map value_of l.values))
    ≡ items.all_in_place (values_of (map value_of (drop l.value-index l.values)))
