use Rattle.std.proofs.Common.{◌≡◌, drop}
use Rattle.std.specs.List.{flat_map}
use Rattle.messages_diagnosis.specs.Walk.{raised_all, own_item_needs}
use Rattle.messages_diagnosis.proofs.statements.items.Given as goal

abbrev pub invariant-loop-x : goal.invariant-loop-x
invariant-loop-x l = raised_all l.sought (flat_map own_item_needs (drop l.x-index l.printed))
    ≡ raised_all l.fn.sought (flat_map own_item_needs l.printed)
