use Rattle.std.proofs.Common.{◌≡◌, drop}
use Rattle.code_drafts.specs.Code.{items_of}
use Rattle.code.specs.Bytes.{has_back}
use Rattle.code.proofs.backward.has_back.Given as goal

abbrev pub invariant-loop-item : goal.invariant-loop-item
invariant-loop-item l = has_back (items_of l.items) ≡ has_back (items_of (drop l.item-index l.items))
