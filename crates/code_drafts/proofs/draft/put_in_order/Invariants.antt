use Rattle.std.proofs.Common.{◌≡◌, map}
use Rattle.code_drafts.specs.Code.{items_of}
use Rattle.code_drafts.specs.Writing.{numbered}
use Rattle.code_drafts.proofs.Drafts.{numbering}
use Rattle.code_drafts.proofs.draft.put_in_order.Given as goal

abbrev pub invariant-loop-number : goal.invariant-loop-number
invariant-loop-number l =
    numbering l.number l.count l.items ≡ map (numbered l.count) (items_of l.initial.items)
