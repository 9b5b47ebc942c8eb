use Rattle.std.proofs.Common.{◌≡◌, ◌+◌, ◌++◌, length, drop}
use Rattle.code_drafts.specs.Code.{items_of}
use Rattle.code_drafts.specs.Written.{sizes_in}
use Rattle.code.specs.Bytes.{parts_with, kept_bytes, least_sum}
use Rattle.code.proofs.Copies.{Keeping}
use Rattle.code.proofs.routine.put_parts.Given as goal

abbrev pub invariant-loop-item : goal.invariant-loop-item
invariant-loop-item l =
    (l.scratch.parts.items ++ parts_with (sizes_in l.sizes) l.near (items_of (drop l.item-index l.items))
    ≡ parts_with (sizes_in l.sizes) l.near (items_of l.items))
    × (length l.scratch.bytes.items + least_sum (sizes_in l.sizes) (items_of (drop l.item-index l.items))
    ≡ least_sum (sizes_in l.sizes) (items_of l.items))
    × Keeping (sizes_in l.sizes) l.items l.kept.items l.scratch.bytes.items
    (l.initial.kept.items ++ kept_bytes (sizes_in l.sizes) (items_of l.items)) l.start l.item-index
