use Rattle.std.proofs.Common.{◌++◌}
use Rattle.code_drafts.specs.Code.{items_of}
use Rattle.code_drafts.specs.Written.{addresses_of, sizes_in}
use Rattle.code.specs.Bytes.{code_bytes}
use Rattle.code.proofs.Copies.{Copying}
use Rattle.code.proofs.routine.put_items.Given as goal

abbrev pub invariant-loop-number : goal.invariant-loop-number
invariant-loop-number l =
    Copying (sizes_in l.sizes) (addresses_of l.addresses) l.items l.bytes.items l.rest
    (l.initial.bytes.items ++ code_bytes (sizes_in l.sizes) (addresses_of l.addresses) (items_of l.items))
    l.start l.number
