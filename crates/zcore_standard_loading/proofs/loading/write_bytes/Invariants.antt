use Rattle.std.proofs.Common.{◌≡◌, ◌+◌, drop, length}
use Rattle.zcore.specs.Turn.{with_bytes}
use Rattle.zcore_standard_loading.proofs.loading.write_bytes.Given as goal

-- the bytes that are left make of this memory what all of them make of the first
abbrev pub invariant-loop-i : goal.invariant-loop-i
invariant-loop-i l =
    (length l.memory ≡ length l.fn.memory)
    × (with_bytes l.memory (l.at + l.i) (drop l.i l.bytes) ≡ with_bytes l.fn.memory l.at l.bytes)
