use Rattle.std.proofs.Common.{◌≡◌, ◌+◌, drop, map}
use Rattle.zcore_standard.specs.Keeping.{bytes_of, most_bytes}
use Rattle.zcore_standard.proofs.kept_states.has_room.Given as goal

abbrev pub invariant-loop-file : goal.invariant-loop-file
invariant-loop-file l =
    bytes_of (map (λ rc. rc.value.items) l.files) + l.bytes + l.room
    ≡ bytes_of (map (λ rc. rc.value.items) (drop l.file-index l.files)) + most_bytes
