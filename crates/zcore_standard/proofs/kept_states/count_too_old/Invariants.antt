use Rattle.std.proofs.Common.{◌≡◌, drop, map}
use Rattle.zcore_standard.specs.Keeping.{room_for}
use Rattle.zcore_standard.proofs.kept_states.count_too_old.Given as goal

abbrev pub invariant-loop-count : goal.invariant-loop-count
invariant-loop-count l =
    room_for l.bytes (map (λ rc. rc.value.items) l.files)
    ≡ room_for l.bytes (map (λ rc. rc.value.items) (drop l.count l.files))
