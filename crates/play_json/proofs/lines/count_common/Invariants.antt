use Rattle.std.proofs.Common.{◌≡◌, ◌+◌, map, drop}
use Rattle.play_json.specs.Answers.{common}
use Rattle.play_json.proofs.lines.count_common.Given as goal

abbrev pub invariant-loop-count : goal.invariant-loop-count
invariant-loop-count l =
    common (map (λ rc. rc.value.given.items) l.some) (map (λ rc. rc.value.given.items) l.other)
    ≡ l.count + common (map (λ rc. rc.value.given.items) (drop l.count l.some)) (map (λ rc. rc.value.given.items) (drop l.count l.other))
