use Rattle.std.proofs.Common.{◌≡◌, ◌++◌, map, drop}
use Rattle.play_json.proofs.lines.share.Given as goal

abbrev pub invariant-loop-line : goal.invariant-loop-line
invariant-loop-line l =
    map (λ rc. rc.value.given.items) l.copies.items ++ map (λ rc. rc.value.given.items) (drop l.line-index l.lines)
    ≡ map (λ rc. rc.value.given.items) l.lines
