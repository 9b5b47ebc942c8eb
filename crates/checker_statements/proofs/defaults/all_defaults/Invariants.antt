use Rattle.std.proofs.Common.{◌≡◌, ◌-◌, ◌∷◌, ◌++◌, drop}
use Rattle.checker_statements.specs.Objects.{exactly}
use Rattle.checker_statements.proofs.defaults.all_defaults.Given as goal

abbrev pub invariant-loop-i : goal.invariant-loop-i
invariant-loop-i l = l.found.items ++ exactly (62 - l.i) (drop l.i l.given) ≡ 0 ∷ exactly 62 l.given
