use Rattle.std.proofs.Common.{◌≡◌, ◌++◌, ◌-◌}
use Rattle.std.specs.Prelude.{replicate}
use Rattle.std.specs.List.{flat_map}
use Rattle.checker_statements.specs.Arrays.{entry_bytes}
use Rattle.checker_statements.proofs.array_rules.add_zeros.Given as goal

abbrev pub invariant-loop-turn : goal.invariant-loop-turn
invariant-loop-turn l = l.bytes.items ++ flat_map (entry_bytes l.width) (replicate (l.count - l._turn) 0)
    ≡ l.fn.bytes.items ++ flat_map (entry_bytes l.width) (replicate l.count 0)
