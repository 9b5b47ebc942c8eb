use Rattle.std.proofs.Common.{◌*◌, ap, arith}
use Rattle.machine_opcodes.proofs.Targets.{scaled_within}
use Rattle.machine_opcodes.proofs.calls.unpacked.Goals as goal

pub overflow_mul-result : goal.overflow_mul-result
overflow_mul-result c = omega (
  arith,
  scaled_within c.args.header.now.version c.args.packed (omega arith),
  ap (λ k. k * c.args.packed)
      c.scale.ensures,
)

pub returns-clause-same : goal.returns-clause-same
returns-clause-same c = ap (λ k. k * c.args.packed) c.scale.ensures

pub returns-clause-within : goal.returns-clause-within
returns-clause-within c = omega (
  arith,
  scaled_within c.args.header.now.version c.args.packed (omega arith),
  ap (λ k. k * c.args.packed)
      c.scale.ensures,
)
