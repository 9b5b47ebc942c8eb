use Rattle.std.proofs.Common.{Bool, ◌∷◌, take, drop, ap, ◌∙◌, arith}
use Rattle.iff_files.specs.Differences.{with_front, unpacked}
use Rattle.iff_files.proofs.PackedBytes.{byte_past, byte_step, run_past, run_step, unpacked_zero}
use Rattle.iff_files.proofs.differences.step.Goals as goal

pub returns-then-byte-memory-clause-step : goal.returns-then-byte-memory-clause-step
returns-then-byte-memory-clause-step c = λ ds.
    ap (λ (t : Bool). with_front (take c.args.place.at c.args.memory.now)
    (unpacked (c.args.byte ∷ ds) t (drop c.args.place.at c.args.memory.now))) c.if-place.true
    ∙ run_past c.args.memory.now c.args.place.at c.args.byte ds (omega (arith, c.if-byte-memory.true))

pub returns-then-place-clause-step : goal.returns-then-place-clause-step
returns-then-place-clause-step c = λ ds.
    ap (λ (t : Bool). with_front (take c.args.place.at c.args.memory.now)
    (unpacked (c.args.byte ∷ ds) t (drop c.args.place.at c.args.memory.now))) c.if-place.true
    ∙ run_step c.args.memory.now c.args.place.at c.args.byte ds (omega (arith, c.if-byte-memory.false))

pub returns-then-byte-eq0-clause-step : goal.returns-then-byte-eq0-clause-step
returns-then-byte-eq0-clause-step c = λ ds.
    ap (λ (t : Bool). with_front (take c.args.place.at c.args.memory.now)
    (unpacked (c.args.byte ∷ ds) t (drop c.args.place.at c.args.memory.now))) c.if-place.false
    ∙ ap (λ t. with_front (take c.args.place.at c.args.memory.now) t)
    (unpacked_zero c.args.byte ds (drop c.args.place.at c.args.memory.now) c.if-byte-eq0.true)

pub returns-then-at-memory-clause-step : goal.returns-then-at-memory-clause-step
returns-then-at-memory-clause-step c = λ ds.
    ap (λ (t : Bool). with_front (take c.args.place.at c.args.memory.now)
    (unpacked (c.args.byte ∷ ds) t (drop c.args.place.at c.args.memory.now))) c.if-place.false
    ∙ byte_past c.args.memory.now c.args.place.at c.args.byte ds c.if-byte-eq0.false (omega (arith, c.if-at-memory.true))

pub returns-clause-step : goal.returns-clause-step
returns-clause-step c = λ ds.
    ap (λ (t : Bool). with_front (take c.args.place.at c.args.memory.now)
    (unpacked (c.args.byte ∷ ds) t (drop c.args.place.at c.args.memory.now))) c.if-place.false
    ∙ byte_step c.args.memory.now c.args.place.at c.args.byte ds c.if-byte-eq0.false (omega (arith, c.if-at-memory.false))
