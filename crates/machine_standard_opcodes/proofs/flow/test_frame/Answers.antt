use Rattle.std.proofs.Common.{refl, arith, inl, inr}
use Rattle.machine_standard_opcodes.proofs.Returning.{frame_missing, frame_found}
use Rattle.machine_standard_opcodes.proofs.flow.test_frame.Goals as goal

pub returns-then-number-eq0-clause-went : goal.returns-then-number-eq0-clause-went
returns-then-number-eq0-clause-went c = frame_missing _ c.args.number _ c.requires refl (inl c.if-number-eq0.true)

pub returns-then-cell-number-clause-went : goal.returns-then-cell-number-clause-went
returns-then-cell-number-clause-went c = frame_missing _ c.args.number c.cell.result c.requires c.cell.ensures
    (inr c.if-cell-number.true)

pub returns-clause-went : goal.returns-clause-went
returns-clause-went c = frame_found _ c.args.number c.cell.result c.requires c.cell.ensures (omega arith)
    c.if-cell-number.false
