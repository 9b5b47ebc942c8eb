use Rattle.std.proofs.Common.{refl, sym}
use Rattle.zcore_standard.specs.Instruction.{result_at}
use Rattle.machine_decoding.proofs.Decoding.{seen_err}
use Rattle.zcore_standard.proofs.decode.result_at.Goals as goal

pub returns-in_err-read_byte-clause-variable : goal.returns-in_err-read_byte-clause-variable
unfolding result_at
returns-in_err-read_byte-clause-variable c = seen_err _ _ _ _ c.from_residual.ensures.1
    (rw (c.if-stores.true, sym c.in_err-read_byte.ensures.byte) refl)

pub returns-in_ok-read_byte-clause-variable : goal.returns-in_ok-read_byte-clause-variable
unfolding result_at
returns-in_ok-read_byte-clause-variable c = rw (c.if-stores.true, sym c.in_ok-read_byte.ensures.byte) refl

pub returns-else-stores-clause-variable : goal.returns-else-stores-clause-variable
unfolding result_at
returns-else-stores-clause-variable c = rw (c.if-stores.false) refl
