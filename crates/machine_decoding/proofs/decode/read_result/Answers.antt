use Rattle.std.proofs.Common.{refl, sym}
use Rattle.zcore.specs.Instruction.{result_variable}
use Rattle.machine_decoding.proofs.Decoding.{seen_err}
use Rattle.machine_decoding.proofs.decode.read_result.Goals as goal

pub returns-in_err-read_byte-clause-variable : goal.returns-in_err-read_byte-clause-variable
unfolding result_variable
returns-in_err-read_byte-clause-variable c = seen_err _ _ _ _ c.from_residual.ensures.1
    (rw (sym c.if-has_result.ensures, sym c.in_err-read_byte.ensures.byte) refl)

pub returns-in_ok-read_byte-clause-variable : goal.returns-in_ok-read_byte-clause-variable
unfolding result_variable
returns-in_ok-read_byte-clause-variable c = rw (sym c.if-has_result.ensures, sym c.in_ok-read_byte.ensures.byte) refl

pub returns-else-has_result-clause-variable : goal.returns-else-has_result-clause-variable
unfolding result_variable
returns-else-has_result-clause-variable c = rw (sym c.if-has_result.ensures) refl
