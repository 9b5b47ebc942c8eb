use Rattle.std.proofs.Common.{refl, sym}
use Rattle.machine_decoding.proofs.Decoding.{seen_err}
use Rattle.zcore_standard.proofs.decode.ending_at.Goals as goal

pub returns-in_err-result-clause-ending : goal.returns-in_err-result-clause-ending
returns-in_err-result-clause-ending c = seen_err _ _ _ _ c.from_residual.ensures.1
    (rw (sym c.in_err-result.ensures.variable) refl)

pub returns-in_err-branch-clause-ending : goal.returns-in_err-branch-clause-ending
returns-in_err-branch-clause-ending c = seen_err _ _ _ _ c.from_residual-in_err-branch.ensures.1
    (rw (sym c.in_ok-result.ensures.variable, sym c.in_err-branch.ensures.branch) refl)

pub returns-clause-ending : goal.returns-clause-ending
returns-clause-ending c = rw (sym c.in_ok-result.ensures.variable, sym c.in_ok-branch.ensures.branch) refl
