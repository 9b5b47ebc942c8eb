use Rattle.std.proofs.Common.{arith}
use Rattle.std.proofs.lemmas.Bool.{ne_eqb}
use Rattle.zcore_standard.specs.Windows.{is_space}
use Rattle.machine_standard_windows.proofs.TextLines.{bare_is, passed_front, passed_all}
use Rattle.machine_standard_windows.proofs.lines.bare_length.Goals as goal

pub returns-else-text-end-eq32-clause-bare : goal.returns-else-text-end-eq32-clause-bare
returns-else-text-end-eq32-clause-bare c = bare_is c.args.text.now _
    (passed_all is_space c.args.text.now c.loop-end.end c.loop-end-test.true
    (ne_eqb _ 32 c.if-text-end-eq32.false) c.loop-end.invariant)

pub returns-after-loop-end-clause-bare : goal.returns-after-loop-end-clause-bare
returns-after-loop-end-clause-bare c = bare_is c.args.text.now _
    (passed_front is_space c.args.text.now c.loop-end.end (omega (arith, c.loop-end-test.false)) c.loop-end.invariant)
