use Rattle.zcore_standard.specs.Windows.{is_space}
use Rattle.machine_standard_windows.proofs.TextLines.{IsPassed}
use Rattle.machine_standard_windows.proofs.lines.bare_length.Given as goal

abbrev pub invariant-loop-end : goal.invariant-loop-end
invariant-loop-end l = IsPassed is_space l.text l.end

abbrev pub decreases-loop-end : goal.decreases-loop-end
decreases-loop-end l = l.end
