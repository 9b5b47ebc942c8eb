use Rattle.terminal.specs.Broken.{IsBroken}
use Rattle.terminal.proofs.breaking.break_lines.Given as goal

abbrev pub invariant-loop-at : goal.invariant-loop-at
invariant-loop-at l = IsBroken l.fn.text l.text
