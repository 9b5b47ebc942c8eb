use Rattle.std.proofs.Common.{◌≡◌, ◌++◌, take, drop}
use Rattle.messages_diagnosis.specs.declared.routine_figures.RoutineFigures.{RoutineFigures}
use Rattle.messages_diagnosis.specs.Figures.{placed}
use Rattle.messages_diagnosis.proofs.routine_figures.rank.Given as goal

abbrev pub invariant-loop-number : goal.invariant-loop-number
invariant-loop-number l = (r : RoutineFigures) → r.weight ≡ l.weight
    → placed r l.routines ≡ take l.number l.routines ++ placed r (drop l.number l.routines)
