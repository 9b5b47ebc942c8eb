use Rattle.std.proofs.Common.{◌≡◌, ◌++◌, replicate}
use Rattle.screen.proofs.upper.put_blanks.Given as goal

abbrev pub invariant-loop-done : goal.invariant-loop-done
invariant-loop-done l = record { so_far : l.written.items ≡ l.fn.written.items ++ replicate l.done 32 }
