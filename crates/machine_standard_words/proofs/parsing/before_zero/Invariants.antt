use Rattle.machine_standard_words.proofs.Zeros.{HasNone}
use Rattle.machine_standard_words.proofs.parsing.before_zero.Given as goal

abbrev pub invariant-loop-count : goal.invariant-loop-count
invariant-loop-count l = HasNone l.letters l.count
