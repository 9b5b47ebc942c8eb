use Rattle.std.proofs.Common.{◌-◌, ◌≤◌}
use Rattle.tables.specs.Placed.{words_left}
use Rattle.machine_standard_words.proofs.Filling.{Counts}
use Rattle.machine_standard_words.proofs.slots.count_words.Given as goal

abbrev pub invariant-loop-count : goal.invariant-loop-count
invariant-loop-count l = record {
  counts : Counts l.memory l.dictionary l.letters l.most l.count (words_left l.words);
  few : l.count ≤ l.most;
}

abbrev pub decreases-loop-count : goal.decreases-loop-count
decreases-loop-count l = l.most - l.count
