use Rattle.machine_versions_words.proofs.SmallEntries.{IsLeft}
use Rattle.machine_versions_words.proofs.keys.find_first.Given as goal

abbrev pub invariant-loop-k : goal.invariant-loop-k
invariant-loop-k l = IsLeft l.memory l.entries.first l.entries.bytes l.entries.count l.key l.k
