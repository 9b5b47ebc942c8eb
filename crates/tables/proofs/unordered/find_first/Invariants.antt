use Rattle.tables.proofs.FirstEntries.{IsLeft}
use Rattle.tables.proofs.unordered.find_first.Given as goal

abbrev pub invariant-loop-k : goal.invariant-loop-k
invariant-loop-k l = IsLeft l.story l.entries.first l.entries.bytes l.entries.count l.key l.k
