use Rattle.std.proofs.Common.{◌≡◌, ◌-◌, ◌*◌, ◌≤◌, length}
use Rattle.tables.specs.Placed.{words_left}
use Rattle.machine_lines.proofs.Words.{AreWithin, Parses}
use Rattle.machine_lines.proofs.parse.parse.Given as goal

-- the bytes so far and those of the words that are left are those of all
abbrev pub invariant-loop-count : goal.invariant-loop-count
invariant-loop-count l = record {
  parses : Parses l.memory l.dictionary l.letters l.most l.bytes l.count (words_left l.words);
  few : l.count ≤ l.most;
  long : 4 * l.most ≤ length l.bytes;
  kept : length l.bytes ≡ length l.fn.bytes;
  within : AreWithin 255 (words_left l.words);
}

abbrev pub decreases-loop-count : goal.decreases-loop-count
decreases-loop-count l = l.most - l.count
