use Rattle.std.proofs.Common.{◌≡◌, ◌-◌, ◌≤◌, length}
use Rattle.zcore_standard.specs.Texts.{alphabets_of}
use Rattle.tables.specs.Placed.{words_left}
use Rattle.machine_lines.proofs.Words.{AreWithin}
use Rattle.machine_standard_words.proofs.Filling.{Parses}
use Rattle.machine_standard_words.proofs.slots.slots.Given as goal

abbrev pub invariant-loop-count : goal.invariant-loop-count
invariant-loop-count l = record {
  parses : Parses (alphabets_of l.loaded) l.memory l.search.dictionary l.search.flag l.letters l.most l.at l.bytes l.count
      (words_left l.words);
  few : l.count ≤ l.most;
  long : length l.bytes ≡ 1020;
  within : AreWithin 255 (words_left l.words);
}

abbrev pub decreases-loop-count : goal.decreases-loop-count
decreases-loop-count l = l.most - l.count
