use Rattle.std.proofs.Common.{◌≡◌, ◌-◌, ◌≤◌, length}
use Rattle.tables.specs.Placed.{words_left}
use Rattle.zcore_versions.specs.Reading.{slot_bytes}
use Rattle.zcore_versions.specs.Versions.{versioned}
use Rattle.machine_lines.proofs.Words.{AreWithin}
use Rattle.machine_versions_words.proofs.Parsing.{Parses}
use Rattle.machine_versions_words.proofs.slots.slots.Given as goal

abbrev pub invariant-loop-count : goal.invariant-loop-count
invariant-loop-count l = record {
  parses : Parses (slot_bytes (versioned l.loaded l.version) l.memory) l.memory l.dictionary.address l.letters l.most
      l.bytes l.count (words_left l.words);
  few : l.count ≤ l.most;
  long : length l.bytes ≡ 1020;
  within : AreWithin 255 (words_left l.words);
}

abbrev pub decreases-loop-count : goal.decreases-loop-count
decreases-loop-count l = l.most - l.count
