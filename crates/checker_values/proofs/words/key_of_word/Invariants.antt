use Rattle.std.proofs.Common.{◌≡◌, length, take}
use Rattle.std.specs.Prelude.{map}
use Rattle.checker_values.specs.Keys.{letter_of}
use Rattle.checker_values.proofs.words.key_of_word.Given as goal

abbrev pub invariant-loop-i : goal.invariant-loop-i
invariant-loop-i l = record {
  long : length l.letters ≡ 9;
  first : take l.i l.letters ≡ map letter_of (take l.i l.word);
}
