use Rattle.std.proofs.Common.{◌≡◌, take, length}
use Rattle.machine_standard_words.proofs.typed.put.Given as goal

abbrev pub invariant-loop-i : goal.invariant-loop-i
invariant-loop-i l = record {
  so_far : take l.i l.letters ≡ take l.i l.bytes;
  long : length l.letters ≡ 255;
}
