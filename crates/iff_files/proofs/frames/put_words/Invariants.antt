use Rattle.std.proofs.Common.{◌≡◌, ◌≤◌, ◌+◌, ◌-◌, ◌*◌, ◌++◌, drop, length, vec_capacity, vec_len}
use Rattle.iff_files.specs.Frames.{words}
use Rattle.iff_files.proofs.frames.put_words.Given as goal

abbrev pub invariant-loop-word : goal.invariant-loop-word
invariant-loop-word l = record {
  room : vec_len l.out + 2 * (length l.values - l.word-index) ≤ vec_capacity l.out;
  items : l.out.items ++ words (drop l.word-index l.values) ≡ l.initial.out.items ++ words l.values;
}
