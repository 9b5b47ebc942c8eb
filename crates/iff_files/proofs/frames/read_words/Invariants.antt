use Rattle.std.proofs.Common.{◌≡◌, ◌-◌, ◌*◌, ◌++◌, drop}
use Rattle.iff_files.specs.Frames.{words_from}
use Rattle.iff_files.proofs.frames.read_words.Given as goal

abbrev pub invariant-loop-i : goal.invariant-loop-i
invariant-loop-i l = l.out.items ++ words_from (l.count - l.i) (drop (2 * l.i) l.bytes)
    ≡ l.initial.out.items ++ words_from l.count l.bytes
