use Rattle.std.proofs.Common.{◌≡◌, ◌+◌, ◌-◌, ◌*◌, ◌++◌}
use Rattle.zcore_standard_loading.specs.Loading.{words_from}
use Rattle.zcore_standard_loading.proofs.zscii.words_from.Given as goal

-- the words that were read, and those that are left
abbrev pub invariant-loop-i : goal.invariant-loop-i
invariant-loop-i l =
    l.words.items ++ words_from l.memory (l.at + 2 * l.i) (l.count - l.i) ≡ words_from l.memory l.at l.count
