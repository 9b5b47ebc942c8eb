use Rattle.std.proofs.Common.{◌≡◌, List, ℕ, [], drop}
use Rattle.zcore.specs.Cutting.{words_from}
use Rattle.tables.proofs.cutting.word_start.Given as goal

abbrev pub invariant-loop-i : goal.invariant-loop-i
invariant-loop-i l = (separators : List ℕ) → words_from separators l.from [] (drop l.from l.line)
    ≡ words_from separators l.i [] (drop l.i l.line)
