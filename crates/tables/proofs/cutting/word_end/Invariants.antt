use Rattle.std.proofs.Common.{◌≡◌, [], drop}
use Rattle.std.specs.Prelude.{slice_range}
use Rattle.zcore.specs.Cutting.{words_from}
use Rattle.tables.proofs.cutting.word_end.Given as goal

-- the bytes so far are a run
abbrev pub invariant-loop-i : goal.invariant-loop-i
invariant-loop-i l = words_from l.separators l.start [] (drop l.start l.line)
    ≡ words_from l.separators l.start (slice_range l.line l.start l.i) (drop l.i l.line)
