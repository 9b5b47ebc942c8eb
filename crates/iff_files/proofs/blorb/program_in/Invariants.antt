use Rattle.std.proofs.Common.{◌≡◌, ◌+◌, ◌*◌, ◌-◌}
use Rattle.iff_files.specs.Stories.{program_in}
use Rattle.iff_files.proofs.blorb.program_in.Given as goal

-- the first program is among the entries from here on
abbrev pub invariant-loop-i : goal.invariant-loop-i
invariant-loop-i l = program_in l.file 24 l.count ≡ program_in l.file (24 + 12 * l.i) (l.count - l.i)
