-- Where routines are.
use Rattle.std.specs.Prelude.{ℕ}

-- the greatest address for which a packed address of a routine stands in any version: 4 times one word and 8 times
-- another (Z-Machine Standards Document 1.1, section 1.2.3)
abbrev pub last_routine : ℕ
last_routine = 786420
