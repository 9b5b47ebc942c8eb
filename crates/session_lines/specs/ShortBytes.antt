-- How many bytes of a line and its text are kept in place.
use Rattle.std.specs.Prelude.{ℕ}

abbrev pub short_bytes : ℕ
short_bytes = 16
