-- What is read ahead of what is given on.
use Rattle.std.specs.Prelude.{Option, ℕ, List, drop}
use Rattle.std.specs.Io.KnownBytes.{prepend_known}

-- what is left: what was read and not given on, and then what the reader has
abbrev pub left_of : ℕ → List ℕ → Option (List ℕ) → Option (List ℕ)
left_of given read reader = prepend_known (drop given read) reader
