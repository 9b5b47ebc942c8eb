-- A text with lines broken at spaces.
use Rattle.std.specs.Prelude.{◌≡◌, ◌⊎◌, ◌++◌, ℕ, List, Option, length, slice_index}
use Rattle.std.specs.Io.KnownBytes.{Appends}

abbrev pub space : ℕ
space = 32

abbrev pub new_line : ℕ
new_line = 10

-- the byte is as it was, or a new line in the place of a space
abbrev pub IsKept : ℕ → ℕ → Type 0
IsKept old new = (new ≡ old) ⊎ ((old ≡ space) × (new ≡ new_line))

-- `new` is `old` with some spaces replaced by new lines
pub record IsBroken (old new : List ℕ) : Type 0 where
  pub long : length new ≡ length old
  pub each : (k : ℕ) → IsKept (slice_index old k) (slice_index new k)

-- What was written to a writer that breaks lines, with some of its spaces replaced by new lines, is what it passed on
-- to another, which held something before and holds more after, and then what it still gathers.
pub record WroteBroken (held_before held_after : Option (List ℕ)) (gathered written : List ℕ) : Type 0 where
  pub passed : List ℕ
  pub added : Appends held_before held_after passed
  pub kept : IsBroken written (passed ++ gathered)
