-- Bytes that are passed on to a writer.
use Rattle.std.specs.Prelude.{◌≡◌, ◌++◌, ℕ, List, Option}
use Rattle.std.specs.Io.KnownBytes.{Appends}

-- The writer was given the first of the bytes, and the others are left.
pub record PassedOn (held_before held_after : Option (List ℕ)) (bytes left : List ℕ) : Type 0 where
  pub part : List ℕ
  pub whole : bytes ≡ part ++ left
  pub added : Appends held_before held_after part
