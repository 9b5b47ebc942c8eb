-- What the buffer of a line knows of it.
use Rattle.std.specs.Prelude.{◌≡◌, ℕ, ◌<◌, min, true, false, List, length, take}
use Rattle.session_lines.specs.declared.line.Line.{Line}
use Rattle.session_lines.specs.Standing.{longest_line}

-- the buffer holds the line, or knows that it is too long
pub record IsKept (line : Line) (full : List ℕ) : Type 0 where
  pub size : line.len ≡ min (length full) longest_line
  pub short : line.more ≡ false → take line.len line.bytes ≡ full
  pub long : line.more ≡ true → longest_line < length full
