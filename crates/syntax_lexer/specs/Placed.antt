-- Faults with their places.
use Rattle.std.specs.Prelude.{◌≡◌, ◌≤◌, ◌<◌, ℕ, false, List, [], ◌∷◌, length, take, slice_index, Some, None}
use Rattle.std.specs.Prelude.{Result, Ok, Err}
use Rattle.syntax_lexer.specs.declared.fault.SourceFault.{SourceFault}
use Rattle.syntax_lexer.specs.declared.fault.PlacedFault.{PlacedFault}
use Rattle.syntax_lexer.specs.Bytes.{is_divider}
use Rattle.syntax_lexer.specs.Tokens.{line_after}

-- a fault of which no place is named
abbrev pub nowhere : SourceFault → PlacedFault
nowhere e = record { fault = e; offset = None }

abbrev pub at_offset : ℕ → SourceFault → PlacedFault
at_offset offset e = record { fault = e; offset = Some offset }

-- a result without the place of its fault
abbrev pub unplaced : {A : Type 0} → Result A PlacedFault → Result A SourceFault
unplaced (Ok x) = Ok x
unplaced (Err p) = Err p.fault

-- the line after these bytes, which begin in a line
abbrev pub line_behind : ℕ → List ℕ → ℕ
line_behind line [] = line
line_behind line (b ∷ bs) = line_behind (line_after line b) bs

-- Lines count from 1, and each byte 10 ends one.
abbrev pub line_at : List ℕ → ℕ → ℕ
line_at source offset = line_behind 1 (take offset source)

-- an offset in a line of this number, at a byte that divides no tokens or at the end of the source
pub record IsInLine (source : List ℕ) (line offset : ℕ) : Type 0 where
  pub within : offset ≤ length source
  pub in_line : line_at source offset ≡ line
  pub divides_none : offset < length source → is_divider (slice_index source offset) ≡ false
