-- Lines and columns of a source.
use Rattle.std.specs.Prelude.{◌≡◌, ◌≢◌, ◌==◌, ◌+◌, ◌≤◌, ◌<◌, ℕ, if◌then◌else◌, List, [], ◌∷◌, take}
use Rattle.std.specs.Prelude.{drop, length, IfSome}
use Rattle.std.specs.List.{All}
use Rattle.syntax_lexer.specs.Placed.{line_at}
use Rattle.messages_parts.specs.declared.place.Place.{Place}
use Rattle.messages_parts.specs.declared.diagnosis.Diagnosis.{Diagnosis}

abbrev pub column_after : ℕ → ℕ → ℕ
column_after column b = if b == 10 then 1 else column + 1

-- the column behind these bytes, which begin at a column
abbrev pub column_behind : ℕ → List ℕ → ℕ
column_behind column [] = column
column_behind column (b ∷ bs) = column_behind (column_after column b) bs

-- Columns count the bytes of a line from 1.
abbrev pub column_at : List ℕ → ℕ → ℕ
column_at source offset = column_behind 1 (take offset source)

-- A place is a span of a source within a line of this number. It has a byte, unless it is the end of the source.
pub record IsPlaceIn (source : List ℕ) (line : ℕ) (p : Place) : Type 0 where
  pub within : p.offset + p.length ≤ length source
  pub in_line : line_at source p.offset ≡ line
  pub at_column : column_at source p.offset ≡ p.column
  pub in_one_line : All (λ b. b ≢ 10) (take p.length (drop p.offset source))
  pub has_bytes : p.offset < length source → 0 < p.length

-- a place in the line that a fault names
abbrev pub IsLocatedIn : List ℕ → Diagnosis → Type 0
IsLocatedIn source d = IfSome d.place (IsPlaceIn source d.fault.line)
