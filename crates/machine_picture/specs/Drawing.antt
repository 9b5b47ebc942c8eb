-- The picture that the struct stands for.
use Rattle.std.specs.Prelude.{◌≡◌, ◌≢◌, ◌≤◌, ◌+◌, ◌&&◌, ℕ, nat_le, nat_lt, Bool, true, List, [], ◌∷◌, length}
use Rattle.std.specs.List.{list_all}
use Rattle.zcore_standard.specs.declared.streams.Begun.{Begun}
use Rattle.zcore_standard.specs.Streams.{between}
use Rattle.machine_picture.specs.Picture as definitions
use Rattle.machine_picture.specs.declared.picture.Picture.{Picture}

abbrev pub picture_of : Picture → definitions.Picture
picture_of picture = record {
  cells = picture.cells.items;
  row = picture.row;
  column = picture.column;
  seen = picture.seen;
  until = picture.until;
  margin = picture.margin;
}

-- a character that is whole was drawn beside a margin, and none has begun; another goes on
pub record PutsWhole (margin : ℕ) (begun : Begun) (old new : definitions.Picture) (next : Begun) : Type 0 where
  pub whole : begun.more ≡ 0 → (new ≡ definitions.put_beside margin begun.bits old) × (next ≡ between)
  pub parted : begun.more ≢ 0 → (new ≡ old) × (next ≡ begun)

-- a byte that is a character of its own, and no newline
abbrev pub is_plain : ℕ → Bool
is_plain byte = nat_le 32 byte && nat_lt byte 127

-- plain characters that the row of the cursor has cells for
pub record IsRun (p : definitions.Picture) (run : List ℕ) : Type 0 where
  pub plain : list_all is_plain run ≡ true
  pub inside : 1 ≤ length run → definitions.is_inside p ≡ true
  pub fits : 1 ≤ length run → p.column + length run ≤ 256

-- characters in the cells from one on
abbrev pub with_cells : ℕ → List ℕ → List ℕ → List ℕ
with_cells at [] cells = cells
with_cells at (character ∷ characters) cells =
    with_cells (at + 1) characters (definitions.with_cell at character cells)
