-- The lines that stand in a session: those that were taken, and those of them that were undone.
use Rattle.std.specs.Prelude.{ℕ, zero, suc, ◌+◌, ◌-◌, min, Bool, ◌&&◌, nat_le}
use Rattle.std.specs.Prelude.{List, [], ◌∷◌, ◌++◌, length, take, drop, Option, Some, None}
use Rattle.std.specs.List.{list_all}

pub record Standing : Type 0 where
  -- every line that was taken and is not undone, also those whose turns were given up
  pub done : List (List ℕ)
  pub undone : List (List ℕ)
  -- how many of done can be undone
  pub kept : ℕ

abbrev pub nothing : Standing
nothing = record { done = []; undone = []; kept = 0 }

-- the bytes of the longest line that a story is given
abbrev pub longest_line : ℕ
longest_line = 1000

-- a byte of such a line: a space, or a character of ZSCII that is printed
abbrev pub is_typable_byte : ℕ → Bool
is_typable_byte byte = nat_le 32 byte && nat_le byte 126

-- A line for the story has at most 1,000 bytes, each from 32 to 126.
abbrev pub is_typable : List ℕ → Bool
is_typable line = nat_le (length line) longest_line && list_all is_typable_byte line

abbrev pub undo_from : ℕ → Standing → Standing
undo_from zero s = s
undo_from (suc kept) s = record {
  done = take (length s.done - 1) s.done;
  undone = drop (length s.done - 1) s.done ++ s.undone;
  kept = kept;
}

-- The last of the done lines goes to the front of the undone ones, unless none is kept.
abbrev pub undo_of : Standing → Standing
undo_of s = undo_from s.kept s

abbrev pub redo_from : List (List ℕ) → Standing → Standing
redo_from [] s = s
redo_from (line ∷ lines) s = record { done = s.done ++ line ∷ []; undone = lines; kept = s.kept + 1 }

-- The first of the undone lines, where there is one, goes to the end of the done ones.
abbrev pub redo_of : Standing → Standing
redo_of s = redo_from s.undone s

-- so many, but no more than a session keeps; without a bound it keeps all
abbrev pub at_most : Option ℕ → ℕ → ℕ
at_most None count = count
at_most (Some most) count = min count most

-- A line that is taken goes to the end of the done ones, and none is undone then.
abbrev pub taken : Option ℕ → List ℕ → Standing → Standing
taken keep line s = record { done = s.done ++ line ∷ []; undone = []; kept = at_most keep (s.kept + 1) }

-- what a session still reaches of a list with a place for each line that stands, or one more
abbrev pub reached : {A : Type 0} → Standing → List A → List A
reached s xs = drop (length s.done - s.kept) xs
