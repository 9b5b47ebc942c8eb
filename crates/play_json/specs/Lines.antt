-- The lines of a session, and those that were marked.
use Rattle.std.specs.Prelude.{ℕ, ◌+◌, ◌-◌, nat_lt, if◌then◌else◌, List, [], ◌∷◌, ◌++◌, length, take}

pub record Lines : Type 0 where
  -- all lines that stand, and then those that are undone
  pub all : List (List ℕ)
  -- how many of them stand
  pub at : ℕ
  -- the lines of each mark, in the order of their numbers
  pub marks : List (List (List ℕ))

abbrev pub no_lines : Lines
no_lines = record { all = []; at = 0; marks = [] }

-- a line that is taken
abbrev pub with_line : List ℕ → Lines → Lines
with_line line l = record { all = take l.at l.all ++ line ∷ []; at = l.at + 1; marks = l.marks }

-- the last line is undone, if there is one; and the first that is undone is not any more
abbrev pub back : Lines → Lines
back l = record { all = l.all; at = l.at - 1; marks = l.marks }

abbrev pub forward : Lines → Lines
forward l = if nat_lt l.at (length l.all) then record { all = l.all; at = l.at + 1; marks = l.marks } else l

-- one mark more, for the lines that stand
abbrev pub with_mark : Lines → Lines
with_mark l = record { all = l.all; at = l.at; marks = l.marks ++ take l.at l.all ∷ [] }
