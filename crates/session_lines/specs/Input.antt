-- Lines of input. A line ends at byte 10; a last line without it counts if it is not empty.
use Rattle.std.specs.Prelude.{ℕ, List, [], ◌∷◌, ◌++◌, ◌==◌, if◌then◌else◌}

-- the lines that end within the bytes, where `line` stands before them
abbrev pub whole_from : List ℕ → List ℕ → List (List ℕ)
whole_from line [] = []
whole_from line (b ∷ bs) = if b == 10 then line ∷ whole_from [] bs else whole_from (line ++ b ∷ []) bs

-- what stands after the last line end, where `line` stands before the bytes
abbrev pub rest_from : List ℕ → List ℕ → List ℕ
rest_from line [] = line
rest_from line (b ∷ bs) = if b == 10 then rest_from [] bs else rest_from (line ++ b ∷ []) bs

-- a last line without a line end
abbrev pub last_line : List ℕ → List (List ℕ)
last_line [] = []
last_line (b ∷ bs) = (b ∷ bs) ∷ []

-- the lines that have their end
abbrev pub whole_lines : List ℕ → List (List ℕ)
whole_lines bytes = whole_from [] bytes

-- the lines of an input
abbrev pub lines_of : List ℕ → List (List ℕ)
lines_of bytes = whole_lines bytes ++ last_line (rest_from [] bytes)
