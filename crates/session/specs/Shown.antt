-- What a session may show of its turns besides their texts, and what is shown of one.
use Rattle.std.specs.Prelude.{ℕ, Bool, List, Option}

pub record Showing : Type 0 where
  -- whether the picture of a turn begins with that of the turn before, as on a screen
  pub picture : Bool
  -- whether text styles are kept
  pub styles : Bool
  -- how many rows of the upper window a screen draws at most, where there is one
  pub rows : Option ℕ

-- what is shown of a turn
pub record Shown : Type 0 where
  -- what was drawn in the upper window
  pub drawing : List ℕ
  -- the style in which the story prints then, and the text with marks
  pub style : ℕ
  pub marked : List ℕ
