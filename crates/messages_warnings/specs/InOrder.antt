-- The places and the order of warnings.
use Rattle.std.specs.Prelude.{◌<◌, ℕ, List}
use Rattle.std.specs.List.{All, AllPairs}
use Rattle.messages_warnings.specs.declared.marks.Warning.{Warning}

-- Warnings about this many tokens, in the order of these, and at most one about each.
pub record AreInOrder (count : ℕ) (warnings : List Warning) : Type 0 where
  pub within : All (λ w. w.at < count) warnings
  pub ordered : AllPairs (λ v w. v.at < w.at) warnings
