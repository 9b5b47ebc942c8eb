-- The ranges of the command line's numbers.
use Rattle.std.specs.Prelude.{ℕ, ◌≤◌, IfSome, ⊤}
use Rattle.terminal.specs.declared.play.words.Asked.{Asked}
use Rattle.terminal.specs.declared.play.words.Asked.TheVariants.{Explain, Play, Check}
use Rattle.terminal.specs.declared.play.words.Words.{Words}

-- the units of fuel that a turn may spend, at least and at most
abbrev pub least_fuel : ℕ
least_fuel = 1

abbrev pub most_fuel : ℕ
most_fuel = 10000000

-- how many turns can be taken back at most, where it is bounded
abbrev pub most_undo : ℕ
most_undo = 100000

-- each number is in its range
pub record IsInRange (words : Words) : Type 0 where
  pub least : least_fuel ≤ words.fuel
  pub most : words.fuel ≤ most_fuel
  pub undo : IfSome words.keep (λ turns. turns ≤ most_undo)

-- where a story is to be played
abbrev pub IsAskedInRange : Asked → Type 0
IsAskedInRange (Explain _) = ⊤
IsAskedInRange (Play words) = IsInRange words
IsAskedInRange (Check _) = ⊤
