-- Files that are read one after another.
use Rattle.std.specs.Prelude.{◌≡◌, ◌≤◌, ℕ, List, [], ◌∷◌, ◌++◌, length, None}
use Rattle.derive_joined.specs.Included.{first_asked}
use Rattle.inform_places.specs.declared.files.Written.{Written}
use Rattle.inform_places.specs.declared.gathering.Gathering.{Gathering}
use Rattle.inform_places.specs.Source.{IsGathered}
use Rattle.inform.specs.Files.{BeginsWith}

-- a file is read that is asked for; before, there were at most 100
pub record TakesOne (old new : Gathering) : Type 0 where
  pub at_most : length old.written.items ≤ 100
  pub file : Written
  pub takes : new.written.items ≡ old.written.items ++ file ∷ []
  pub gathers : IsGathered old → IsGathered new

-- the main file has these bytes, and all are there that are asked for
pub record HasAll (main : List ℕ) (gathering : Gathering) : Type 0 where
  pub begins : BeginsWith main gathering.written.items
  pub gathered : IsGathered gathering
  pub asks_no_more : first_asked gathering.parts.items ≡ None
