-- The whole states that a session holds, with what it knows of the turns between them.
use Rattle.std.specs.Prelude.{ℕ, ◌+◌, List, Option}
use Rattle.zcore.specs.declared.place.Place.{Place}
use Rattle.zcore.specs.Turn.{StateOfPlay}
use Rattle.zcore_versions.specs.Versions.{Story}
use Rattle.machine_frames.specs.Layout.{words_before_memory}
use Rattle.session.specs.Shown.{Showing, Shown}

-- the most cells of a turn's record: those of registers, frame records and stack, and one for each byte of dynamic memory
abbrev pub largest_record : ℕ → ℕ
largest_record static_base = words_before_memory + static_base

-- A session, as its callers see it. Of the states of play the first is the oldest that can be reached by undoing;
-- each further one is that after one more turn.
pub record Session : Type 0 where
  -- how many turns it keeps at most, and what it shows of them besides their texts
  pub keep : Option ℕ
  pub showing : Showing
  -- the units of fuel of a turn
  pub fuel : ℕ
  -- what the Standard's machine was loaded with; none in the profile
  pub loaded : Option Story
  -- the story's first address that no instruction writes
  pub static_base : ℕ
  -- the text of the opening
  pub opening : List ℕ
  pub states : List StateOfPlay
  -- where the machine stood in each of them
  pub places : List Place
  -- what was shown on the way to each of them
  pub shown : List Shown
  -- of each turn, what it printed, its line, and how many cells its record holds
  pub texts : List (List ℕ)
  pub lines : List (List ℕ)
  pub sizes : List ℕ
  -- which of the states is the present one; as many turns can be undone
  pub present : ℕ
  -- the text of the turn that was given up last
  pub given_up : List ℕ
