-- What a turn makes of a session.
use Rattle.std.specs.Prelude.{◌≡◌, ◌≤◌, ℕ, List, slice_index_or, Some}
use Rattle.zcore.specs.Turn.{StateOfPlay, Whole}
use Rattle.session.specs.Showing.{nothing_shown, turn_shown}
use Rattle.session.specs.Shown.{Shown}
use Rattle.session.specs.Modes.{turn_with}
use Rattle.session.specs.Session.{Session, largest_record}
use Rattle.session.specs.Stepped.{with_turn}

-- what was shown on the way to the present state
abbrev pub shown_before : Session → Shown
shown_before v = slice_index_or v.shown v.present nothing_shown

-- the turn of a line from the present state stands behind it
pub record Turned (line : List ℕ) (old new : Session) : Type 0 where
  pub whole : Whole
  pub size : ℕ
  pub turn : (d : StateOfPlay) → turn_with old.loaded line old.fuel (slice_index_or old.states old.present d) ≡ Some whole
  -- what its record can hold
  pub small : size ≤ largest_record old.static_base
  pub shown : Shown
  pub shows : (d : StateOfPlay) → shown
      ≡ turn_shown old.loaded old.showing line old.fuel (shown_before old) (slice_index_or old.states old.present d)
  pub is : new ≡ with_turn line size whole shown old
