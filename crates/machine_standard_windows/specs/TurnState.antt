-- Where a turn goes on, by what goes with it; and the text of the turn, of which a part may be cut.
use Rattle.std.specs.Prelude.{◌≡◌, ◌≤◌, ◌+◌, ℕ, List, length, take}
use Rattle.zcore.specs.declared.next.Next.{Next}
use Rattle.zcore.specs.Layout.{text_limit}
use Rattle.zcore_standard.specs.Place.{Here}
use Rattle.machine_standard_windows.specs.declared.turn_state.TurnState.{TurnState}

abbrev pub place : TurnState → Next → Here
place turn next = record {
  next = next;
  standard_state = turn.standard_state;
  kept = turn.kept;
  streams = turn.streams.items;
  upper = turn.upper;
}

-- what was printed before the turn stands, and the turn has printed no more than it may
pub record Keeps (start : ℕ) (was now : List ℕ) : Type 0 where
  pub front : take start now ≡ take start was
  pub begun : start ≤ length now
  pub within : length now ≤ start + text_limit
