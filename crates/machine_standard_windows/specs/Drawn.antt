-- The text of a turn, where the upper window changes it.
use Rattle.std.specs.Prelude.{◌≡◌, ◌==◌, ◌≤◌, ◌+◌, ◌-◌, ◌++◌, ℕ, min, List, length, take, drop, replicate}
use Rattle.zcore.specs.declared.next.Next.{Next}
use Rattle.zcore.specs.State.{State, Out, done}
use Rattle.zcore_standard.specs.Place.{Here}
use Rattle.zcore_standard.specs.declared.windows.Upper.{Upper}
use Rattle.zcore_standard.specs.Windows.{row_of, with_cursor, with_new_line, without_spaces}
use Rattle.machine_standard_windows.specs.TurnState.{place}
use Rattle.machine_standard_windows.specs.declared.turn_state.TurnState.{TurnState}

-- the place in a text where so many bytes of a turn end, or the text, where the turn's text begins at a place of it
abbrev pub place_at : ℕ → ℕ → List ℕ → ℕ
place_at start from text = start + min from (length text - start)

-- a part changes the text of the turn, and what goes with its place, as a definition does
abbrev pub Redraws : ℕ → TurnState → TurnState → List ℕ → List ℕ → (Here → State → Out Here) → Type 0
Redraws start old new was now f =
    (next : Next) (s : State) → f (place old next) (record s { text = drop start was })
    ≡ done (place new next) (record s { text = drop start now })

-- The text of the upper window begins at a place of a text, and ends at another without the spaces at its end.
pub record Bounds (start begin end from : ℕ) (text : List ℕ) : Type 0 where
  pub at : begin ≡ place_at start from text
  pub behind : begin ≤ end
  pub within : end ≤ length text
  pub bare : take (end - begin) (drop begin text) ≡ without_spaces (drop begin text)

-- The way of the cursor to a row and a column: from there on newlines and spaces are added.
pub record Way (start begin end lines spaces row column : ℕ) (upper : Upper) (text : List ℕ) : Type 0 where
  pub bounds : Bounds start begin end upper.from text
  pub way : with_cursor (row_of upper (drop start text) == row) column (take (end - begin) (drop begin text))
      ≡ take (end - begin) (drop begin text) ++ (replicate lines 10 ++ replicate spaces 32)

-- the newlines that the text before a part of it lacks, and those that the part lacks
pub record Apart (start begin end before after : ℕ) (text : List ℕ) : Type 0 where
  pub first : with_new_line (drop start (take begin text)) ≡ drop start (take begin text) ++ replicate before 10
  pub second : with_new_line (take (end - begin) (drop begin text))
      ≡ take (end - begin) (drop begin text) ++ replicate after 10
