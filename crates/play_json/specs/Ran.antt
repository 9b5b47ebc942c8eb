-- What a whole run does to a session: `v` before it, of which no line stands, and `v'` after it. Its first object tells
-- `first`.
use Rattle.std.specs.Prelude.{◌≡◌, ℕ, List, Option, Some, Result, Ok, Err}
use Rattle.std.specs.Io.KnownBytes.{Consumes, IsAtEnd, Keeps}
use Rattle.zcore.specs.declared.place.Place.{Place}
use Rattle.session_run.specs.declared.fault.RunFault.{RunFault}
use Rattle.session_run.specs.declared.fault.RunFault.TheVariants.{Reading, Writing}
use Rattle.session.specs.Game.{Game, InEach, IsSessionOf, place_on, telling_of}
use Rattle.session_run.specs.Ran.{LinesRead, Streams}
use Rattle.session.specs.Session.{Session}
use Rattle.session_lines.specs.Input.{lines_of, whole_lines}
use Rattle.session_lines.specs.Standing.{nothing}
use Rattle.play_json.specs.Answers.{opening_of}
use Rattle.play_json.specs.Heard.{BrokeIn, Heard}
use Rattle.play_json.specs.Lines.{Lines, no_lines}
use Rattle.play_json.specs.Said.{held}
use Rattle.play_json.specs.Told.{BrokeAs, ToldAs}
use Rattle.play_json.specs.declared.first.First.{First}

-- the opening was written
abbrev pub IsOpened : First → Session → Option (List ℕ) → Option (List ℕ) → Type 0
IsOpened first v w w' = (game : Game) → IsSessionOf game nothing v
    → ToldAs game (opening_of (telling_of game)) (Some first) w w'

-- the opening was written, and then these lines of the input were heard
pub record Played (first : First) (io : Streams) (v v' : Session) (input : List ℕ) (lines : List (List ℕ)) : Type 0 where
  pub took : Consumes io.unread_before io.unread_after input
  pub opened : Option (List ℕ)
  pub opening : IsOpened first v io.held_before opened
  -- the lines that are held at the end, with their marks
  pub kept : Lines
  pub heard : Heard lines opened (held v no_lines) io.held_after (held v' kept)

-- all of the input was read and its lines were heard, and the place is that of the lines that stand
pub record RanWhole (first : First) (io : Streams) (v v' : Session) (place : Place) : Type 0 where
  pub input : List ℕ
  pub ended : IsAtEnd io.unread_after
  pub played : Played first io v v' input (lines_of input)
  pub place_is : InEach v' (λ game s. place ≡ place_on game s.done)

-- a read failed, and the lines that were read whole were heard
pub record RanToRead (first : First) (io : Streams) (v v' : Session) : Type 0 where
  pub input : List ℕ
  pub played : Played first io v v' input (whole_lines input)

-- writing failed in a reply to a line
pub record BrokeInReply (first : First) (io : Streams) (v v' : Session) : Type 0 where
  pub input : List ℕ
  pub lines : List (List ℕ)
  pub took : Consumes io.unread_before io.unread_after input
  pub read : LinesRead io.unread_after input lines
  pub opened : Option (List ℕ)
  pub opening : IsOpened first v io.held_before opened
  pub kept : Lines
  pub broke : BrokeIn lines opened (held v no_lines) io.held_after (held v' kept)

-- writing failed in the opening, or in the reply to a line
pub data RanToWrite (first : First) (io : Streams) (v v' : Session) : Type 0 where
  in_opening : Keeps io.unread_before io.unread_after → v' ≡ v
      → ((game : Game) → IsSessionOf game nothing v
      → BrokeAs game (opening_of (telling_of game)) (Some first) io.held_before io.held_after)
      → RanToWrite first io v v'
  in_reply : BrokeInReply first io v v' → RanToWrite first io v v'

abbrev pub RanAsObjects : First → Streams → Session → Session → Result Place RunFault → Type 0
RanAsObjects first io v v' (Ok place) = RanWhole first io v v' place
RanAsObjects first io v v' (Err Reading) = RanToRead first io v v'
RanAsObjects first io v v' (Err Writing) = RanToWrite first io v v'
