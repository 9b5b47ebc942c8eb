-- A game: a story as a session plays it.
use Rattle.std.specs.Prelude.{◌≡◌, ℕ, Bool, false, if◌then◌else◌, Option, None, Some, List, length, slice_index_or}
use Rattle.zcore.specs.declared.place.Place.{Place}
use Rattle.zcore.specs.Turn.{Play, plays_of, last_text, last_place}
use Rattle.session.specs.declared.mode.Keep.{Keep}
use Rattle.session.specs.declared.mode.Mode.{Mode}
use Rattle.session.specs.Asking.{asks_with, last_status, told_at}
use Rattle.session.specs.Showing.{nothing_shown, shown_with, showing_of}
use Rattle.session.specs.Shown.{Showing, Shown}
use Rattle.session.specs.Modes.{loaded_in, bytes_in, play_in, is_typable_with}
use Rattle.session_lines.specs.Standing.{Standing, reached}
use Rattle.session.specs.Naming.{last_asked}
use Rattle.session.specs.Session.{Session}
use Rattle.zcore_standard.specs.declared.save_form.Purpose.{Purpose}
use Rattle.session.specs.Sessions.{IsSession, all_lines}
use Rattle.session_lines.specs.Transcript.{Telling, Typed, Answer, answer_of, replies_of, standing_after, transcript_of}
use Rattle.session_lines.specs.Names.{given_after}

pub record Game : Type 0 where
  -- which opcodes it may use
  pub mode : Mode
  -- the bytes of the story file
  pub story : List ℕ
  -- what each turn can spend
  pub fuel : ℕ
  -- how many turns can be undone; without a bound all
  pub keep : Option ℕ
  -- what is shown of turns besides their texts
  pub showing : Showing

abbrev pub game_keeping : Mode → List ℕ → ℕ → Keep → Game
game_keeping mode story fuel keep =
    record { mode = mode; story = story; fuel = fuel; keep = keep.turns; showing = showing_of keep }

-- one in which pictures begin blank, no styles are kept, and nothing is drawn on a screen
abbrev pub game_of : Mode → List ℕ → ℕ → Option ℕ → Game
game_of mode story fuel keep =
    game_keeping mode story fuel (record { turns = keep; picture = false; styles = false; rows = None })

-- the bytes with which its machine begins
abbrev pub bytes_of : Game → List ℕ
bytes_of game = bytes_in game.mode game.story

-- how its story is played
abbrev pub play_on : Game → Play
play_on game = play_in game.mode game.story game.fuel

-- what the story prints last on these lines: its opening where there are none, else the turn of the last
abbrev pub text_on : Game → List (List ℕ) → List ℕ
text_on game lines = last_text (plays_of (play_on game) lines)

-- where it then is
abbrev pub place_on : Game → List (List ℕ) → Place
place_on game lines = last_place (plays_of (play_on game) lines)

-- a line that it can be given
abbrev pub is_typable_on : Game → List ℕ → Bool
is_typable_on game line = is_typable_with (loaded_in game.mode game.story) line

-- whether a line asks for the status line, and what that is on these lines
abbrev pub asks_on : Game → List ℕ → Bool
asks_on game line = asks_with (loaded_in game.mode game.story) line

-- what was shown on the way to each whole state on these lines
abbrev pub shown_on : Game → List (List ℕ) → List Shown
shown_on game lines = shown_with (loaded_in game.mode game.story) game.showing (bytes_of game) game.fuel
    (plays_of (play_on game) lines) lines

abbrev pub status_on : Game → List (List ℕ) → List ℕ
status_on game lines =
    last_status (loaded_in game.mode game.story) (plays_of (play_on game) lines) (shown_on game lines)

-- what the story prints last, with marks, where styles are kept; on a screen without what that shows anyway
abbrev pub marked_on : Game → List (List ℕ) → List ℕ
marked_on game lines = (slice_index_or (shown_on game lines) (length lines) nothing_shown).marked

-- and what is told of it
abbrev pub told_on : Game → List (List ℕ) → List ℕ
told_on game lines = if game.showing.styles then marked_on game lines else text_on game lines

-- the reply to a line that asks
abbrev pub asked_on : Game → List ℕ → Option (List (List ℕ) → List ℕ)
asked_on game line =
    if asks_on game line then Some (λ lines. told_at (place_on game lines) (status_on game lines)) else None

-- what its story asks for on these lines, and what it is given for another
abbrev pub asked_for_on : Game → List (List ℕ) → Option Purpose
asked_for_on game lines = last_asked (loaded_in game.mode game.story) (plays_of (play_on game) lines)

abbrev pub given_on : Game → List (List ℕ) → Typed → List ℕ
given_on game lines x = given_after (asked_for_on game lines) x.line x.answer

abbrev pub telling_of : Game → Telling
telling_of game = record {
  text = text_on game;
  place = place_on game;
  takes = is_typable_on game;
  given = given_on game;
  asked = asked_on game;
}

-- the same, with marks where styles are kept
abbrev pub told_of : Game → Telling
told_of game = record (telling_of game) { text = told_on game }

-- The session plays this game by its machine, and these lines stand.
pub record IsSessionOf (game : Game) (s : Standing) (v : Session) : Type 0 where
  pub loaded : v.loaded ≡ loaded_in game.mode game.story
  pub session : IsSession (bytes_of game) game.fuel (play_on game) game.keep s v
  pub showing : v.showing ≡ game.showing
  pub shown : v.shown ≡ reached s (shown_on game (all_lines s))

-- P holds of each game and the lines that stand, of which this is the session.
abbrev pub InEach : Session → (Game → Standing → Type 0) → Type 0
InEach v P = (game : Game) (s : Standing) → IsSessionOf game s v → P game s

-- Replies and transcripts of a game, which tells what the machine's turns on its story file tell, with marks where styles
-- are kept

abbrev pub answer : Game → Standing → Typed → Answer
answer game = answer_of (told_of game) game.keep

abbrev pub replies : Game → Standing → List Typed → List ℕ
replies game = replies_of (told_of game) game.keep

abbrev pub after : Game → Standing → List Typed → Standing
after game = standing_after (told_of game) game.keep

abbrev pub transcript : Game → List Typed → List ℕ
transcript game = transcript_of (told_of game) game.keep
