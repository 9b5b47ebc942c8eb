-- The save file of the state after some lines, and what lines add to the transcript of their story.
use Rattle.std.specs.Prelude.{ℕ, Bool, List, [], ◌∷◌, Option, Some, None}
use Rattle.zcore.specs.State.{Pending}
use Rattle.zcore.specs.Turn.{StateOfPlay, Whole, plays_of, resumed}
use Rattle.zcore_standard.specs.Saving.{place_of, saved_game}
use Rattle.zcore_versions.specs.Versions.{Story}
use Rattle.session.specs.Game.{Game, bytes_of, play_on}
use Rattle.session.specs.Modes.{loaded_in}
use Rattle.session.specs.Scripts.{last_is_on, last_script, opening_script_with}

-- the save file of a state of play whose story waits for a name
abbrev pub file_with : Option Story → StateOfPlay → Option Pending → List ℕ
file_with None play pending = []
file_with (Some story) play None = []
file_with (Some story) play (Some pending) = saved_game story.loaded (place_of pending) (resumed play)

-- that of the last of some whole states
abbrev pub last_file : Option Story → List Whole → List ℕ
last_file loaded [] = []
last_file loaded (w ∷ []) = file_with loaded w.state w.state.pending
last_file loaded (w ∷ v ∷ ws) = last_file loaded (v ∷ ws)

abbrev pub file_on : Game → List (List ℕ) → List ℕ
file_on game lines = last_file (loaded_in game.mode game.story) (plays_of (play_on game) lines)

-- whether the transcript is on after some lines
abbrev pub is_on_after : Game → List (List ℕ) → Bool
is_on_after game lines = last_is_on (loaded_in game.mode game.story) (plays_of (play_on game) lines)

-- what the opening adds, and what the turn of a line adds after others
abbrev pub script_on_opening : Game → List ℕ
script_on_opening game = opening_script_with (loaded_in game.mode game.story) (bytes_of game) game.fuel

abbrev pub script_after : Game → List (List ℕ) → List ℕ → List ℕ
script_after game lines line =
    last_script (loaded_in game.mode game.story) game.fuel line (plays_of (play_on game) lines)
