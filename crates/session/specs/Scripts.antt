-- What lines add to the transcript of a story, which is stream 2. In the profile that is nothing.
use Rattle.std.specs.Prelude.{ℕ, Bool, false, List, [], ◌∷◌, Option, Some, None}
use Rattle.zcore.specs.Turn.{StateOfPlay, Whole}
use Rattle.zcore_versions.specs.Versions.{Story}
use Rattle.machine_standard.specs.Script.{is_on, opening_script, script_on}

-- what the opening adds, and what the turn of a line adds
abbrev pub opening_script_with : Option Story → List ℕ → ℕ → List ℕ
opening_script_with None memory fuel = []
opening_script_with (Some story) memory fuel = opening_script story memory fuel

abbrev pub turn_script : Option Story → List ℕ → ℕ → StateOfPlay → List ℕ
turn_script None line fuel play = []
turn_script (Some story) line fuel play = script_on story line fuel play

-- whether the transcript is on in a state of play
abbrev pub is_on_with : Option Story → StateOfPlay → Bool
is_on_with None play = false
is_on_with (Some story) play = is_on story.loaded play.memory

-- the same in the last of some whole states, and what the turn of a line adds that follows it
abbrev pub last_is_on : Option Story → List Whole → Bool
last_is_on loaded [] = false
last_is_on loaded (w ∷ []) = is_on_with loaded w.state
last_is_on loaded (w ∷ v ∷ ws) = last_is_on loaded (v ∷ ws)

abbrev pub last_script : Option Story → ℕ → List ℕ → List Whole → List ℕ
last_script loaded fuel line [] = []
last_script loaded fuel line (w ∷ []) = turn_script loaded line fuel w.state
last_script loaded fuel line (w ∷ v ∷ ws) = last_script loaded fuel line (v ∷ ws)
