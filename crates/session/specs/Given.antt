-- What a session tells of a story that asks for the name of a saved game.
use Rattle.std.specs.Prelude.{◌≡◌, ◌⊎◌, ℕ, Bool, true, false, List, Option, Some, None}
use Rattle.std.specs.Global.{Vec}
use Rattle.zcore.specs.State.{Pending, State}
use Rattle.zcore.specs.Turn.{StateOfPlay, is_waiting, resumed}
use Rattle.zcore_standard.specs.Loaded.{Loaded}
use Rattle.zcore_standard.specs.Saving.{can_be_saved, is_done, is_own_save, place_of, save_form_of}
use Rattle.zcore_standard.specs.Saving.{saved_game, test_success}
use Rattle.zcore_standard.specs.declared.save_form.Purpose.{Purpose}
use Rattle.zcore_versions.specs.Versions.{Story}
use Rattle.session.specs.Game.{Game, asked_for_on, is_typable_on, place_on}
use Rattle.session_lines.specs.Standing.{Standing}

-- For what the story asks for a name, where it waits and could be given the line; else the line is one like others.
abbrev pub IsAskedFor : Game → Standing → List ℕ → Option Purpose → Type 0
IsAskedFor game s line (Some purpose) =
    (asked_for_on game s.done ≡ Some purpose) × (is_typable_on game line ≡ true)
    × (is_waiting (place_on game s.done) ≡ true)
IsAskedFor game s line None =
    (asked_for_on game s.done ≡ None)
    ⊎ ((is_typable_on game line ≡ false) ⊎ (is_waiting (place_on game s.done) ≡ false))

-- the save file of a state with a place; none where the player has no save files or no file can tell the state
abbrev pub IsSaveOf : Loaded → ℕ → State → Option (Vec ℕ) → Type 0
IsSaveOf loaded place s (Some file) = (can_be_saved place s ≡ true) × (file.items ≡ saved_game loaded place s)
IsSaveOf loaded place s None = (loaded.saves ≡ None) ⊎ (can_be_saved place s ≡ false)

-- that of a state of play whose story waits; in the profile none
abbrev pub IsSaveIn : Option Story → StateOfPlay → Option (Vec ℕ) → Type 0
IsSaveIn None play file = file ≡ None
IsSaveIn (Some story) play file =
    (pending : Pending) → play.pending ≡ Some pending → IsSaveOf story.loaded (place_of pending) (resumed play) file

-- whether "success" can be answered to one whose story waits; in the profile not
abbrev pub IsPossibleIn : Option Story → StateOfPlay → Bool → Type 0
IsPossibleIn None play can = can ≡ false
IsPossibleIn (Some story) play can =
    (pending : Pending) → play.pending ≡ Some pending
    → can ≡ is_done (test_success (save_form_of story.version.number) (place_of pending) (resumed play))

-- whether bytes begin as the save files of a story do; in the profile none do
abbrev pub is_own_with : Option Story → List ℕ → Bool
is_own_with None bytes = false
is_own_with (Some story) bytes = is_own_save story.loaded bytes
