-- A story as a session plays it, in the profile or by the whole Standard.
use Rattle.std.specs.Prelude.{◌≡◌, ◌&&◌, ℕ, nat_le, Bool, List, length, Option, Some, None, IfSome}
use Rattle.zcore.specs.declared.header.Header.{Header}
use Rattle.zcore.specs.Turn.{StateOfPlay, Whole, Play, opening, turn_on}
use Rattle.zcore_standard.specs.Input.{can_be_typed}
use Rattle.zcore_standard_loading.specs.Loading.{story_of, memory_for}
use Rattle.zcore_versions.specs.Machine.{any_opening, any_turn_on}
use Rattle.zcore_versions.specs.Versions.{Story}
use Rattle.machine_frames.specs.Contents.{Contents}
use Rattle.machine_frames.specs.Playing.{IsWaiting}
use Rattle.machine_standard.specs.Loads.{IsPlayedVersion}
use Rattle.machine_versions_words.specs.Taking.{CanBeGivenBy}
use Rattle.session_lines.specs.Standing.{is_typable, longest_line}
use Rattle.session.specs.declared.mode.Mode.{Mode}
use Rattle.session.specs.declared.mode.Mode.TheVariants.{Profile, Standard}

-- what loading fixes; in the profile nothing
abbrev pub loaded_in : Mode → List ℕ → Option Story
loaded_in Profile story = None
loaded_in (Standard options) story = Some (story_of story options)

-- the bytes with which the machine begins
abbrev pub bytes_in : Mode → List ℕ → List ℕ
bytes_in Profile story = story
bytes_in (Standard options) story = memory_for options.capabilities story

-- the opening of a machine for which loading fixed this
abbrev pub opening_with : Option Story → List ℕ → ℕ → Option Whole
opening_with None bytes fuel = opening bytes fuel
opening_with (Some story) bytes fuel = any_opening story bytes fuel

-- its turn of a line
abbrev pub turn_with : Option Story → List ℕ → ℕ → StateOfPlay → Option Whole
turn_with None line fuel play = turn_on line fuel play
turn_with (Some story) line fuel play = any_turn_on story line fuel play

-- a line that it can be given: in the profile one of ASCII, by the whole Standard one whose characters the story has
abbrev pub is_typable_with : Option Story → List ℕ → Bool
is_typable_with None line = is_typable line
is_typable_with (Some story) line = nat_le (length line) longest_line && can_be_typed story.loaded.characters line

-- a story in a mode, with so much fuel for each turn; in the profile this is `by_profile`
abbrev pub play_in : Mode → List ℕ → ℕ → Play
play_in mode story fuel = record {
  opening = opening_with (loaded_in mode story) (bytes_in mode story) fuel;
  turn_on = λ line play. turn_with (loaded_in mode story) line fuel play;
}

-- a store that waits for what its machine can be given: in the profile a line, by the whole Standard a key too
abbrev pub CanTake : Option Story → Contents → Type 0
CanTake None = IsWaiting
CanTake (Some story) = CanBeGivenBy story

-- What a player knows of its story: the header, and what loading fixed.
pub record Known : Type 0 where
  pub header : Header
  pub loaded : Option Story

-- loading has kept as much memory as is dynamic by the header, also as the file has it, if the player has save files;
-- and the version is played
pub record IsSettledStory (static_base : ℕ) (story : Story) : Type 0 where
  pub dynamic : length story.loaded.dynamic ≡ static_base
  pub saves : IfSome story.loaded.saves (λ memory. length memory ≡ static_base)
  pub version : IsPlayedVersion story.version

abbrev pub IsSettled : Known → Type 0
IsSettled known = IfSome known.loaded (IsSettledStory known.header.static_base)
