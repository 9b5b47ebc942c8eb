-- The machine of a session: how it is loaded, and what its turns come to.
use Rattle.std.specs.Prelude.{◌≡◌, ℕ, List, [], Option, Some, None, Result, Ok, Err}
use Rattle.std.specs.Borrow.{Bor}
use Rattle.zcore.specs.Header.{static_base_of}
use Rattle.zcore.specs.Turn.{Whole, first_state}
use Rattle.machine_frames.specs.Contents.{Contents, memory_of}
use Rattle.machine_frames.specs.Playing.{IsOpening}
use Rattle.machine_frames.specs.States.{state_of, play_of, IsStoreOf}
use Rattle.machine_standard.specs.Loads.{story_of}
use Rattle.machine_picture.specs.Styles.{Styles}
use Rattle.zcore_standard.specs.Machine.{play_keeping}
use Rattle.session.specs.declared.fault.OpenFault.{OpenFault}
use Rattle.session.specs.declared.mode.Mode.{Mode}
use Rattle.session.specs.declared.player.Player.{Player}
use Rattle.session.specs.declared.player.Player.TheVariants as players
use Rattle.session.specs.Showing.{opening_drawing_with, opening_styles_with, turn_drawing, turn_styles}
use Rattle.session.specs.Loads.{CanBeLoaded, RefusesToLoad}
use Rattle.session.specs.Scripts.{opening_script_with, turn_script}
use Rattle.session.specs.Modes.{Known, IsSettled, CanTake, loaded_in, bytes_in, opening_with, turn_with}

abbrev pub known_of : Player → Known
known_of (players.Profile machine) = record { header = machine.header; loaded = None }
known_of (players.Standard machine) = record { header = machine.header; loaded = Some (story_of machine) }

-- The player knows the story's header and what loading fixes in the mode, and the store is the story's at its beginning.
pub record IsPlayerOf (mode : Mode) (story : List ℕ) (known : Known) (s : Contents) : Type 0 where
  pub can : CanBeLoaded mode story
  pub loaded : known.loaded ≡ loaded_in mode story
  pub settled : IsSettled known
  pub store : IsStoreOf known.header s
  pub state : state_of s [] ≡ first_state (bytes_in mode story)
  pub static_base : known.header.static_base ≡ static_base_of (bytes_in mode story)

abbrev pub LoadsPlayer : Mode → List ℕ → Result (Player × Contents) OpenFault → Type 0
LoadsPlayer mode story (Ok x) = IsPlayerOf mode story (known_of x.0) x.1
LoadsPlayer mode story (Err fault) = RefusesToLoad mode story fault

-- the turn of a line comes to a whole state, from what a store holds and what the story has kept
abbrev pub LineTurn : Known → List ℕ → List (List ℕ) → Contents → ℕ → Whole → Type 0
LineTurn known line kept s fuel whole = turn_with known.loaded line fuel (play_keeping kept (play_of s)) ≡ Some whole

-- a turn: without a line the opening, before which nothing is kept, else that of the line
abbrev pub PlayerTurn : Known → Option (Bor (List ℕ)) → List (List ℕ) → Contents → ℕ → Whole → Type 0
PlayerTurn known None kept s fuel whole = kept ≡ [] → opening_with known.loaded (memory_of s) fuel ≡ Some whole
PlayerTurn known (Some line) kept s fuel whole = LineTurn known line.now kept s fuel whole

-- what a turn draws in the upper window, in a picture that begins with one text and then is another; the opening's is blank
abbrev pub PlayerDrawing : Known → Option (Bor (List ℕ)) → List (List ℕ) → Contents → ℕ → List ℕ → List ℕ → Type 0
PlayerDrawing known None kept s fuel drawing text =
    kept ≡ [] → drawing ≡ [] → text ≡ opening_drawing_with known.loaded (memory_of s) fuel
PlayerDrawing known (Some line) kept s fuel drawing text =
    text ≡ turn_drawing known.loaded line.now fuel drawing (play_keeping kept (play_of s))

-- the styles of its text, which begins in one; the opening begins plain
abbrev pub PlayerStyles : Known → Option (Bor (List ℕ)) → List (List ℕ) → Contents → ℕ → ℕ → Styles → Type 0
PlayerStyles known None kept s fuel style last =
    kept ≡ [] → style ≡ 0 → last ≡ opening_styles_with known.loaded (memory_of s) fuel
PlayerStyles known (Some line) kept s fuel style last =
    last ≡ turn_styles known.loaded line.now fuel style (play_keeping kept (play_of s))

-- what it adds to the transcript of the story
abbrev pub PlayerScript : Known → Option (Bor (List ℕ)) → List (List ℕ) → Contents → ℕ → List ℕ → Type 0
PlayerScript known None kept s fuel script = kept ≡ [] → script ≡ opening_script_with known.loaded (memory_of s) fuel
PlayerScript known (Some line) kept s fuel script =
    script ≡ turn_script known.loaded line.now fuel (play_keeping kept (play_of s))

-- a store on which it can be played
abbrev pub IsReadyIn : Known → Option (Bor (List ℕ)) → Contents → Type 0
IsReadyIn known None = IsOpening
IsReadyIn known (Some line) = CanTake known.loaded
