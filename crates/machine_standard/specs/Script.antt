-- What a story prints into its transcript, stream 2, during a turn (Z-Machine Standards Document 1.1, sections 7.1 to 7.4).
-- It is a second reading of the steps of the turn, beside the text that is shown, and changes nothing: neither what is
-- printed nor the state.
use Rattle.std.specs.Prelude.{◌≡◌, ◌==◌, ◌&&◌, ◌%◌, ℕ, zero, suc, Bool, not, if◌then◌else◌, List, [], ◌∷◌, ◌++◌}
use Rattle.std.specs.Prelude.{drop, length, slice_index, Option, Some, None}
use Rattle.std.specs.Option.{unwrap_or}
use Rattle.zcore.specs.declared.place.Place.{Place}
use Rattle.zcore.specs.State.{Pending, State}
use Rattle.zcore.specs.Turn.{StateOfPlay, after_step, first_next, first_state, is_waiting, resumed, weight}
use Rattle.zcore_standard.specs.Loaded.{Loaded}
use Rattle.zcore_standard.specs.Machine.{begins, begins_after}
use Rattle.zcore_standard.specs.Place.{Here, is_none_open}
use Rattle.zcore_standard.specs.Saving.{given_to, save_form_of}
use Rattle.zcore_standard.specs.Streams.{flags_2_low}
use Rattle.zcore_versions.specs.Machine.{any_step}
use Rattle.zcore_versions.specs.Reading.{any_given}
use Rattle.zcore_versions.specs.Versions.{Story}

-- Whether the transcript is on: the player writes one, and bit 0 of Flags 2 tells so (7.4 and 11.1). A story turns it on
-- and off by `output_stream`, or by a store.
abbrev pub is_on : Loaded → List ℕ → Bool
is_on loaded memory = loaded.has_transcript && (slice_index memory flags_2_low % 2 == 1)

-- What is printed goes there in the lower window, while no memory stream is open.
abbrev pub is_heard : Here → Bool
is_heard here = is_none_open here.streams && (here.standard_state.window == 0)

abbrev pub is_scripted : Loaded → Here → State → Bool
is_scripted loaded here s = is_on loaded s.memory && is_heard here

-- A step

-- what a step adds that has led to this text: what it has printed
abbrev pub added : Loaded → Here → State → List ℕ → List ℕ
added loaded here s text = if is_scripted loaded here s then drop (length s.text) text else []

-- The same of the step that ends a turn. The prompt for the name of a saved game is the player's, not the story's.
abbrev pub last_added : Loaded → Place → Here → State → List ℕ → List ℕ
last_added loaded place here s text = if is_waiting place then [] else added loaded here s text

-- A turn

-- what there is after a turn of at most so many steps, where this was there before
unfoldable pub script_by : Story → ℕ → Here → State → List ℕ → Option (List ℕ)
script_by story zero here s script = None
script_by story (suc count) here s script = after_step (any_step story here s)
    (λ next t. script_by story count next t (script ++ added story.loaded here s t.text))
    (λ place t. Some (script ++ last_added story.loaded place here s t.text))

-- a turn leads from one to another
pub record Scripts (story : Story) (here : Here) (s : State) (before after : List ℕ) : Type 0 where
  pub count : ℕ
  pub scripts : script_by story count here s before ≡ Some after

-- A line that is read in the lower window goes there as it was typed, and a newline after it. A key does not, and neither
-- does the name of a saved game.
abbrev pub typed : Loaded → Pending → List ℕ → List ℕ → ℕ → List ℕ
typed loaded pending line memory window =
    if is_on loaded memory && ((window == 0) && not (pending.text_buffer == 0)) then line ++ 10 ∷ [] else []

-- Whole turns

-- a turn has at most as many steps as its weight
unfoldable pub any_script : Story → Here → State → List ℕ → List ℕ
any_script story here s before = unwrap_or (script_by story (weight here.next s) here s before) []

-- that of the opening of a story, as its memory is after loading
unfoldable pub opening_script : Story → List ℕ → ℕ → List ℕ
opening_script story memory fuel =
    any_script story (begins story.loaded.dice [] (first_next memory fuel)) (first_state memory) []

abbrev pub pending_script : Story → Option Pending → List ℕ → ℕ → StateOfPlay → List ℕ
pending_script story None line fuel play = []
pending_script story (Some pending) line fuel play =
    let before = typed story.loaded pending line play.memory play.standard_state.window in
    after_step (given_to story.loaded (save_form_of story.version.number) (any_given story) pending line fuel (resumed play))
    (λ next s. any_script story (begins_after (length s.text) play.standard_state play.kept next) s before)
    (λ place s. before)

-- and of the turn of what is given to a state of play that waits for it
unfoldable pub script_on : Story → List ℕ → ℕ → StateOfPlay → List ℕ
script_on story line fuel play = pending_script story play.pending line fuel play
