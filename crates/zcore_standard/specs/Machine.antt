-- The Standard's machine: a further operation where its opcode is found, and else a step of the profile.
use Rattle.std.specs.Prelude.{◌==◌, ℕ, if◌then◌else◌, List, [], length, Option, Some, None}
use Rattle.zcore.specs.declared.next.Next.{Next}
use Rattle.zcore.specs.declared.place.Place.{Place}
use Rattle.zcore.specs.declared.standard_state.StandardState.{StandardState}
use Rattle.zcore.specs.State.{Pending, State, Out}
use Rattle.zcore.specs.Turn.{StateOfPlay, Whole, Machine, Play, after_step, turn_by, weight, resumed}
use Rattle.zcore.specs.Turn.{first_next, first_state, ended, is_waiting}
use Rattle.zcore_standard.specs.declared.operations.StandardOperation.{StandardOperation}
use Rattle.zcore_standard.specs.Place.{Here, plain, within}
use Rattle.zcore_standard.specs.Loaded.{Loaded}
use Rattle.zcore_standard.specs.Operations.{row_of, further_at}
use Rattle.zcore_standard.specs.Instruction.{decode_row}
use Rattle.zcore_standard.specs.Performing.{execute_further}
use Rattle.zcore_standard.specs.Windows.{begun_at}
use Rattle.zcore_standard.specs.Streams.{heard_of}
use Rattle.zcore_standard.specs.Reading.{standard_given}
use Rattle.zcore_standard.specs.Nothing.{step_known}
use Rattle.zcore_standard.specs.Saving.{given_to}
use Rattle.zcore_standard.specs.declared.save_form.SaveForm.TheVariants as forms

abbrev pub chosen : Loaded → Option StandardOperation → Here → State → Out Here
chosen loaded None here s = within here (step_known loaded here.next s)
chosen loaded (Some operation) here s =
    execute_further loaded operation here (decode_row s.memory here.next.program_counter (row_of operation)) s

unfoldable pub standard_step : Loaded → Here → State → Out Here
standard_step loaded here s = chosen loaded (further_at s.memory here.next.program_counter) here s

-- a whole state as the profile leaves it, but with a window and dice, and with states that the story has kept
abbrev pub with_standard_state : StandardState → List (List ℕ) → Whole → Whole
with_standard_state standard_state kept whole =
    record whole { state = record whole.state { standard_state = standard_state; kept = kept } }

-- a state of play, and a whole state, in which a story has kept these states
abbrev pub play_keeping : List (List ℕ) → StateOfPlay → StateOfPlay
play_keeping kept play = record play { kept = kept }

abbrev pub keeping : List (List ℕ) → Whole → Whole
keeping kept whole = record whole { state = play_keeping kept whole.state }

-- The text that a turn shows of what it has printed. A read has closed its streams, and has shown the upper window or
-- dropped its text; at any other end what went to streams and to that window is dropped.
abbrev pub shown : Here → Place → List ℕ → List ℕ
shown here place text = if is_waiting place then text else heard_of here text

-- window and dice last from turn to turn, and so do the states that are kept
abbrev pub standard_ended : Here → Place → State → Whole
standard_ended here place s =
    with_standard_state here.standard_state here.kept
    (ended here.next place (record s { text = shown here place s.text }))

-- the machine of a story that was loaded so
abbrev pub standard : Loaded → Machine Here
standard loaded = record { step = standard_step loaded; ended = standard_ended }

-- the whole turn; the profile's weight falls with each step
unfoldable pub standard_turn : Loaded → Here → State → Option Whole
standard_turn loaded here s = turn_by (standard loaded) (weight here.next s) here s

-- where a turn goes on after so many bytes of text in the lower window: no stream is open, and the upper window is there,
-- empty, if it is selected
abbrev pub begins_after : ℕ → StandardState → List (List ℕ) → Next → Here
begins_after from standard_state kept next =
    record (plain standard_state kept next) { upper = if standard_state.window == 0 then None else Some (begun_at from) }

-- where a turn begins
abbrev pub begins : StandardState → List (List ℕ) → Next → Here
begins standard_state kept next = begins_after 0 standard_state kept next

-- The opening of a story, as its memory is after loading. No state is kept.
unfoldable pub standard_opening : Loaded → List ℕ → ℕ → Option Whole
standard_opening loaded story fuel =
    standard_turn loaded (begins loaded.dice [] (first_next story fuel)) (first_state story)

abbrev pub standard_pending : Loaded → Option Pending → List ℕ → ℕ → StateOfPlay → Option Whole
standard_pending loaded None line fuel play = None
standard_pending loaded (Some pending) line fuel play =
    after_step (given_to loaded forms.Extended (standard_given loaded) pending line fuel (resumed play))
    (λ next s. standard_turn loaded (begins_after (length s.text) play.standard_state play.kept next) s)
    (λ place s. Some (standard_ended (begins_after (length s.text) play.standard_state play.kept
    (record { program_counter = play.program_counter; fuel = fuel })) place s))

-- the turn of what is given to a state of play that waits for it
unfoldable pub standard_turn_on : Loaded → List ℕ → ℕ → StateOfPlay → Option Whole
standard_turn_on loaded line fuel play = standard_pending loaded play.pending line fuel play

-- a story as this machine plays it, with so much fuel for each turn
abbrev pub by_standard : Loaded → List ℕ → ℕ → Play
by_standard loaded story fuel = record {
  opening = standard_opening loaded story fuel;
  turn_on = λ line play. standard_turn_on loaded line fuel play;
}
