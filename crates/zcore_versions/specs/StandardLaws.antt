-- The laws of the Standard's machine that functions of `laws` carry as their contracts. Those that compare it with the
-- profile's are of stories without alphabets of their own: the profile would read the texts of others by the default
-- alphabets.
use Rattle.std.specs.Prelude.{◌≡◌, ◌&&◌, ◌||◌, ℕ, Bool, true, false, not, List, [], Some, None, map, IfSome}
use Rattle.std.specs.List.{list_all}
use Rattle.std.specs.Option.{is_none}
use Rattle.zcore.specs.State.{State, Out, done, halt}
use Rattle.zcore.specs.declared.standard_state.StandardState.{StandardState}
use Rattle.zcore.specs.declared.next.Next.{Next}
use Rattle.zcore.specs.declared.place.Place.{Place}
use Rattle.zcore.specs.declared.place.Place.TheVariants as places
use Rattle.zcore.specs.Execution.{step}
use Rattle.zcore.specs.Parts.{is_text_buffer}
use Rattle.zcore.specs.Turn.{StateOfPlay, Whole, TurnsBy, turn_from, turn_on, is_waiting, plays, plays_of}
use Rattle.zcore_standard.specs.Place.{Here, within, is_none_open}
use Rattle.zcore_standard.specs.Loaded.{Loaded}
use Rattle.zcore_standard.specs.Unicode.{is_ascii}
use Rattle.zcore_standard.specs.Machine.{standard, standard_step, standard_turn, standard_turn_on, begins, by_standard}
use Rattle.zcore_standard.specs.Machine.{with_standard_state}

-- a turn ends in a whole state, in this one only, and within its weight
pub record EndsOneWay (loaded : Loaded) (here : Here) (s : State) : Type 0 where
  pub whole : Whole
  pub ends : TurnsBy (standard loaded) here s whole
  pub found : standard_turn loaded here s ≡ Some whole
  pub only : (other : Whole) → TurnsBy (standard loaded) here s other → other ≡ whole

abbrev pub EveryStandardTurnEnds : Type 0
EveryStandardTurnEnds = (loaded : Loaded) (here : Here) (s : State) → EndsOneWay loaded here s

abbrev pub is_fault : Place → Bool
is_fault (places.Fault cause) = true
is_fault _ = false

abbrev pub ends_in_fault : {H : Type 0} → Out H → Bool
ends_in_fault (done next s) = false
ends_in_fault (halt place s) = is_fault place

abbrev pub waits : {H : Type 0} → Out H → Bool
waits (done next s) = false
waits (halt place s) = is_waiting place

-- no stream is open, and the upper window is not there
abbrev pub is_plain : Here → Bool
is_plain here = is_none_open here.streams && is_none here.upper

-- a step that waits closes no stream, and shows or drops no text of the upper window
abbrev pub closes_none : Here → Out Next → Bool
closes_none here o = is_plain here || not (waits o)

-- A step of the profile that meets no fault is the Standard's step, and leaves windows, dice and streams as they are.
-- It does not wait with a stream open or the upper window there, which the profile does not have.
abbrev pub KeepsWhatTheProfileSteps : Type 0
KeepsWhatTheProfileSteps =
    (loaded : Loaded) (here : Here) (s : State) → loaded.own_alphabets ≡ None
    → ends_in_fault (step here.next s) ≡ false → closes_none here (step here.next s) ≡ true
    → standard_step loaded here s ≡ within here (step here.next s)

-- A turn of the profile that ends in no fault is the Standard's turn in the lower window: with the same text, memory,
-- frames, place and program counter, and with the window, the dice and the kept states that it began with.
abbrev pub KeepsWhatTheProfilePlays : Type 0
KeepsWhatTheProfilePlays =
    (loaded : Loaded) (standard_state : StandardState) (kept : List (List ℕ)) (next : Next) (s : State) (whole : Whole)
    → loaded.own_alphabets ≡ None → standard_state.window ≡ 0
    → turn_from next s ≡ Some whole → is_fault whole.place ≡ false
    → standard_turn loaded (begins standard_state kept next) s ≡ Some (with_standard_state standard_state kept whole)

-- A line is waited for as the profile does it: no letter is left over in the text buffer, which is after the header.
abbrev pub WaitsAsTheProfile : StateOfPlay → Type 0
WaitsAsTheProfile play = IfSome play.pending (λ pending. is_text_buffer play.memory pending.text_buffer ≡ true)

-- a line of ASCII, which is given as it is typed
abbrev pub is_plain_line : List ℕ → Bool
is_plain_line line = list_all is_ascii line

-- And so is the turn of such a line. While the profile waits for one, its text buffer is one that its `aread` has tested: it
-- holds no letters. This machine would keep letters that are left over in it.
abbrev pub KeepsWhatTheProfileAnswers : Type 0
KeepsWhatTheProfileAnswers =
    (loaded : Loaded) (line : List ℕ) (fuel : ℕ) (play : StateOfPlay) (whole : Whole) → loaded.own_alphabets ≡ None
    → is_plain_line line ≡ true → play.standard_state.window ≡ 0 → WaitsAsTheProfile play
    → turn_on line fuel play ≡ Some whole → is_fault whole.place ≡ false
    → standard_turn_on loaded line fuel play ≡ Some (with_standard_state play.standard_state play.kept whole)

-- no turn of these ends in a fault
abbrev pub have_no_fault : List Whole → Bool
have_no_fault wholes = list_all (λ whole. not (is_fault whole.place)) wholes

-- A run over such lines in which the profile meets no fault is the Standard's run of the same memory, turn by turn.
abbrev pub KeepsWhatTheProfileRuns : Type 0
KeepsWhatTheProfileRuns =
    (loaded : Loaded) (story : List ℕ) (fuel : ℕ) (lines : List (List ℕ)) → loaded.own_alphabets ≡ None
    → loaded.dice.window ≡ 0 → list_all is_plain_line lines ≡ true → have_no_fault (plays story fuel lines) ≡ true
    → plays_of (by_standard loaded story fuel) lines ≡ map (with_standard_state loaded.dice []) (plays story fuel lines)
