-- The laws of the machine of any version that functions of `laws` carry as their contracts.
use Rattle.std.specs.Prelude.{◌≡◌, ℕ, List, Some, None, true, false}
use Rattle.zcore.specs.Execution.{step}
use Rattle.zcore.specs.declared.place.Place.TheVariants as places
use Rattle.zcore.specs.State.{Pending, State, halt}
use Rattle.zcore.specs.Turn.{StateOfPlay, Whole, TurnsBy}
use Rattle.zcore_standard.specs.Place.{Here, within}
use Rattle.zcore_versions.specs.StandardLaws.{ends_in_fault, closes_none}
use Rattle.zcore_standard.specs.Machine.{standard_step, standard_turn, standard_turn_on}
use Rattle.zcore_versions.specs.Versions.{Story, is_late}
use Rattle.zcore_versions.specs.Machine.{any, any_step, any_turn, any_turn_on}
use Rattle.zcore_versions.specs.Operations.{older_at}
use Rattle.zcore_versions.specs.Reading.{can_be_given}

-- a turn ends in a whole state, in this one only, and within its weight
pub record EndsOneWay (story : Story) (here : Here) (s : State) : Type 0 where
  pub whole : Whole
  pub ends : TurnsBy (any story) here s whole
  pub found : any_turn story here s ≡ Some whole
  pub only : (other : Whole) → TurnsBy (any story) here s other → other ≡ whole

abbrev pub EveryTurnOfAnyVersionEnds : Type 0
EveryTurnOfAnyVersionEnds = (story : Story) (here : Here) (s : State) → EndsOneWay story here s

-- in versions 5 and 8 it is the Standard's machine: a step, a turn, the turn of a line
pub record IsStandard (story : Story) : Type 0 where
  pub steps : (here : Here) (s : State) → any_step story here s ≡ standard_step story.loaded here s
  pub turns : (here : Here) (s : State) → any_turn story here s ≡ standard_turn story.loaded here s
  pub answers : (line : List ℕ) (fuel : ℕ) (play : StateOfPlay)
      → any_turn_on story line fuel play ≡ standard_turn_on story.loaded line fuel play

abbrev pub LateVersionsAreStandard : Type 0
LateVersionsAreStandard = (story : Story) → is_late story.version ≡ true → IsStandard story

-- Where the version reads an opcode as version 5 does, a step of the profile that meets no fault is a step of this
-- machine, and leaves windows, dice and streams as they are: so quick steps of the profile may be done there.
abbrev pub KeepsWhatTheProfileStepsElsewhere : Type 0
KeepsWhatTheProfileStepsElsewhere =
    (story : Story) (here : Here) (s : State) → story.loaded.own_alphabets ≡ None
    → older_at story.version s.memory here.next.program_counter ≡ None
    → ends_in_fault (step here.next s) ≡ false → closes_none here (step here.next s) ≡ true
    → any_step story here s ≡ within here (step here.next s)

-- what is waited for can be given
pub record WaitsForLine (story : Story) (t : State) : Type 0 where
  pub pending : Pending
  pub waits : t.pending ≡ Some pending
  pub right : can_be_given story t.memory pending.text_buffer pending.parse_buffer ≡ true

abbrev pub WaitsForWhatCanBeGiven : Type 0
WaitsForWhatCanBeGiven =
    (story : Story) (here : Here) (s t : State) → any_step story here s ≡ halt places.Waiting t → WaitsForLine story t
