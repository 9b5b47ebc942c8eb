-- Turns of the Standard's machine on a store.
use Rattle.std.specs.Prelude.{◌≡◌, ◌≤◌, ◌+◌, ℕ, List, [], length, slice_index, Option, Some, None, Result}
use Rattle.std.specs.Borrow.{Bor}
use Rattle.journal.specs.Recording.{Recording}
use Rattle.zcore.specs.declared.next.Next.{Next}
use Rattle.zcore.specs.State.{Out, Pending, State}
use Rattle.zcore.specs.Turn.{ReachesBy, Whole, TurnsBy, first_next, first_state, weight}
use Rattle.zcore_standard.specs.Machine.{standard_ended, begins, begins_after}
use Rattle.zcore_standard.specs.Place.{Here}
use Rattle.zcore_standard.specs.Saving.{given_to, save_form_of}
use Rattle.machine_frames.specs.Contents.{Contents, memory_of}
use Rattle.machine_frames.specs.Playing.{FollowsBy, IsOpening}
use Rattle.machine_frames.specs.States.{state_of, pending_of, program_counter_of, standard_state_of}
use Rattle.machine_frames.specs.Went.{GoesOn}
use Rattle.machine_frames.specs.declared.end.End.{End}
use Rattle.machine_opcodes.specs.Printed.{ToldFrom}
use Rattle.machine_standard_windows.specs.TurnState.{place}
use Rattle.machine_standard_windows.specs.declared.turn_state.TurnState.{TurnState}
use Rattle.machine_picture.specs.Picture.{Picture, picture_by}
use Rattle.machine_picture.specs.Styles.{Styles, styles_by}
use Rattle.machine_standard.specs.Script.{script_by}
use Rattle.machine_versions_words.specs.Taking.{CanBeGivenBy}
use Rattle.zcore_versions.specs.Machine.{any, any_step}
use Rattle.zcore_versions.specs.Reading.{any_given}
use Rattle.zcore_versions.specs.Versions.{Story}

-- the turn of a store of a story that begins
abbrev pub OpensStandard : Story → List (List ℕ) → Contents → ℕ → Whole → Type 0
OpensStandard story kept s fuel whole =
    TurnsBy (any story) (begins story.loaded.dice kept (first_next (memory_of s) fuel)) (first_state (memory_of s)) whole

-- what is given for what a story waits for
abbrev pub any_waited : Story → Pending → List ℕ → ℕ → State → Out Next
any_waited story = given_to story.loaded (save_form_of story.version.number) (any_given story)

-- It is given, and the turn goes on; its text begins where the text ended.
abbrev pub TakesGiven : Story → List ℕ → ℕ → Result Next End → Recording Contents → List ℕ → Recording Contents → List ℕ
    → Type 0
TakesGiven story given fuel result old before new after =
    (pending : Pending) → (state_of old.store []).pending ≡ Some pending
    → ToldFrom (length before) result old before new after (any_waited story pending given fuel)

-- The turn of what is given to a store which waits for a line, a key or the name of a file, with the window and the dice
-- that the store keeps, and these states that the story has kept.
abbrev pub AnswersStandard : Story → List ℕ → List (List ℕ) → Contents → ℕ → Whole → Type 0
AnswersStandard story line kept s fuel whole =
    let dice = standard_state_of (slice_index s.cells) in
    let waited : Next = record { program_counter = program_counter_of (slice_index s.cells); fuel = fuel } in
    (pending : Pending)
    × (pending_of (slice_index s.cells) ≡ Some pending)
    × FollowsBy (λ next t w. TurnsBy (any story) (begins_after (length t.text) dice kept next) t w)
    (any_waited story pending line fuel (state_of s []))
    (λ place t. standard_ended (begins_after (length t.text) dice kept waited) place t) whole

-- which turn is played: without a line the opening, else that of the line
abbrev pub OpensOrAnswersStandard : Story → Option (Bor (List ℕ)) → List (List ℕ) → Contents → ℕ → Whole → Type 0
OpensOrAnswersStandard story None = OpensStandard story
OpensOrAnswersStandard story (Some line) = AnswersStandard story line.now

-- a store on which it can be played
abbrev pub IsReadyForStandard : Story → Option (Bor (List ℕ)) → Contents → Type 0
IsReadyForStandard story None = IsOpening
IsReadyForStandard story (Some line) = CanBeGivenBy story

-- Whatever is drawn from here on, so it is from the first place on, by more steps.
pub record LeadsTo (story : Story) (first : Here) (s : State) (p : Picture) (here : Here) (t : State) (q : Picture)
    : Type 0 where
  pub count : ℕ
  pub leads : (rest : ℕ) → picture_by story (count + rest) first s p ≡ picture_by story rest here t q

-- Whatever goes to the transcript from here on, so it does from the first place on, by more steps.
pub record LeadsScript (story : Story) (first : Here) (s : State) (before : List ℕ) (here : Here) (t : State)
    (script : List ℕ) : Type 0 where
  pub count : ℕ
  pub leads : (rest : ℕ) → script_by story (count + rest) first s before ≡ script_by story rest here t script

-- Whatever the styles are from here on, so they are from the first place on, by more steps.
pub record LeadsStyles (story : Story) (first : Here) (s : State) (p : Styles) (here : Here) (t : State) (q : Styles)
    : Type 0 where
  pub count : ℕ
  pub leads : (rest : ℕ) → styles_by story (count + rest) first s p ≡ styles_by story rest here t q

-- steps of this machine lead from one place to another, and leave what is around them as it is
pub record Ahead (story : Story) (first : Next) (old : Recording Contents) (here : Next)
    (new : Recording Contents) : Type 0 where
  pub goes_on : GoesOn old new
  pub reached : (turn : TurnState) (text : List ℕ) → (n : ℕ) × ReachesBy (any_step story) n (place turn first)
      (state_of old.store text) (place turn here) (state_of new.store text)
  -- they draw nothing
  pub pictured : (turn : TurnState) (text : List ℕ) (picture : Picture)
      → LeadsTo story (place turn first) (state_of old.store text) picture (place turn here) (state_of new.store text) picture
  -- and print nothing into the transcript
  pub scripted : (turn : TurnState) (text script : List ℕ)
      → LeadsScript story (place turn first) (state_of old.store text) script (place turn here) (state_of new.store text) script
  -- and have no style
  pub styled : (turn : TurnState) (text : List ℕ) (styles : Styles) → length styles.each ≡ length text
      → LeadsStyles story (place turn first) (state_of old.store text) styles (place turn here) (state_of new.store text) styles
  pub lighter : (text : List ℕ) → weight here (state_of new.store text) ≤ weight first (state_of old.store text)
