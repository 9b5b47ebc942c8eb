-- The styles after a step: what they are read off before it, and what it makes of them.
use Rattle.std.specs.Prelude.{◌≡◌, ◌≤◌, ℕ, Bool, true, false, List, Option, Some, None, IfSome, Result, Ok, Err}
use Rattle.zcore.specs.declared.next.Next.{Next}
use Rattle.zcore.specs.State.{State}
use Rattle.zcore_standard.specs.declared.operations.StandardOperation.{StandardOperation}
use Rattle.zcore_standard.specs.declared.operations.StandardOperation.TheVariants.{Restart, SetTextStyle}
use Rattle.zcore_standard.specs.declared.windows.Upper.{Upper}
use Rattle.zcore_standard.specs.Place.{Here}
use Rattle.zcore_standard.specs.Streams.{heard}
use Rattle.zcore_versions.specs.Versions.{Story}
use Rattle.machine_frames.specs.declared.end.End.{End}
use Rattle.machine_frames.specs.declared.end.End.TheVariants as ends
use Rattle.machine_standard_windows.specs.TurnState.{place}
use Rattle.machine_standard_windows.specs.declared.turn_state.TurnState.{TurnState}
use Rattle.machine_picture.specs.Picture.{can_wait, operation_at}
use Rattle.machine_picture.specs.Represented.{IsLine, IsShown, IsWithin}
use Rattle.machine_picture.specs.declared.lines.Line.{Line}
use Rattle.machine_picture.specs.Styles.{Styles, added, after_last, after_step_to, moves, value_at}
use Rattle.machine_styling.specs.declared.before.Before.{Before}
use Rattle.machine_styling.specs.declared.before.Change.{Change}
use Rattle.machine_styling.specs.declared.before.Change.TheVariants as changes

-- whether an operation changes the style that the story has chosen
abbrev pub restyles : StandardOperation → Bool
restyles Restart = true
restyles SetTextStyle = true
restyles _ = false

-- one that does nothing to styles but adding some: it cannot wait, and there is no upper window whose cursor it moves
pub record IsOther (operation : StandardOperation) (here : Here) : Type 0 where
  pub goes_on : can_wait operation ≡ false
  pub nowhere : moves operation ≡ true → here.upper ≡ None
  pub styles : restyles operation ≡ false

-- one that may move the cursor of the upper window, which was in this line of a text
pub record IsMoving (operation : StandardOperation) (here : Here) (text : List ℕ) (from : Line) : Type 0 where
  pub moving : moves operation ≡ true
  pub upper : Upper
  pub there : here.upper ≡ Some upper
  pub line : IsLine upper text from

-- what a step does to styles, besides adding some
abbrev pub Changes : Option StandardOperation → Here → State → Change → Type 0
Changes None here s change = change ≡ changes.None
Changes (Some operation) here s changes.None = IsOther operation here
Changes (Some operation) here s changes.Restart = operation ≡ Restart
Changes (Some operation) here s (changes.Choose value) =
    (operation ≡ SetTextStyle) × (value ≡ value_at s here.next.program_counter)
Changes (Some operation) here s (changes.Move line) = IsMoving operation here s.text line
Changes (Some operation) here s (changes.Wait shown) =
    (can_wait operation ≡ true) × IsShown here.upper here.standard_state.window (heard here.streams s.text) shown

-- and what it adds
pub record IsBefore (story : Story) (here : Here) (s : State) (style : ℕ) (before : Before) : Type 0 where
  pub added : before.added
      ≡ added story.version.number (operation_at story s.memory here.next.program_counter) s.memory style
  pub change : Changes (operation_at story s.memory here.next.program_counter) here s before.change

-- what a read shows lies in a text that is so long
abbrev pub IsFitting : Change → ℕ → Type 0
IsFitting (changes.Wait shown) long = (shown.kept ≤ long) × IfSome shown.window (IsWithin shown.kept)
IsFitting _ long = Unit {0}

-- what goes with the place of a step is as before where it ends the turn
abbrev pub StaysAt : Result Next End → TurnState → TurnState → Type 0
StaysAt (Ok next) old new = Unit {0}
StaysAt (Err (ends.Stop place)) old new = new ≡ old
StaysAt (Err ends.Memory) old new = Unit {0}

-- the styles after a step from a place and a state; where memory was refused they can be anything
abbrev pub Restyles : Result Next End → Story → Here → State → TurnState → List ℕ → Styles → Styles → Type 0
Restyles (Ok next) story here s turn text old new = new ≡ after_step_to story here s (place turn next) text old
Restyles (Err (ends.Stop end)) story here s turn text old new = new ≡ after_last story here s end text old
Restyles (Err ends.Memory) story here s turn text old new = Unit {0}
