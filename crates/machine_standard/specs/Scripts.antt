-- What a turn of the Standard's machine adds to the transcript of its story.
use Rattle.std.specs.Prelude.{◌≡◌, ◌++◌, ℕ, if◌then◌else◌, List, [], length, slice_index, Option, Some, None}
use Rattle.std.specs.Prelude.{Result, Ok, Err}
use Rattle.std.specs.Borrow.{Bor}
use Rattle.zcore.specs.declared.next.Next.{Next}
use Rattle.zcore.specs.State.{Out, Pending, State, done, halt}
use Rattle.zcore.specs.Turn.{first_next, first_state, is_waiting}
use Rattle.zcore_standard.specs.Loaded.{Loaded}
use Rattle.zcore_standard.specs.Machine.{begins, begins_after}
use Rattle.zcore_standard.specs.Place.{Here}
use Rattle.zcore_versions.specs.Versions.{Story}
use Rattle.machine_frames.specs.Contents.{Contents, memory_of}
use Rattle.machine_frames.specs.States.{state_of, pending_of, standard_state_of}
use Rattle.machine_frames.specs.declared.end.End.{End}
use Rattle.machine_frames.specs.declared.end.End.TheVariants as ends
pub use Rattle.machine_styling.specs.Restyling.{StaysAt}
use Rattle.machine_standard.specs.Playing.{any_waited}
use Rattle.machine_standard.specs.Script.{Scripts, added, last_added, typed}

-- what a step adds; where memory was refused it can be anything
abbrev pub AddsScript : Result Next End → Loaded → Here → State → List ℕ → List ℕ → List ℕ → Type 0
AddsScript (Ok next) loaded here s text old new = new ≡ old ++ added loaded here s text
AddsScript (Err (ends.Stop place)) loaded here s text old new = new ≡ old ++ last_added loaded place here s text
AddsScript (Err ends.Memory) loaded here s text old new = Unit {0}

-- The same by what a step has printed, where that goes to the transcript.
abbrev pub AddsPrinted : Result Next End → List ℕ → List ℕ → List ℕ → Type 0
AddsPrinted (Ok next) printed old new = new ≡ old ++ printed
AddsPrinted (Err (ends.Stop place)) printed old new = new ≡ old ++ (if is_waiting place then [] else printed)
AddsPrinted (Err ends.Memory) printed old new = Unit {0}

-- a turn that what is given has begun, after this, or ended at once
abbrev pub FollowsScript : (Next → State → List ℕ → List ℕ → Type 0) → List ℕ → Out Next → List ℕ → Type 0
FollowsScript turns before (done next s) script = turns next s before script
FollowsScript turns before (halt place s) script = script ≡ before

-- the turn of a store of a story that begins
abbrev pub OpensScript : Story → List (List ℕ) → Contents → ℕ → List ℕ → Type 0
OpensScript story kept s fuel script =
    Scripts story (begins story.loaded.dice kept (first_next (memory_of s) fuel)) (first_state (memory_of s)) [] script

-- what is typed into a store that waits
abbrev pub typed_into : Story → Pending → List ℕ → Contents → List ℕ
typed_into story pending line s =
    typed story.loaded pending line (memory_of s) (standard_state_of (slice_index s.cells)).window

abbrev pub IsTyped : Story → List ℕ → Contents → List ℕ → Type 0
IsTyped story line s script =
    (pending : Pending) → pending_of (slice_index s.cells) ≡ Some pending → script ≡ typed_into story pending line s

-- the turn of what is given to a store which waits; its text can begin before its first step
abbrev pub AnswersScript : Story → List ℕ → List (List ℕ) → Contents → ℕ → List ℕ → Type 0
AnswersScript story line kept s fuel script =
    (pending : Pending)
    × (pending_of (slice_index s.cells) ≡ Some pending)
    × FollowsScript (λ next t. Scripts story
    (begins_after (length t.text) (standard_state_of (slice_index s.cells)) kept next) t)
    (typed_into story pending line s) (any_waited story pending line fuel (state_of s [])) script

-- which turn is played: without a line the opening, else that of the line
abbrev pub OpensOrAnswersScript : Story → Option (Bor (List ℕ)) → List (List ℕ) → Contents → ℕ → List ℕ → Type 0
OpensOrAnswersScript story None = OpensScript story
OpensOrAnswersScript story (Some line) = AnswersScript story line.now
