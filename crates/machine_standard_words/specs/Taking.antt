-- A line that is given to a store that waits for a line or a key.
use Rattle.std.specs.Prelude.{◌≡◌, ℕ, List, [], slice_index, true, Some, Result}
use Rattle.journal.specs.Recording.{Recording}
use Rattle.zcore.specs.declared.next.Next.{Next}
use Rattle.zcore.specs.State.{Pending}
use Rattle.zcore_standard.specs.Loaded.{Loaded}
use Rattle.zcore_standard.specs.Reading.{can_take, standard_given}
use Rattle.machine_frames.specs.Contents.{Contents, memory_of}
use Rattle.machine_frames.specs.States.{pending_of}
use Rattle.machine_frames.specs.Went.{Told}
use Rattle.machine_frames.specs.declared.end.End.{End}

-- a store that waits for what it can be given
pub record CanBeGiven (s : Contents) : Type 0 where
  pub pending : Pending
  pub waits : pending_of (slice_index s.cells) ≡ Some pending
  pub right : can_take (memory_of s) pending.text_buffer pending.parse_buffer ≡ true

-- What was answered to a line, and the store that is left, are what the definition makes of the state.
abbrev pub TakesGiven : Loaded → Result Next End → Recording Contents → Recording Contents → List ℕ → ℕ → Type 0
TakesGiven loaded result old new line fuel =
    (pending : Pending) → pending_of (slice_index old.store.cells) ≡ Some pending
    → Told result old [] new [] (standard_given loaded pending line fuel)
