-- A line that is given to a store of any version that waits for a line or a key.
use Rattle.std.specs.Prelude.{◌≡◌, ℕ, List, [], slice_index, true, Some, Result}
use Rattle.journal.specs.Recording.{Recording}
use Rattle.zcore.specs.declared.next.Next.{Next}
use Rattle.zcore.specs.State.{Pending}
use Rattle.zcore_versions.specs.Reading.{any_given, can_be_given, can_take_old, older_given}
use Rattle.zcore_versions.specs.Versions.{Story}
use Rattle.machine_frames.specs.Contents.{Contents, memory_of}
use Rattle.machine_frames.specs.States.{pending_of}
use Rattle.machine_frames.specs.Went.{Told}
use Rattle.machine_frames.specs.declared.end.End.{End}

-- a store that waits for what it can be given in the version of a story
pub record CanBeGivenBy (story : Story) (s : Contents) : Type 0 where
  pub pending : Pending
  pub waits : pending_of (slice_index s.cells) ≡ Some pending
  pub right : can_be_given story (memory_of s) pending.text_buffer pending.parse_buffer ≡ true

-- What was answered to a line, and the store that is left, are what the definition makes of the state.
abbrev pub TakesGivenBy : Story → Result Next End → Recording Contents → Recording Contents → List ℕ → ℕ → Type 0
TakesGivenBy story result old new line fuel =
    (pending : Pending) → pending_of (slice_index old.store.cells) ≡ Some pending
    → Told result old [] new [] (any_given story pending line fuel)

-- the same, in versions 1 to 4
pub record CanBeGivenOlder (s : Contents) : Type 0 where
  pub pending : Pending
  pub waits : pending_of (slice_index s.cells) ≡ Some pending
  pub right : can_take_old (memory_of s) pending.text_buffer pending.parse_buffer ≡ true

abbrev pub TakesOlder : Story → Result Next End → Recording Contents → Recording Contents → List ℕ → ℕ → Type 0
TakesOlder story result old new line fuel =
    (pending : Pending) → pending_of (slice_index old.store.cells) ≡ Some pending
    → Told result old [] new [] (older_given story pending line fuel)
