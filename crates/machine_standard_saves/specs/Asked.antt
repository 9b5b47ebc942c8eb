-- A store that waits for the name of a saved game, and what it is given.
use Rattle.std.specs.Prelude.{◌≡◌, ◌≤◌, ◌+◌, ◌⊎◌, ℕ, Bool, true, false, List, [], length, take, slice_set, Option, Some, None, IfSome, Result, Ok, Err}
use Rattle.journal.specs.Recording.{Recording}
use Rattle.zcore.specs.declared.instruction.Branch.{Branch}
use Rattle.zcore.specs.declared.next.Next.{Next}
use Rattle.zcore.specs.declared.place.Place.TheVariants as places
use Rattle.zcore.specs.Instruction.{branch_at}
use Rattle.zcore.specs.Layout.{longest_story}
use Rattle.zcore.specs.Header.{static_base_of}
use Rattle.zcore.specs.State.{Out, Pending, State}
use Rattle.zcore_standard.specs.declared.save_form.SaveForm.{SaveForm}
use Rattle.zcore_standard.specs.Loaded.{Loaded}
use Rattle.zcore_standard.specs.Saving.{can_be_saved, file_given, is_done, place_of, saved_game, test_success}
use Rattle.machine_frames.specs.Contents.{Contents, memory_of}
use Rattle.machine_frames.specs.States.{state_of, IsSound}
use Rattle.machine_frames.specs.declared.end.End.{End}
use Rattle.machine_frames.specs.declared.end.End.TheVariants as ends
use Rattle.machine_opcodes.specs.Printed.{ToldFrom}

-- where the player has save files, they tell what is different from as many bytes as are dynamic
abbrev pub HasSaves : Loaded → Contents → Type 0
HasSaves loaded s = IfSome loaded.saves (λ story. length story ≡ static_base_of (memory_of s))

-- The file of a store that waits for a name at a place; none where the player has no save files, or no file can tell the
-- state.
abbrev pub IsGameAt : Loaded → ℕ → Contents → Option (List ℕ) → Type 0
IsGameAt loaded place s (Some file) =
    (can_be_saved place (state_of s []) ≡ true) × (file ≡ saved_game loaded place (state_of s []))
IsGameAt loaded place s None = (loaded.saves ≡ None) ⊎ (can_be_saved place (state_of s []) ≡ false)

abbrev pub IsGameOf : Loaded → Contents → Option (List ℕ) → Type 0
IsGameOf loaded s file =
    (pending : Pending) → (state_of s []).pending ≡ Some pending → IsGameAt loaded (place_of pending) s file

-- "success" can be answered, or not
abbrev pub CanSucceed : SaveForm → Contents → Bool → Type 0
CanSucceed form s can =
    (pending : Pending) → (state_of s []).pending ≡ Some pending
    → can ≡ is_done (test_success form (place_of pending) (state_of s []))

-- how many bytes tell why a game is not saved or restored, at most
abbrev pub longest_notice : ℕ
longest_notice = 100

-- a text is after what was there, and at most so many bytes longer
pub record GrewBy (most : ℕ) (was now : List ℕ) : Type 0 where
  pub front : take (length was) now ≡ was
  pub few : length now ≤ length was + most

-- what a part that may print did, in a turn whose text begins where a text ended
abbrev pub ToldAfter : {A : Type 0} → Result A End → Recording Contents → List ℕ → Recording Contents → List ℕ
    → (State → Out A) → Type 0
ToldAfter result old before new after f = ToldFrom (length before) result old before new after f

-- the turn of what is given for a name begins
abbrev pub TakesFile : Loaded → SaveForm → List ℕ → ℕ → Result Next End → Recording Contents → List ℕ
    → Recording Contents → List ℕ → Type 0
TakesFile loaded form given fuel result old before new after =
    (pending : Pending) → (state_of old.store []).pending ≡ Some pending
    → ToldAfter result old before new after (file_given loaded form pending given fuel)

-- the register that tells whether a store waits
abbrev pub waiting_register : ℕ
waiting_register = 5

-- it waits for nothing any more, and nothing else was written in the turn
pub record HasJustBegun (s : Recording Contents) : Type 0 where
  pub cells : s.store.cells ≡ slice_set s.beginning waiting_register 0
  pub sound : IsSound (record { cells = s.beginning; fixed = s.store.fixed })

-- the branch at an address, or the fault that ends the turn
abbrev pub BranchIn : List ℕ → ℕ → Result (Branch × ℕ) End → Type 0
BranchIn memory at (Ok x) = (branch_at memory at ≡ Ok x) × (x.1 ≤ longest_story)
BranchIn memory at (Err (ends.Stop (places.Fault cause))) = branch_at memory at ≡ Err cause
BranchIn memory at (Err _) = ⊥
