-- A state as a save file, and a state that is restored from one (Z-Machine Standards Document 1.1, sections 6.1.2 and 15,
-- `save_undo` and `restore_undo`; Quetzal 1.4).
use Rattle.std.specs.Prelude.{◌&&◌, ◌+◌, ◌-◌, ℕ, nat_le, nat_lt, Bool, if◌then◌else◌, List, [], ◌∷◌, length}
use Rattle.std.specs.Prelude.{drop, reverse, slice_index, take, Option, Some, None, Result, Ok, Err}
use Rattle.std.specs.List.{list_all}
use Rattle.zcore.specs.declared.next.Next.{Next}
use Rattle.zcore.specs.Effects.{give_result}
use Rattle.zcore.specs.Layout.{header_size}
use Rattle.zcore.specs.Parts.{spend, test_result, store_result, goes_on, with_stack}
use Rattle.zcore.specs.State.{Frame, State, Out, done, ◌>>=◌}
use Rattle.zcore.specs.Turn.{with_bytes, first_environment}
use Rattle.iff_files.specs.Frames.{Stacks, most_arguments, most_locals, most_words}
use Rattle.iff_files.specs.SaveFiles.{Saved, save_bytes, saved_in}
use Rattle.iff_files.specs.declared.fault.SaveFault.{SaveFault}
use Rattle.zcore_standard.specs.Extension.{with_words_of}
use Rattle.zcore_standard.specs.Flow.{failed}
use Rattle.zcore_standard.specs.Fuel.{spend_for}
use Rattle.zcore_standard.specs.Keeping.{newest, with_newest, without_newest}
use Rattle.zcore_standard.specs.Loaded.{Loaded}
use Rattle.zcore_standard.specs.Place.{Here, within}

-- Saved

-- the stack of the main code, and the calls, by frames of which the oldest is first
abbrev pub stacks_of : List Frame → Stacks
stacks_of [] = record { stack = []; calls = [] }
stacks_of (main ∷ calls) = record { stack = main.stack; calls = calls }

-- A state that goes on at an address: after a result is stored in the variable that the byte there names, or up to
-- version 3 by the branch there. `story` is a dynamic memory from which the file tells what is different.
abbrev pub saved_of : List ℕ → ℕ → State → Saved
saved_of story at s = record {
  program_counter = at;
  memory = take (length story) s.memory;
  stacks = stacks_of (reverse s.frames);
}

unfoldable pub file_of : List ℕ → ℕ → State → List ℕ
file_of story at s = save_bytes story (saved_of story at s)

-- a frame of which a file can tell all, in a story of this size
abbrev pub is_savable : ℕ → Frame → Bool
is_savable size f =
    nat_le (length f.locals) most_locals && nat_le f.arguments most_arguments && nat_lt f.return_address size
    && nat_lt (length f.stack) most_words

-- Calls make no other frames, unless one is the story's last instruction, so that the caller cannot go on, or one frame
-- has all words of the stack.
unfoldable pub can_be_kept : State → Bool
can_be_kept s = list_all (is_savable (length s.memory)) s.frames

-- Restored

-- the frames, the newest first
abbrev pub frames_of : Stacks → List Frame
frames_of stacks = reverse (with_stack first_environment stacks.stack ∷ stacks.calls)

-- The state of a file in place of the present one. The header stays as it is now, and so does the text of the turn; what
-- the player sets in the extension of the header is as at loading.
abbrev pub state_in : Loaded → Saved → State → State
state_in loaded saved s = record {
  memory = with_bytes s.memory header_size (drop header_size (with_words_of loaded.dynamic saved.memory));
  frames = frames_of saved.stacks;
  pending = None;
  text = s.text;
}

unfoldable pub take_up : Loaded → Saved → State → Out (Unit {0})
take_up loaded saved s = done tt (state_in loaded saved s)

-- what the instruction that saved the state gives then
abbrev pub restored : ℕ
restored = 2

-- The story goes on in that state, for a unit of fuel.
unfoldable pub resume : Loaded → Saved → ℕ → State → Out Next
resume loaded saved fuel = do
  left ← spend fuel
  _ ← take_up loaded saved
  _ ← (λ s. store_result (Some (slice_index s.memory saved.program_counter)) restored s)
  goes_on (saved.program_counter + 1) left

-- a file that is refused changes nothing
abbrev pub resume_if_read : Loaded → Result Saved SaveFault → Next → ℕ → Option ℕ → State → Out Next
resume_if_read loaded (Err fault) here after result = give_result here after result failed
resume_if_read loaded (Ok saved) here after result = resume loaded saved here.fuel

-- save_undo and restore_undo

-- what `save_undo` answers where the state is kept
abbrev pub succeeded : ℕ
succeeded = 1

-- and where it is not: -1
abbrev pub has_no_undo : ℕ
has_no_undo = 65535

-- a result of what costs the units of so many bytes
unfoldable pub give_for : ℕ → Next → ℕ → Option ℕ → ℕ → State → Out Next
give_for bytes here after result word = do
  _ ← test_result result
  fuel ← spend_for bytes here.fuel
  _ ← store_result result word
  goes_on after fuel

-- a file is kept, for the units of its bytes
abbrev pub keep_file : Here → ℕ → Option ℕ → List ℕ → State → Out Here
keep_file here after result file s =
    within (record here { kept = with_newest file here.kept }) (give_for (length file) here.next after result succeeded s)

-- The state is kept. The byte before the next instruction names the variable for the result.
unfoldable pub save_undo : Loaded → Here → ℕ → Option ℕ → State → Out Here
save_undo loaded here after result s =
    if can_be_kept s then keep_file here after result (file_of loaded.dynamic (after - 1) s) s
    else within here (give_result here.next after result has_no_undo s)

-- by the newest file, which is kept no longer
abbrev pub restore_newest : Loaded → Here → ℕ → Option ℕ → List (List ℕ) → State → Out Here
restore_newest loaded here after result [] s = within here (give_result here.next after result failed s)
restore_newest loaded here after result (file ∷ files) s =
    within (record here { kept = without_newest here.kept })
    (resume_if_read loaded (saved_in loaded.dynamic (length s.memory) file) here.next after result s)

-- The state that was kept last is restored, and kept no longer. Where none is kept, the answer is 0.
unfoldable pub restore_undo : Loaded → Here → ℕ → Option ℕ → State → Out Here
restore_undo loaded here after result s = restore_newest loaded here after result (newest here.kept) s
