-- `save` and `restore` of the whole state, where the player has save files (Z-Machine Standards Document 1.1, sections
-- 6.1.2 and 15; Quetzal 1.4). The turn pauses for the name of a file. The story is then given what became of that file,
-- so that a turn depends on nothing else. A place is the address of the byte that names the variable for the result, or
-- up to version 3 of the first byte of the branch.
use Rattle.std.specs.Prelude.{◌==◌, ◌&&◌, ◌+◌, ◌-◌, ◌++◌, ℕ, nat_le, nat_lt, Bool, true, false, if◌then◌else◌}
use Rattle.std.specs.Prelude.{codes, List, [], ◌∷◌, length, slice_index, slice_index_or, Option, Some, None, Result, Ok, Err}
use Rattle.std.specs.Option.{is_some, unwrap_or}
use Rattle.zcore.specs.declared.instruction.Branch.{Branch}
use Rattle.zcore.specs.declared.next.Next.{Next}
use Rattle.zcore.specs.declared.place.Fault.{Fault}
use Rattle.zcore.specs.Instruction.{branch_at}
use Rattle.zcore.specs.Layout.{header_size}
use Rattle.zcore.specs.Parts.{fault, test_result, test_branch, store_result, goes_on, branch_on, wait}
use Rattle.zcore.specs.State.{Pending, State, Out, done, halt, ◌>>=◌}
use Rattle.iff_files.specs.SaveFiles.{Saved, is_save_of, saved_in}
use Rattle.iff_files.specs.declared.fault.SaveFault.{SaveFault}
use Rattle.iff_files.specs.declared.fault.SaveFault.TheVariants.{Damaged, OtherStory, WrongMemory, WrongStacks}
use Rattle.zcore_standard.specs.declared.save_form.Purpose.{Purpose}
use Rattle.zcore_standard.specs.declared.save_form.Purpose.TheVariants.{Saving, Restoring}
use Rattle.zcore_standard.specs.declared.save_form.SaveForm.{SaveForm}
use Rattle.zcore_standard.specs.declared.save_form.SaveForm.TheVariants as forms
use Rattle.zcore_standard.specs.Loaded.{Loaded}
use Rattle.zcore_standard.specs.Place.{Here, within}
use Rattle.zcore_standard.specs.SavedStates.{can_be_kept, file_of, restored, state_in, succeeded, take_up}
use Rattle.zcore_standard.specs.Flow.{failed}
use Rattle.zcore_standard.specs.Streams.{begin_read}
use Rattle.zcore_standard.specs.Windows.{redraw, with_new_line}

-- The form of `save` in a version
abbrev pub save_form_of : ℕ → SaveForm
save_form_of number =
    if nat_le number 3 then forms.Branch
    else (if nat_le number 4 then forms.Result
    else forms.Extended)

-- Pausing

-- In place of a parse buffer a story that waits for a name has the number of its purpose. Of a key that is 0. Such waits
-- have no text buffer. Their address, where the story goes on with a result, is one more than the place.
abbrev pub number_of : Purpose → ℕ
number_of Saving = 1
number_of Restoring = 2

abbrev pub asks_for_name : Pending → Bool
asks_for_name pending = (pending.text_buffer == 0) && nat_le 1 pending.parse_buffer

abbrev pub purpose_of : Pending → Purpose
purpose_of pending = if pending.parse_buffer == number_of Saving then Saving else Restoring

abbrev pub place_of : Pending → ℕ
place_of pending = pending.return_address - 1

-- for what a story that waits asks for a name, if it does
abbrev pub asked_by : Option Pending → Option Purpose
asked_by None = None
asked_by (Some pending) = if asks_for_name pending then Some (purpose_of pending) else None

-- in a line of its own
abbrev pub prompt : List ℕ
prompt = codes "Name of the saved game: "

unfoldable pub put_prompt : State → Out (Unit {0})
put_prompt s = redraw (with_new_line s.text ++ prompt) s

unfoldable pub wait_for_name : Purpose → ℕ → State → Out Next
wait_for_name purpose place = do
  _ ← put_prompt
  wait (record { text_buffer = 0; parse_buffer = number_of purpose; result = None; return_address = place + 1 })

-- with all that a read does first; the place of the result is tested
unfoldable pub pause : Loaded → Purpose → Here → ℕ → Option ℕ → State → Out Here
pause loaded purpose here place result = do
  _ ← begin_read loaded.characters here
  _ ← test_result result
  (λ s. within here (wait_for_name purpose place s))

-- The turn pauses where the player has save files, and else the opcode fails.
abbrev pub pause_or : Loaded → Purpose → Here → ℕ → Option ℕ → (State → Out Next) → State → Out Here
pause_or loaded purpose here place result fails s =
    if is_some loaded.saves then pause loaded purpose here place result s else within here (fails s)

-- The answer at a place

abbrev pub branch_by : ℕ → ℕ → ℕ → Result (Branch × ℕ) Fault → State → Out Next
branch_by place word fuel (Err cause) = fault cause
branch_by place word fuel (Ok x) =
    branch_on (record { program_counter = place - 1; fuel = fuel }) x.1 (Some x.0) (nat_lt 0 word)

-- The story goes on with an answer: by the branch that an instruction with one byte before it has, by whether the answer
-- is not 0, or by a result.
unfoldable pub answer : SaveForm → ℕ → ℕ → ℕ → State → Out Next
answer forms.Branch place word fuel s = branch_by place word fuel (branch_at s.memory place) s
answer _ place word fuel s = (do
  _ ← store_result (Some (slice_index s.memory place)) word
  goes_on (place + 1) fuel) s

abbrev pub test_branch_by : Result (Branch × ℕ) Fault → State → Out (Unit {0})
test_branch_by (Err cause) = fault cause
test_branch_by (Ok x) = test_branch x.1 (Some x.0) true

-- whether "success" can be answered
unfoldable pub test_success : SaveForm → ℕ → State → Out (Unit {0})
test_success forms.Branch place s = test_branch_by (branch_at s.memory place) s
test_success _ place s = test_result (Some (slice_index s.memory place)) s

-- Why the opcode fails. The first reason in this order is told: those that the player alone can tell, and then those that
-- the bytes of a file tell.
abbrev pub reasons : List (List ℕ)
reasons =
    codes "that is no name for a file" ∷ codes "another file has this name" ∷ codes "the file cannot be written"
    ∷ codes "there is no such file" ∷ []

abbrev pub no_name : ℕ
no_name = 1

abbrev pub no_file : ℕ
no_file = 4

-- that of a number, from 1 on
abbrev pub reason : ℕ → List ℕ
reason number = slice_index_or reasons (number - 1) []

abbrev pub reason_of : SaveFault → List ℕ
reason_of Damaged = codes "the file is damaged"
reason_of OtherStory = codes "the file is of another story"
reason_of WrongMemory = codes "its memory does not fit"
reason_of WrongStacks = codes "its stacks do not fit"

abbrev pub not_after_save : List ℕ
not_after_save = codes "its place is not after a save"

-- the beginning of the turn's text
abbrev pub notice : List ℕ → List ℕ → List ℕ
notice what why = codes "[Not " ++ what ++ codes ": " ++ why ++ codes ".]" ++ 10 ∷ []

-- the opcode fails, and why is told
abbrev pub refuse : SaveForm → ℕ → ℕ → List ℕ → List ℕ → State → Out Next
refuse form place fuel what why s = answer form place failed fuel (record s { text = notice what why })

-- What a story is given for a name: nothing, where the line was empty; 0, where the file was written or read, and then of
-- one that was read its bytes; or the number of a reason, from 1 on.

-- Saving

-- a file can tell the place and the frames of a story that waits for a name
abbrev pub can_be_saved : ℕ → State → Bool
can_be_saved place s = nat_lt place (length s.memory) && can_be_kept s

-- its file
unfoldable pub saved_game : Loaded → ℕ → State → List ℕ
saved_game loaded place s = file_of (unwrap_or loaded.saves []) place s

-- a name comes first; then "success" has to be possible, even where there is no file
abbrev pub answer_saved : SaveForm → ℕ → ℕ → ℕ → State → Out Next
answer_saved form place fuel number s =
    if number == 0 then answer form place succeeded fuel s
    else refuse form place fuel (codes "saved") (reason number) s

unfoldable pub saved_by : SaveForm → ℕ → ℕ → ℕ → State → Out Next
saved_by form place fuel number =
    if number == no_name then answer_saved form place fuel number
    else (do
      _ ← test_success form place
      answer_saved form place fuel number)

abbrev pub saved_or : SaveForm → ℕ → ℕ → List ℕ → State → Out Next
saved_or form place fuel [] = answer form place failed fuel
saved_or form place fuel (number ∷ bytes) = saved_by form place fuel number

-- Bytes begin as the save files of this story do: only such a file may be written over.
abbrev pub is_own_file : Option (List ℕ) → List ℕ → Bool
is_own_file None bytes = false
is_own_file (Some story) bytes = is_save_of story bytes

abbrev pub is_own_save : Loaded → List ℕ → Bool
is_own_save loaded bytes = is_own_file loaded.saves bytes

-- Restoring

-- the byte of the story's file at an address: dynamic memory is as it was there
abbrev pub byte_of_file : List ℕ → List ℕ → ℕ → ℕ
byte_of_file story memory at = if nat_lt at (length story) then slice_index story at else slice_index memory at

-- The bytes before a place are a `save` without operands, after the header: 0OP 5, or EXT 0 and no types.
abbrev pub follows_save : SaveForm → (ℕ → ℕ) → ℕ → Bool
follows_save forms.Extended byte place =
    nat_le (header_size + 3) place && (byte (place - 3) == 0xBE) && (byte (place - 2) == 0) && (byte (place - 1) == 0xFF)
follows_save _ byte place = nat_le (header_size + 1) place && (byte (place - 1) == 0xB5)

abbrev pub is_done : {A : Type 0} → Out A → Bool
is_done (done a s) = true
is_done (halt place s) = false

-- a story of this state can go on at a place
abbrev pub is_place : List ℕ → SaveForm → ℕ → State → Bool
is_place story form place s =
    nat_lt place (length s.memory) && follows_save form (byte_of_file story s.memory) place
    && is_done (test_success form place s)

-- A file that is read, or why it is refused: then the state stays.
abbrev pub restore_read : Loaded → List ℕ → SaveForm → ℕ → ℕ → Result Saved SaveFault → State → Out Next
restore_read loaded story form place fuel (Err cause) s = refuse form place fuel (codes "restored") (reason_of cause) s
restore_read loaded story form place fuel (Ok saved) s =
    if is_place story form saved.program_counter (state_in loaded saved s)
    then (do
      _ ← take_up loaded saved
      answer form saved.program_counter restored fuel) s
    else refuse form place fuel (codes "restored") not_after_save s

-- by dynamic memory as the story's file has it, where the player has save files
abbrev pub restored_from : Loaded → Option (List ℕ) → SaveForm → ℕ → ℕ → List ℕ → State → Out Next
restored_from loaded None form place fuel bytes s = refuse form place fuel (codes "restored") (reason no_file) s
restored_from loaded (Some story) form place fuel bytes s =
    restore_read loaded story form place fuel (saved_in story (length s.memory) bytes) s

unfoldable pub restored_by : Loaded → SaveForm → ℕ → ℕ → List ℕ → State → Out Next
restored_by loaded form place fuel bytes s = restored_from loaded loaded.saves form place fuel bytes s

abbrev pub answer_restored : Loaded → SaveForm → ℕ → ℕ → ℕ → List ℕ → State → Out Next
answer_restored loaded form place fuel number bytes s =
    if number == 0 then restored_by loaded form place fuel bytes s
    else refuse form place fuel (codes "restored") (reason number) s

abbrev pub restored_or : Loaded → SaveForm → ℕ → ℕ → List ℕ → State → Out Next
restored_or loaded form place fuel [] = answer form place failed fuel
restored_or loaded form place fuel (number ∷ bytes) = answer_restored loaded form place fuel number bytes

abbrev pub given_for : Loaded → SaveForm → Purpose → ℕ → ℕ → List ℕ → State → Out Next
given_for loaded form Saving place fuel given = saved_or form place fuel given
given_for loaded form Restoring place fuel given = restored_or loaded form place fuel given

-- The turn that follows a pause begins.
unfoldable pub file_given : Loaded → SaveForm → Pending → List ℕ → ℕ → State → Out Next
file_given loaded form pending given fuel s =
    given_for loaded form (purpose_of pending) (place_of pending) fuel given (record s { pending = None; text = [] })

-- A turn begins: with what is given for a name, or with a line or a key.
abbrev pub given_to : Loaded → SaveForm → (Pending → List ℕ → ℕ → State → Out Next)
    → Pending → List ℕ → ℕ → State → Out Next
given_to loaded form read pending given fuel =
    if asks_for_name pending then file_given loaded form pending given fuel else read pending given fuel
