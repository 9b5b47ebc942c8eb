-- States that are kept and restored, computed.
use Rattle.std.proofs.Common.{◌≡◌, ℕ, ◌-◌, ◌++◌, List, [], ◌∷◌, replicate, set, refl, Some, None, true, false}
use Rattle.zcore.specs.declared.place.Fault.TheVariants as faults
use Rattle.zcore.specs.declared.place.Limit.TheVariants as limits
use Rattle.zcore.specs.declared.place.Place.TheVariants as places
use Rattle.zcore.specs.Effects.{give_result}
use Rattle.zcore.specs.Parts.{fault, push, spend, store_result, test_result, write_variable}
use Rattle.zcore.specs.State.{Frame, State, done, halt}
use Rattle.zcore.specs.Turn.{first_environment}
use Rattle.iff_files.specs.Chunks.{chunk, chunks_after}
use Rattle.iff_files.specs.Differences.{packed, unpacked, with_equal}
use Rattle.iff_files.specs.Frames.{frame_bytes, frame_in, frames_in, is_frame}
use Rattle.iff_files.specs.SaveFiles.{save_bytes, saved_in}
use Rattle.zcore_standard.specs.Extension.{with_words_of}
use Rattle.zcore_standard.specs.Fuel.{spend_for}
use Rattle.zcore_standard.specs.Keeping.{most_bytes, room_for, with_newest}
use Rattle.zcore_standard.specs.Loaded.{Loaded, seeded}
use Rattle.zcore_standard.specs.Place.{Here, plain}
use Rattle.zcore_standard.specs.SavedStates.{can_be_kept, file_of, give_for, keep_file, resume, restore_undo, save_undo}
use Rattle.zcore_standard.specs.SavedStates.{take_up}

-- 70 bytes of dynamic memory, and 6 after them; byte 72 names the stack, where the result of `save_undo` goes
dynamic : List ℕ
dynamic = replicate 64 0 ++ (1 ∷ 2 ∷ 3 ∷ 4 ∷ 5 ∷ 6 ∷ [])

story : Loaded
unfolding dynamic
story = record {
  dynamic = dynamic;
  dice = seeded 1;
  is_sum_right = true;
  characters = [];
  own_alphabets = None;
  saves = None;
  has_transcript = false;
}

abbrev called : List ℕ → Frame
called stack =
    record { locals = 700 ∷ []; stack = stack; arguments = 1; return_address = 66; result = None }

-- a routine runs with a local and a word on its stack, and byte 66 was changed
abbrev in_call : List ℕ → State
in_call stack = record {
  memory = set dynamic 66 77 ++ replicate 6 0;
  frames = called stack ∷ first_environment ∷ [];
  pending = None;
  text = [];
}

-- it has returned, and has printed a letter
later : State
unfolding dynamic
later = record {
  memory = dynamic ++ replicate 6 0;
  frames = first_environment ∷ [];
  pending = None;
  text = 65 ∷ [];
}

abbrev at : ℕ → ℕ → List (List ℕ) → Here
at place fuel kept = plain (seeded 1) kept (record { program_counter = place; fuel = fuel })

-- the state is kept, and 1 is given; 256 bytes cost nothing
saved : save_undo story (at 69 5 []) 73 (Some 0) (in_call (9 ∷ []))
    ≡ done (at 73 5 (file_of dynamic 72 (in_call (9 ∷ [])) ∷ [])) (in_call (9 ∷ 1 ∷ []))
unfolding dynamic story file_of save_undo can_be_kept give_for spend_for save_bytes packed with_equal chunk frame_bytes test_result store_result write_variable push
saved = refl

-- a greater file costs a unit for each 256 bytes more, after the test of the result
abbrev large : List ℕ
large = replicate 1000 7

paid : keep_file (at 69 3 []) 73 (Some 0) large (in_call [])
    ≡ done (at 73 0 (large ∷ [])) (in_call (1 ∷ []))
unfolding give_for spend_for test_result store_result write_variable push
paid = refl

too_dear : keep_file (at 69 2 []) 73 (Some 0) large (in_call []) ≡ halt (places.Limit limits.Fuel) (in_call [])
unfolding give_for spend_for test_result
too_dear = refl

no_variable : keep_file (at 69 2 []) 73 (Some 5) large (in_call []) ≡ fault faults.Write (in_call [])
unfolding give_for test_result
no_variable = refl

-- then it is restored, and 2 given; the text stays
undone : restore_undo story (at 74 5 (file_of dynamic 72 (in_call (9 ∷ [])) ∷ [])) 78 (Some 0) later
    ≡ done (at 73 4 []) (record (in_call (9 ∷ 2 ∷ [])) { text = 65 ∷ [] })
unfolding dynamic story later file_of restore_undo resume take_up save_bytes saved_in packed unpacked with_equal chunk chunks_after frame_bytes frame_in frames_in is_frame spend store_result write_variable push
undone = refl

-- no state is kept
not_undone : restore_undo story (at 74 5 []) 78 (Some 0) later
    ≡ done (at 78 5 []) (record later { frames = record first_environment { stack = 0 ∷ [] } ∷ [] })
unfolding dynamic story later restore_undo give_result test_result store_result write_variable push
not_undone = refl

-- no unit is left: the turn is too long, and the state stays
no_unit : restore_undo story (at 74 0 (file_of dynamic 72 (in_call (9 ∷ [])) ∷ [])) 78 (Some 0) later
    ≡ halt (places.Limit limits.Fuel) later
unfolding dynamic story later file_of restore_undo resume save_bytes saved_in packed unpacked with_equal chunk chunks_after frame_bytes frame_in frames_in is_frame spend
no_unit = refl

-- a state with a frame of which no file can tell all is not kept: -1
not_saved : save_undo story (at 69 5 []) 73 (Some 0)
    (record (in_call []) { frames = record (called []) { arguments = 8 } ∷ first_environment ∷ [] })
    ≡ done (at 73 5 [])
    (record (in_call []) { frames = record (called (0xFFFF ∷ [])) { arguments = 8 } ∷ first_environment ∷ [] })
unfolding dynamic story save_undo can_be_kept give_result test_result store_result write_variable push
not_saved = refl

-- of 101 states the oldest goes
oldest_goes : with_newest (3 ∷ []) ((1 ∷ []) ∷ replicate 99 (2 ∷ [])) ≡ replicate 99 (2 ∷ []) ++ (3 ∷ []) ∷ []
oldest_goes = refl

-- of files of 3, 4 and 5 bytes those go for which there is no room beside one of all bytes but 5, or all
two_go : room_for (most_bytes - 5) ((1 ∷ 1 ∷ 1 ∷ []) ∷ (2 ∷ 2 ∷ 2 ∷ 2 ∷ []) ∷ (3 ∷ 3 ∷ 3 ∷ 3 ∷ 3 ∷ []) ∷ [])
    ≡ (3 ∷ 3 ∷ 3 ∷ 3 ∷ 3 ∷ []) ∷ []
two_go = refl

all_go : room_for most_bytes ((1 ∷ []) ∷ (2 ∷ []) ∷ []) ≡ []
all_go = refl

-- An extension of the header at 64, as the player sets it: words 4 to 6 are 1, 2 and 3. They stay so in a restored state.
extended : List ℕ → List ℕ
extended words =
    set (set (set (replicate 64 0) 0 5) 15 78) 55 64 ++ 0 ∷ 6 ∷ replicate 6 0 ++ words

words_stay : with_words_of (extended (0 ∷ 1 ∷ 0 ∷ 2 ∷ 0 ∷ 3 ∷ [])) (extended (replicate 6 9))
    ≡ extended (0 ∷ 1 ∷ 0 ∷ 2 ∷ 0 ∷ 3 ∷ [])
unfolding extended
words_stay = refl
