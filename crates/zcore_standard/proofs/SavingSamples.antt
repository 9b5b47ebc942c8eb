-- Saves to files, computed.
use Rattle.std.proofs.Common.{◌≡◌, ℕ, ◌++◌, List, [], ◌∷◌, codes, replicate, set, refl, Some, None, true, false}
use Rattle.zcore.specs.declared.place.Place.TheVariants as places
use Rattle.zcore.specs.Effects.{give_result}
use Rattle.zcore.specs.Instruction.{byte}
use Rattle.zcore.specs.Parts.{branch_on, go, push, store_result, take_branch, test_branch, test_result, test_taken}
use Rattle.zcore.specs.Parts.{test_target, wait, write_variable}
use Rattle.zcore.specs.State.{State, done, halt}
use Rattle.zcore.specs.Turn.{first_environment}
use Rattle.iff_files.specs.Chunks.{chunk, chunks_after}
use Rattle.iff_files.specs.Differences.{packed, unpacked, with_equal}
use Rattle.iff_files.specs.Frames.{frame_bytes, frame_in, frames_in, is_frame}
use Rattle.iff_files.specs.SaveFiles.{save_bytes, saved_in}
use Rattle.zcore_standard.specs.declared.save_form.SaveForm.TheVariants as forms
use Rattle.zcore_standard.specs.Loaded.{Loaded, seeded}
use Rattle.zcore_standard.specs.Place.{Here, plain}
use Rattle.zcore_standard.specs.Performing.{use_file}
use Rattle.zcore_standard.specs.SavedStates.{file_of, take_up}
use Rattle.zcore_standard.specs.Saving.{answer, pause, put_prompt, restored_by, restored_or, saved_by, saved_game, saved_or}
use Rattle.zcore_standard.specs.Saving.{test_success, wait_for_name}
use Rattle.zcore_standard.specs.declared.save_form.Purpose.TheVariants.{Saving}
use Rattle.zcore_standard.specs.Streams.{begin_read, close_all}
use Rattle.zcore_standard.specs.Windows.{last_line, redraw, show_upper, with_new_line}

-- 70 bytes of dynamic memory, in the file a 1 at 65; after them `save`, whose result goes to the stack, and then two bytes
original : List ℕ
original = replicate 65 0 ++ (1 ∷ 0 ∷ 0 ∷ 0 ∷ 0 ∷ [])

static : List ℕ
static = 0xBE ∷ 0 ∷ 0xFF ∷ 0 ∷ 0xBA ∷ 0 ∷ []

story : Loaded
unfolding original
story = record {
  dynamic = set original 1 16;
  dice = seeded 1;
  is_sum_right = true;
  characters = [];
  own_alphabets = None;
  saves = Some original;
  has_transcript = false;
}

-- the main code runs, with these words on its stack; the header is as the player sets it, and byte 66 was changed
abbrev state : List ℕ → List ℕ → State
state stack text = record {
  memory = set (set original 1 16) 66 7 ++ static;
  frames = record first_environment { stack = stack } ∷ [];
  pending = None;
  text = text;
}

abbrev at : ℕ → Here
at place = plain (seeded 1) [] (record { program_counter = place; fuel = 5 })

-- without operands the turn pauses, in a line of its own
asks : use_file story Saving (at 70) 74 (Some 0) [] (state [] (codes "Saving."))
    ≡ halt places.Waiting (record (state [] (codes "Saving." ++ 10 ∷ codes "Name of the saved game: ")) {
      pending = Some (record { text_buffer = 0; parse_buffer = 1; result = None; return_address = 74 });
    })
unfolding original static story pause begin_read close_all show_upper test_result wait_for_name put_prompt redraw with_new_line last_line wait
asks = refl

-- with operands it fails
fails : use_file story Saving (at 70) 74 (Some 0) (80 ∷ []) (state [] []) ≡ done (at 74) (state (0 ∷ []) [])
unfolding original static story give_result test_result store_result write_variable push
fails = refl

-- and where the player has no save files
unfiled : use_file (record story { saves = None }) Saving (at 70) 74 (Some 0) [] (state [] [])
    ≡ done (at 74) (state (0 ∷ []) [])
unfolding original static story give_result test_result store_result write_variable push
unfiled = refl

-- the file was written
saved : saved_or forms.Extended 73 5 (0 ∷ []) (state [] [])
    ≡ done (record { program_counter = 74; fuel = 5 }) (state (1 ∷ []) [])
unfolding original static saved_by test_success answer test_result store_result write_variable push
saved = refl

-- an empty line; no name; no file
unnamed : saved_or forms.Extended 73 5 [] (state [] [])
    ≡ done (record { program_counter = 74; fuel = 5 }) (state (0 ∷ []) [])
unfolding original static saved_by answer store_result write_variable push
unnamed = refl

misnamed : saved_or forms.Extended 73 5 (1 ∷ []) (state [] [])
    ≡ done (record { program_counter = 74; fuel = 5 })
    (state (0 ∷ []) (codes "[Not saved: that is no name for a file.]" ++ 10 ∷ []))
unfolding original static saved_by answer store_result write_variable push
misnamed = refl

missing : restored_or story forms.Extended 73 5 (4 ∷ []) (state [] [])
    ≡ done (record { program_counter = 74; fuel = 5 })
    (state (0 ∷ []) (codes "[Not restored: there is no such file.]" ++ 10 ∷ []))
unfolding original static story answer store_result write_variable push
missing = refl

-- What was saved is restored: 2 is given. The header stays.
restored : restored_or story forms.Extended 73 5 (0 ∷ saved_game story 73 (state (9 ∷ []) [])) (state [] [])
    ≡ done (record { program_counter = 74; fuel = 5 }) (state (9 ∷ 2 ∷ []) [])
unfolding original static story restored_by saved_game file_of take_up test_success answer save_bytes saved_in packed unpacked with_equal chunk chunks_after frame_bytes frame_in frames_in is_frame test_result store_result write_variable push
restored = refl

-- but not at a place that does not follow a `save`
misplaced : restored_or story forms.Extended 73 5 (0 ∷ saved_game story 72 (state (9 ∷ []) [])) (state [] [])
    ≡ done (record { program_counter = 74; fuel = 5 })
    (state (0 ∷ []) (codes "[Not restored: its place is not after a save.]" ++ 10 ∷ []))
unfolding original static story restored_by saved_game file_of test_success answer save_bytes saved_in packed unpacked with_equal chunk chunks_after frame_bytes frame_in frames_in is_frame test_result store_result write_variable push
misplaced = refl

-- and not from a file cut short
damaged : restored_or story forms.Extended 73 5 (0 ∷ codes "FORM") (state [] [])
    ≡ done (record { program_counter = 74; fuel = 5 })
    (state (0 ∷ []) (codes "[Not restored: the file is damaged.]" ++ 10 ∷ []))
unfolding original static story restored_by saved_in answer store_result write_variable push
damaged = refl

-- Up to version 3 the answer is a branch. After dynamic memory comes `save`, with a branch of one byte on true: it leads
-- over two bytes.
abbrev small_state : List ℕ → State
small_state stack = record (state stack []) { memory = original ++ (0xB5 ∷ 0xC4 ∷ 0xBA ∷ 0xBA ∷ 0xBA ∷ 0xBA ∷ []) }

taken : saved_or forms.Branch 71 5 (0 ∷ []) (small_state [])
    ≡ done (record { program_counter = 74; fuel = 5 }) (small_state [])
unfolding original saved_by test_success answer byte test_branch test_taken test_target branch_on take_branch go
taken = refl

not_taken : saved_or forms.Branch 71 5 [] (small_state [])
    ≡ done (record { program_counter = 72; fuel = 5 }) (small_state [])
unfolding original answer byte branch_on
not_taken = refl

-- A game is restored after its $B5.
small_restored : restored_or story forms.Branch 71 5 (0 ∷ saved_game story 71 (small_state (9 ∷ []))) (small_state [])
    ≡ done (record { program_counter = 74; fuel = 5 }) (small_state (9 ∷ []))
unfolding original story restored_by saved_game file_of take_up test_success answer save_bytes saved_in packed unpacked with_equal chunk chunks_after frame_bytes frame_in frames_in is_frame byte test_branch test_taken test_target branch_on take_branch go
small_restored = refl
