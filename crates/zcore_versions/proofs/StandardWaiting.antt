-- A step of the Standard's machine waits only for what can be given.
use Rattle.std.proofs.Common.{◌≡◌, ℕ, ◌-◌, List, length, true, Option, Some, None}
use Rattle.std.proofs.Common.{Result, Ok, Err, slice_index, slice_index_or, [], ◌∷◌, ◌+◌}
use Rattle.std.specs.Prelude.{◌==◌, ◌&&◌, nat_le, nat_lt}
use Rattle.std.specs.Option.{is_some}
use Rattle.zcore.specs.declared.instruction.Branch.{Branch}
use Rattle.zcore.specs.declared.place.Fault.{Fault}
use Rattle.zcore.specs.declared.place.Fault.TheVariants as faults
use Rattle.zcore.specs.declared.place.Limit.TheVariants as limits
use Rattle.zcore.specs.declared.place.Place.TheVariants as places
use Rattle.zcore.specs.declared.next.Next.{Next}
use Rattle.zcore.specs.Header.{static_base_of}
use Rattle.zcore.specs.State.{Frame, State, Out, halt}
use Rattle.zcore.specs.Parts.{test, is_writable, is_code, can_store, returning, spend}
use Rattle.zcore.specs.Effects.{give_result}
use Rattle.zcore.proofs.WaitingTests.{WaitsWell, Waits, waits_done, waits_fault, waits_limit, waits_then, waits_either}
use Rattle.zcore.proofs.WaitingTests.{waits_bound, waits_test, waits_test_result}
use Rattle.zcore.proofs.WaitingParts.{waits_operand_values, waits_store_result, waits_goes_on, waits_write_word}
use Rattle.zcore.proofs.WaitingEffects.{waits_branch_on, waits_give_result}
use Rattle.zcore_standard.specs.declared.operations.StandardOperation.{StandardOperation}
use Rattle.zcore_standard.specs.declared.operations.StandardOperation.TheVariants as operations
use Rattle.zcore_standard.specs.Place.{Here, past, within}
use Rattle.zcore_standard.specs.Loaded.{Loaded}
use Rattle.zcore_standard.specs.Texts.{alphabets_of}
use Rattle.zcore_standard.specs.Operations.{row_of, further_at}
use Rattle.zcore_standard.specs.Instruction.{Instruction, decode_row}
use Rattle.zcore_standard.specs.Shifts.{log_shift, art_shift}
use Rattle.zcore_standard.specs.Dice.{rolled, random}
use Rattle.zcore_standard.specs.Unicode.{transcript_of, print_whole, print_unicode, check_unicode}
use Rattle.zcore_standard.specs.Flow.{restart, catch, frames_at, leave_frame, throw, verify}
use Rattle.zcore_standard.specs.Screen.{cursor_row, cursor_column, get_cursor, indent_of, set_font}
use Rattle.iff_files.specs.SaveFiles.{Saved, saved_in}
use Rattle.iff_files.specs.declared.fault.SaveFault.{SaveFault}
use Rattle.zcore_standard.specs.Keeping.{newest, with_newest, without_newest}
use Rattle.zcore_standard.specs.SavedStates.{can_be_kept, file_of, give_for, restore_newest, restore_undo, resume, resume_if_read}
use Rattle.zcore_standard.specs.SavedStates.{save_undo, state_in, take_up}
use Rattle.zcore_standard.specs.Performing.{perform_keeping, perform_further, execute_further, use_file, words_of_table, one_row}
use Rattle.zcore_standard.specs.Saving.{pause_or}
use Rattle.zcore_standard.specs.declared.save_form.Purpose.{Purpose}
use Rattle.zcore_standard.specs.declared.save_form.Purpose.TheVariants.{Saving, Restoring}
use Rattle.zcore_standard.specs.Nothing.{step_known}
use Rattle.zcore_standard.specs.Machine.{chosen, standard_step}
use Rattle.zcore_versions.proofs.FuelFacts.{waits_spend_for}
use Rattle.zcore_versions.proofs.Known.{waits_step_known}
use Rattle.zcore_versions.proofs.TableFacts.{waits_scan_table, waits_copy_table, waits_print_table}
use Rattle.zcore_versions.proofs.WordFacts.{waits_tokenise, waits_encode_text}
use Rattle.zcore_versions.proofs.Awaiting.{WaitsRight, WaitsFor, waits_right, for_then, for_well, for_read_line}
use Rattle.zcore_versions.proofs.Awaiting.{for_either, for_pause, for_read_key, for_within, halt_within}
use Rattle.zcore_versions.proofs.StreamFacts.{waits_output_stream}
use Rattle.zcore_versions.proofs.WindowFacts.{waits_set_window, waits_set_cursor, waits_erase_window}
use Rattle.zcore_versions.proofs.WindowFacts.{waits_split_window}

-- The operations that leave windows, dice and streams as they are

waits_log_shift : (here : Next) (after : ℕ) (result : Option ℕ) (word places : ℕ)
    → Waits (log_shift here after result word places)
unfolding log_shift
waits_log_shift here after result word places = waits_give_result here after result _

waits_art_shift : (here : Next) (after : ℕ) (result : Option ℕ) (word places : ℕ)
    → Waits (art_shift here after result word places)
unfolding art_shift
waits_art_shift here after result word places = waits_give_result here after result _

waits_check_unicode : (characters : List ℕ) (here : Next) (after : ℕ) (result : Option ℕ) (code : ℕ)
    → Waits (check_unicode characters here after result code)
unfolding check_unicode
waits_check_unicode characters here after result code = waits_give_result here after result _

waits_print_whole : (bytes : List ℕ) → Waits (print_whole bytes)
unfolding print_whole
waits_print_whole bytes s t h = waits_either _ _ _ t (waits_done tt _ t) (waits_limit _ _ t) h

waits_print_unicode : (here : Next) (after code : ℕ) → Waits (print_unicode here after code)
unfolding print_unicode
waits_print_unicode here after code =
    waits_then _ _ (waits_print_whole (transcript_of code)) (λ _. waits_goes_on after here.fuel)

waits_get_cursor : (here : Next) (after table row column : ℕ) → Waits (get_cursor here after table row column)
unfolding get_cursor
waits_get_cursor here after table row column =
    waits_then _ _
    (λ s t h. waits_test (is_writable s.memory table && is_writable s.memory (table + 3)) faults.Write s t h) (λ _.
    waits_then _ _ (waits_write_word table row) (λ _.
    waits_then _ _ (waits_write_word (table + 2) column) (λ _. waits_goes_on after here.fuel)))

waits_set_font : (here : Next) (after : ℕ) (result : Option ℕ) (font : ℕ) → Waits (set_font here after result font)
unfolding set_font
waits_set_font here after result font = waits_give_result here after result _

waits_catch : (here : Next) (after : ℕ) (result : Option ℕ) → Waits (catch here after result)
unfolding catch
waits_catch here after result s t h = waits_give_result here after result (length s.frames - 1) s t h

waits_verify : (loaded : Loaded) (here : Next) (after : ℕ) (branch : Option Branch)
    → Waits (verify loaded here after branch)
unfolding verify
waits_verify loaded here after branch = waits_branch_on here after branch loaded.is_sum_right

waits_can_store : (result : Option ℕ) (frames : List Frame) → Waits (can_store result frames)
waits_can_store None frames s t h = waits_done tt s t h
waits_can_store (Some variable) [] s t h = waits_fault _ s t h
waits_can_store (Some variable) (f ∷ fs) s t h =
    waits_either (variable == 0) _ _ t (waits_test _ _ s t) (waits_test _ _ s t) h

waits_returning : (s t : State) (fs : List Frame) → returning s fs ≡ halt places.Waiting t → WaitsWell t
waits_returning s t [] h = waits_fault _ s t h
waits_returning s t (f ∷ []) h = waits_fault _ s t h
waits_returning s t (f ∷ g ∷ fs) h =
    waits_bound (can_store f.result (g ∷ fs) s) _ t (waits_can_store f.result (g ∷ fs) s) (λ _ u _ e.
    waits_bound (test (is_code s.memory f.return_address) faults.Code u) _ t
    (waits_test (is_code s.memory f.return_address) faults.Code u) (λ _ v _ d. waits_done _ v t d) e) h

waits_leave_frame : (number : ℕ) → Waits (leave_frame number)
unfolding leave_frame
waits_leave_frame number s t h = waits_done tt _ t h

waits_throw : (here : Next) (word number : ℕ) → Waits (throw here word number)
unfolding throw
waits_throw here word number =
    waits_then _ _ (λ s t h. waits_test (nat_le 1 number && nat_lt number (length s.frames)) faults.Return s t h) (λ _.
    waits_then _ _ (λ s t h. waits_returning s t (frames_at number s.frames) h) (λ caller.
    waits_then _ _ (waits_leave_frame number) (λ _.
    waits_then _ _ (waits_store_result caller.1 word) (λ _. waits_goes_on caller.0 here.fuel))))

-- one case for each operation
waits_perform_keeping : (loaded : Loaded) (operation : StandardOperation) (here : Next) (after : ℕ) (result : Option ℕ)
    (branch : Option Branch) (values : List ℕ)
    → Waits (perform_keeping loaded operation here after result branch values)
unfolding perform_keeping
waits_perform_keeping loaded operations.Catch here after result branch values = waits_catch here after result
waits_perform_keeping loaded operations.Verify here after result branch values = waits_verify loaded here after branch
waits_perform_keeping loaded operations.Piracy here after result branch values = waits_branch_on here after branch true
waits_perform_keeping loaded operations.Throw here after result branch values = waits_throw here
    (slice_index values 0) (slice_index values 1)
waits_perform_keeping loaded operations.ScanTable here after result branch values = waits_scan_table here after result
    branch (slice_index values 0) (slice_index values 1) (slice_index values 2)
    (slice_index_or values 3 words_of_table)
waits_perform_keeping loaded operations.Tokenise here after result branch values = waits_tokenise
    (alphabets_of loaded) here after
    (slice_index values 0) (slice_index values 1) (slice_index_or values 2 0) (slice_index_or values 3 0)
waits_perform_keeping loaded operations.EncodeText here after result branch values = waits_encode_text
    (alphabets_of loaded) here after
    (slice_index values 0) (slice_index values 1) (slice_index values 2) (slice_index_or values 3 0)
waits_perform_keeping loaded operations.CopyTable here after result branch values = waits_copy_table here after
    (slice_index values 0) (slice_index values 1) (slice_index values 2)
waits_perform_keeping loaded operations.LogShift here after result branch values = waits_log_shift here after result
    (slice_index values 0) (slice_index values 1)
waits_perform_keeping loaded operations.ArtShift here after result branch values = waits_art_shift here after result
    (slice_index values 0) (slice_index values 1)
waits_perform_keeping loaded operations.SetFont here after result branch values = waits_set_font here after result
    (slice_index values 0)
waits_perform_keeping loaded operations.PrintUnicode here after result branch values = waits_print_unicode here after
    (slice_index values 0)
waits_perform_keeping loaded operations.CheckUnicode here after result branch values = waits_check_unicode
    loaded.characters here after result (slice_index values 0)
waits_perform_keeping loaded operations.ShowStatus here after result branch values = waits_goes_on after here.fuel
waits_perform_keeping loaded operations.SetColour here after result branch values = waits_goes_on after here.fuel
waits_perform_keeping loaded operations.EraseLine here after result branch values = waits_goes_on after here.fuel
waits_perform_keeping loaded operations.SetTextStyle here after result branch values = waits_goes_on after here.fuel
waits_perform_keeping loaded operations.BufferMode here after result branch values = waits_goes_on after here.fuel
waits_perform_keeping loaded operations.InputStream here after result branch values = waits_goes_on after here.fuel
waits_perform_keeping loaded operations.SoundEffect here after result branch values = waits_goes_on after here.fuel
waits_perform_keeping loaded operations.SetTrueColour here after result branch values = waits_goes_on after here.fuel
waits_perform_keeping loaded _ here after result branch values = λ s t h. waits_fault faults.Opcode s t h

-- Steps

waits_within : (here : Here) (f : State → Out Next) → Waits f → Waits (λ s. within here (f s))
waits_within here f w s t h = w s t (halt_within here (f s) t h)

waits_random : (here : Here) (after : ℕ) (result : Option ℕ) (range : ℕ) → Waits (random here after result range)
unfolding random
waits_random here after result range =
    waits_within (record here { standard_state = (rolled range here.standard_state).1 })
    (give_result here.next after result (rolled range here.standard_state).0)
    (waits_give_result here.next after result (rolled range here.standard_state).0)

waits_spend : (fuel : ℕ) → Waits (spend fuel)
unfolding spend
waits_spend fuel s t h = waits_either (fuel == 0) _ _ t (waits_limit limits.Fuel s t) (waits_done (fuel - 1) s t) h

waits_restart : (loaded : Loaded) (here : Here) → Waits (restart loaded here)
unfolding restart
waits_restart loaded here =
    waits_then _ _ (waits_spend here.next.fuel) (λ fuel.
    waits_then _ _ (λ s t h. waits_spend_for (static_base_of s.memory) fuel s t h) (λ _ s t h. waits_done _ _ t h))

waits_give_for : (bytes : ℕ) (here : Next) (after : ℕ) (result : Option ℕ) (word : ℕ)
    → Waits (give_for bytes here after result word)
unfolding give_for
waits_give_for bytes here after result word =
    waits_then _ _ (waits_test_result result) (λ _.
    waits_then _ _ (waits_spend_for bytes here.fuel) (λ left.
    waits_then _ _ (waits_store_result result word) (λ _. waits_goes_on after left)))

waits_save_undo : (loaded : Loaded) (here : Here) (after : ℕ) (result : Option ℕ)
    → Waits (save_undo loaded here after result)
unfolding save_undo
waits_save_undo loaded here after result s t h =
    let file : List ℕ = file_of loaded.dynamic (after - 1) s in
    waits_either (can_be_kept s) _ _ t
    (waits_within (record here { kept = with_newest file here.kept })
    (give_for (length file) here.next after result 1) (waits_give_for (length file) here.next after result 1) s t)
    (waits_within here (give_result here.next after result 65535) (waits_give_result here.next after result 65535) s t) h

waits_take_up : (loaded : Loaded) (saved : Saved) → Waits (take_up loaded saved)
unfolding take_up
waits_take_up loaded saved s t h = waits_done tt (state_in loaded saved s) t h

waits_resume : (loaded : Loaded) (saved : Saved) (fuel : ℕ) → Waits (resume loaded saved fuel)
unfolding resume
waits_resume loaded saved fuel =
    waits_then _ _ (waits_spend fuel) (λ left.
    waits_then _ _ (waits_take_up loaded saved) (λ _.
    waits_then _ _ (λ s t h. waits_store_result (Some (slice_index s.memory saved.program_counter)) 2 s t h) (λ _.
    waits_goes_on (saved.program_counter + 1) left)))

waits_resume_if_read : (loaded : Loaded) (r : Result Saved SaveFault) (here : Next) (after : ℕ) (result : Option ℕ)
    → Waits (resume_if_read loaded r here after result)
waits_resume_if_read loaded (Err fault) here after result = waits_give_result here after result 0
waits_resume_if_read loaded (Ok saved) here after result = waits_resume loaded saved here.fuel

waits_restore_newest : (loaded : Loaded) (here : Here) (after : ℕ) (result : Option ℕ) (files : List (List ℕ))
    → Waits (restore_newest loaded here after result files)
waits_restore_newest loaded here after result [] s t h =
    waits_within here (give_result here.next after result 0) (waits_give_result here.next after result 0) s t h
waits_restore_newest loaded here after result (file ∷ files) s t h =
    let read = saved_in loaded.dynamic (length s.memory) file in
    waits_within (record here { kept = without_newest here.kept }) (resume_if_read loaded read here.next after result)
    (waits_resume_if_read loaded read here.next after result) s t h

waits_restore_undo : (loaded : Loaded) (here : Here) (after : ℕ) (result : Option ℕ)
    → Waits (restore_undo loaded here after result)
unfolding restore_undo
waits_restore_undo loaded here after result = waits_restore_newest loaded here after result (newest here.kept)

waits_keeping : (loaded : Loaded) (operation : StandardOperation) (here : Here) (after : ℕ) (result : Option ℕ)
    (branch : Option Branch) (values : List ℕ)
    → Waits (λ s. within here (perform_keeping loaded operation here.next after result branch values s))
waits_keeping loaded operation here after result branch values =
    waits_within here _ (waits_perform_keeping loaded operation here.next after result branch values)

-- save and restore

pub for_pause_or : (loaded : Loaded) (purpose : Purpose) (here : Here) (place : ℕ) (result : Option ℕ) (fails : State → Out Next)
    → Waits fails → WaitsFor (pause_or loaded purpose here place result fails)
for_pause_or loaded purpose here place result fails waits s t h =
    for_either (is_some loaded.saves) _ _ t (for_pause loaded purpose here place result s t)
    (for_within here fails (for_well fails waits) s t) h

for_use_file : (loaded : Loaded) (purpose : Purpose) (here : Here) (after : ℕ) (result : Option ℕ) (values : List ℕ)
    → WaitsFor (use_file loaded purpose here after result values)
for_use_file loaded purpose here after result [] =
    for_pause_or loaded purpose here (after - 1) result _ (waits_give_result here.next after result 0)
for_use_file loaded purpose here after result (value ∷ values) =
    for_within here _ (for_well _ (waits_give_result here.next after result 0))

waits_perform_further : (loaded : Loaded) (operation : StandardOperation) (here : Here) (after : ℕ) (result : Option ℕ)
    (branch : Option Branch) (values : List ℕ)
    → WaitsFor (perform_further loaded operation here after result branch values)
unfolding perform_further
waits_perform_further loaded operations.Restart here after result branch values = for_well _ (waits_restart loaded here)
waits_perform_further loaded operations.Random here after result branch values = for_well _ (waits_random here after
    result (slice_index values 0))
waits_perform_further loaded operations.Read here after result branch values = for_read_line loaded.characters here
    after result (slice_index values 0) (slice_index_or values 1 0)
waits_perform_further loaded operations.ReadChar here after result branch values = for_read_key loaded.characters here
    after result
waits_perform_further loaded operations.OutputStream here after result branch values = for_well _ (waits_output_stream
    loaded.characters loaded.has_transcript here after values)
waits_perform_further loaded operations.SetWindow here after result branch values = for_well _
    (waits_set_window (past here after) (slice_index values 0))
waits_perform_further loaded operations.SetCursor here after result branch values = for_well _
    (waits_set_cursor (past here after) (slice_index values 0) (slice_index values 1))
waits_perform_further loaded operations.GetCursor here after result branch values = for_well _ (waits_within here _
    (λ s t h. waits_get_cursor here.next after (slice_index values 0) (cursor_row here s.text)
    (cursor_column here s.text) s t h))
waits_perform_further loaded operations.PrintTable here after result branch values = for_well _ (waits_within here _
    (λ s t h. waits_print_table loaded.characters here.next after (slice_index values 0) (slice_index values 1)
    (slice_index_or values 2 one_row) (slice_index_or values 3 0) (indent_of here s.text) s t h))
waits_perform_further loaded operations.EraseWindow here after result branch values = for_well _
    (waits_erase_window (past here after) (slice_index values 0))
waits_perform_further loaded operations.SplitWindow here after result branch values = for_well _
    (waits_split_window (past here after) (slice_index values 0))
waits_perform_further loaded operations.Save here after result branch values = for_use_file loaded Saving here after
    result values
waits_perform_further loaded operations.Restore here after result branch values = for_use_file loaded Restoring here
    after result values
waits_perform_further loaded operations.SaveUndo here after result branch values = for_well _ (waits_save_undo loaded
    here after result)
waits_perform_further loaded operations.RestoreUndo here after result branch values = for_well _ (waits_restore_undo
    loaded here after result)
waits_perform_further loaded operation here after result branch values = for_well _ (waits_keeping loaded operation here
    after result branch values)

waits_execute_further : (loaded : Loaded) (operation : StandardOperation) (here : Here) (r : Result (Instruction × ℕ) Fault)
    → WaitsFor (execute_further loaded operation here r)
waits_execute_further loaded operation here (Err cause) = for_well _ (λ s t h. waits_fault cause s t h)
waits_execute_further loaded operation here (Ok x) = for_then _ _ (waits_operand_values x.0.operands)
    (λ values. waits_perform_further loaded operation here x.1 x.0.result x.0.branch values)

waits_chosen_step : (loaded : Loaded) (here : Here) (s t : State) (o : Option StandardOperation)
    → chosen loaded o here s ≡ halt places.Waiting t → WaitsRight t
waits_chosen_step loaded here s t None h = waits_right t (waits_step_known loaded here.next s t
    (halt_within here (step_known loaded here.next s) t h))
waits_chosen_step loaded here s t (Some operation) h =
    waits_execute_further loaded operation here (decode_row s.memory here.next.program_counter (row_of operation)) s t h

pub standard_step_waits : (loaded : Loaded) (here : Here) (s t : State)
    → standard_step loaded here s ≡ halt places.Waiting t → WaitsRight t
unfolding standard_step
standard_step_waits loaded here s t h =
    waits_chosen_step loaded here s t (further_at s.memory here.next.program_counter) h
