-- Each further operation makes the profile's weight fall where its step goes on.
use Rattle.std.proofs.Common.{◌≡◌, ℕ, ◌+◌, ◌-◌, ◌<◌, ◌≤◌, List, [], ◌∷◌, length, refl, ap, ◌∙◌, arith}
use Rattle.std.proofs.Common.{slice_index, slice_index_or, Bool, true, Option}
use Rattle.std.specs.Prelude.{◌&&◌, nat_le, nat_lt}
use Rattle.std.proofs.lemmas.Bool.{and_parts, ltb-true}
use Rattle.std.proofs.lemmas.List.{length-drop}
use Rattle.zcore.specs.declared.place.Fault.{Fault}
use Rattle.zcore.specs.declared.place.Fault.TheVariants as faults
use Rattle.zcore.specs.declared.instruction.Branch.{Branch}
use Rattle.zcore.specs.declared.next.Next.{Next}
use Rattle.zcore.specs.State.{Frame, State, done, bound}
use Rattle.zcore.specs.Layout.{header_size}
use Rattle.zcore.specs.Parts.{fault, test, can_store, is_code, is_writable, returning, goes_on, store_result}
use Rattle.zcore.proofs.Keeping.{keeps_store_result, keeps_write_word}
use Rattle.zcore.proofs.KeepingReads.{Alike, Keeps, alike_same, alike_then, done_state, done_value, never, both}
use Rattle.zcore.proofs.KeepingReads.{keeps_test, can_store_keeps, tested, passed, code_behind}
use Rattle.zcore.proofs.FallsOfParts.{Falls, FallsFrom, returned, falls_alike, falls_then, goes_on_falls}
use Rattle.zcore.proofs.FallsOfParts.{branch_on_falls}
use Rattle.zcore.proofs.FallsOfEffects.{give_result_falls}
use Rattle.zcore_standard.specs.declared.operations.StandardOperation.{StandardOperation}
use Rattle.zcore_standard.specs.declared.operations.StandardOperation.TheVariants as operations
use Rattle.zcore_standard.specs.Loaded.{Loaded}
use Rattle.zcore_standard.specs.Texts.{alphabets_of}
use Rattle.zcore_standard.specs.Shifts.{log_shift, art_shift}
use Rattle.zcore_standard.specs.Unicode.{transcript_of, print_whole, print_unicode, check_unicode}
use Rattle.zcore_standard.specs.Flow.{catch, frames_at, leave_frame, throw, verify}
use Rattle.zcore_standard.specs.Screen.{get_cursor, set_font}
use Rattle.zcore_standard.specs.Performing.{perform_keeping, words_of_table}
use Rattle.zcore_versions.proofs.TableFacts.{scan_table_falls, copy_table_falls}
use Rattle.zcore_versions.proofs.WordFacts.{tokenise_falls, encode_text_falls}

-- a fault ends the turn
fault_falls : (here : Next) (cause : Fault) → FallsFrom here (fault cause)
fault_falls here cause s t next within h = absurd (never _ next s t h)

-- a test of the state changes nothing
pub keeps_state_test : (holds : State → Bool) (cause : Fault) → Keeps (λ s. test (holds s) cause s)
keeps_state_test holds cause s t a h = keeps_test (holds s) cause s t a h

log_shift_falls : (here : Next) (after : ℕ) (result : Option ℕ) (word places : ℕ) → here.program_counter < after
    → FallsFrom here (log_shift here after result word places)
unfolding log_shift
log_shift_falls here after result word places ahead = give_result_falls here after result _ ahead

art_shift_falls : (here : Next) (after : ℕ) (result : Option ℕ) (word places : ℕ) → here.program_counter < after
    → FallsFrom here (art_shift here after result word places)
unfolding art_shift
art_shift_falls here after result word places ahead = give_result_falls here after result _ ahead

check_unicode_falls : (characters : List ℕ) (here : Next) (after : ℕ) (result : Option ℕ) (code : ℕ)
    → here.program_counter < after → FallsFrom here (check_unicode characters here after result code)
unfolding check_unicode
check_unicode_falls characters here after result code ahead = give_result_falls here after result _ ahead

keeps_print_whole : (bytes : List ℕ) → Keeps (print_whole bytes)
unfolding print_whole
keeps_print_whole bytes s t a h = tested _ tt a s t _ s _ (record { memory = refl; frames = refl }) h

print_unicode_falls : (here : Next) (after code : ℕ) → here.program_counter < after
    → FallsFrom here (print_unicode here after code)
unfolding print_unicode
print_unicode_falls here after code ahead =
    falls_then here _ _ (keeps_print_whole (transcript_of code)) (λ _. goes_on_falls here after ahead)

pub get_cursor_falls : (here : Next) (after table row column : ℕ) → here.program_counter < after
    → FallsFrom here (get_cursor here after table row column)
unfolding get_cursor
get_cursor_falls here after table row column ahead =
    falls_then here _ _
    (keeps_state_test (λ s. is_writable s.memory table && is_writable s.memory (table + 3)) faults.Write) (λ _.
    falls_then here _ _ (keeps_write_word table row) (λ _.
    falls_then here _ _ (keeps_write_word (table + 2) column) (λ _. goes_on_falls here after ahead)))

set_font_falls : (here : Next) (after : ℕ) (result : Option ℕ) (font : ℕ) → here.program_counter < after
    → FallsFrom here (set_font here after result font)
unfolding set_font
set_font_falls here after result font ahead = give_result_falls here after result _ ahead

catch_falls : (here : Next) (after : ℕ) (result : Option ℕ) → here.program_counter < after
    → FallsFrom here (catch here after result)
unfolding catch
catch_falls here after result ahead s t next within h =
    give_result_falls here after result (length s.frames - 1) ahead s t next within h

verify_falls : (loaded : Loaded) (here : Next) (after : ℕ) (branch : Option Branch) → here.program_counter < after
    → FallsFrom here (verify loaded here after branch)
unfolding verify
verify_falls loaded here after branch ahead = branch_on_falls here after branch loaded.is_sum_right ahead

-- throw

-- the tests of a return change nothing, and the caller goes on after the header
returning_keeps : (s t : State) (fs : List Frame) (a : ℕ × Option ℕ) → returning s fs ≡ done a t
    → Alike s t × (header_size ≤ a.0)
returning_keeps s t [] a h = absurd (never _ a s t h)
returning_keeps s t (f ∷ []) a h = absurd (never _ a s t h)
returning_keeps s t (f ∷ g ∷ fs) a h =
    let p = both (can_store f.result (g ∷ fs) s)
    (λ _ u. bound (test (is_code s.memory f.return_address) faults.Code u)
    (λ _ v. done (f.return_address, f.result) v)) a t h in
    let q = both (test (is_code s.memory f.return_address) faults.Code p.between)
    (λ _ v. done (f.return_address, f.result) v) a t p.second in
    let one = can_store_keeps f.result (g ∷ fs) s p.between p.value p.first in
    let two = keeps_test (is_code s.memory f.return_address) faults.Code p.between q.between q.value q.first in
    let three = alike_same q.between t (done_state _ a q.between t q.second) in
    let code = code_behind s.memory f.return_address
    (passed (is_code s.memory f.return_address) faults.Code p.between q.between q.value q.first) in
    let v : a ≡ (f.return_address, f.result) = done_value _ a q.between t q.second in
    (alike_then s p.between t one (alike_then p.between q.between t two three), rw v code)

-- the frames that are left are fewer than there were
leave_frame_leaves : (number : ℕ) (s t : State) (a : Unit {0}) → number < length s.frames
    → leave_frame number s ≡ done a t
    → (length t.memory ≡ length s.memory) × (length t.frames < length s.frames)
unfolding leave_frame
leave_frame_leaves number s t a few h =
    let e = done_state tt a _ t h in
    let all = length-drop (length s.frames - 1 - number) s.frames in
    let one = length-drop 1 (frames_at number s.frames) in
    let left = ap (λ (x : State). length x.frames) e in
    (ap (λ (x : State). length x.memory) e, omega (arith, few, all, one, left))

-- what comes after the frames are left
stored : (fuel place : ℕ) (result : Option ℕ) (word : ℕ) (s t : State) (next : Next)
    → bound (store_result result word s) (λ _. goes_on place fuel) ≡ done next t
    → (next.fuel ≡ fuel) × (next.program_counter ≡ place) × Alike s t
stored fuel place result word s t next h =
    let p = both (store_result result word s) (λ _. goes_on place fuel) next t h in
    let v = done_value (record { program_counter = place; fuel = fuel }) next p.between t p.second in
    let w = done_state (record { program_counter = place; fuel = fuel }) next p.between t p.second in (
      ap (λ (x : Next). x.fuel) v,
      ap (λ (x : Next). x.program_counter) v,
      alike_then s p.between t (keeps_store_result result word s p.between p.value p.first)
          (alike_same p.between t w),
    )

-- the frames that are left, and then the result
left_falls : (here : Next) (number place : ℕ) (result : Option ℕ) (word : ℕ) (s t : State) (next : Next)
    → number < length s.frames → header_size ≤ place
    → bound (leave_frame number s) (λ _ u. bound (store_result result word u) (λ _. goes_on place here.fuel))
    ≡ done next t → Falls here s next t
left_falls here number place result word s t next few behind h =
    let p = both (leave_frame number s) (λ _ u. bound (store_result result word u) (λ _. goes_on place here.fuel)) next t
    h in
    let one = leave_frame_leaves number s p.between p.value few p.first in
    let two = stored here.fuel place result word p.between t next p.second in
    let frames = two.2.frames in
    returned here next s t (two.2.memory ∙ one.0) (omega (arith, one.1, frames)) two.0 (rw two.1 behind)

throw_falls : (here : Next) (word number : ℕ) → FallsFrom here (throw here word number)
unfolding throw
throw_falls here word number s t next within h =
    let holds : State → Bool = λ u. nat_le 1 number && nat_lt number (length u.frames) in
    let p = both (test (holds s) faults.Return s) _ next t h in
    let parts = and_parts (nat_le 1 number) (nat_lt number (length s.frames))
    (passed (holds s) faults.Return s p.between p.value p.first) in
    let few = ltb-true number (length s.frames) parts.1 in
    let one = keeps_test (holds s) faults.Return s p.between p.value p.first in
    let q = both (returning p.between (frames_at number p.between.frames)) _ next t p.second in
    let two = returning_keeps p.between q.between (frames_at number p.between.frames) q.value q.first in
    let alike = alike_then s p.between q.between one two.0 in
    let same = alike.frames in
    falls_alike here next s q.between t alike
    (left_falls here number q.value.0 q.value.1 word q.between t next (omega (arith, few, same)) two.1 q.second)

-- one case for each operation
pub perform_keeping_falls : (loaded : Loaded) (operation : StandardOperation) (here : Next) (after : ℕ) (result : Option ℕ)
    (branch : Option Branch) (values : List ℕ) → here.program_counter < after
    → FallsFrom here (perform_keeping loaded operation here after result branch values)
unfolding perform_keeping
perform_keeping_falls loaded operations.Catch here after result branch values ahead = catch_falls here after result
    ahead
perform_keeping_falls loaded operations.ShowStatus here after result branch values ahead = goes_on_falls here after
    ahead
perform_keeping_falls loaded operations.Verify here after result branch values ahead = verify_falls loaded here after
    branch ahead
perform_keeping_falls loaded operations.Piracy here after result branch values ahead = branch_on_falls here after
    branch true ahead
perform_keeping_falls loaded operations.SetColour here after result branch values ahead = goes_on_falls here after
    ahead
perform_keeping_falls loaded operations.Throw here after result branch values ahead = throw_falls here
    (slice_index values 0) (slice_index values 1)
perform_keeping_falls loaded operations.EraseLine here after result branch values ahead = goes_on_falls here after
    ahead
perform_keeping_falls loaded operations.GetCursor here after result branch values ahead = fault_falls here
    faults.Opcode
perform_keeping_falls loaded operations.SetTextStyle here after result branch values ahead = goes_on_falls here after
    ahead
perform_keeping_falls loaded operations.BufferMode here after result branch values ahead = goes_on_falls here after
    ahead
perform_keeping_falls loaded operations.InputStream here after result branch values ahead = goes_on_falls here after
    ahead
perform_keeping_falls loaded operations.SoundEffect here after result branch values ahead = goes_on_falls here after
    ahead
perform_keeping_falls loaded operations.ScanTable here after result branch values ahead = scan_table_falls here after
    result branch (slice_index values 0) (slice_index values 1) (slice_index values 2)
    (slice_index_or values 3 words_of_table) ahead
perform_keeping_falls loaded operations.Tokenise here after result branch values ahead = tokenise_falls
    (alphabets_of loaded) here after
    (slice_index values 0) (slice_index values 1) (slice_index_or values 2 0) (slice_index_or values 3 0) ahead
perform_keeping_falls loaded operations.EncodeText here after result branch values ahead = encode_text_falls
    (alphabets_of loaded) here after (slice_index values 0) (slice_index values 1) (slice_index values 2) (slice_index_or values 3 0) ahead
perform_keeping_falls loaded operations.CopyTable here after result branch values ahead = copy_table_falls here after
    (slice_index values 0) (slice_index values 1) (slice_index values 2) ahead
perform_keeping_falls loaded operations.PrintTable here after result branch values ahead = fault_falls here
    faults.Opcode
perform_keeping_falls loaded operations.Save here after result branch values ahead = fault_falls here faults.Opcode
perform_keeping_falls loaded operations.Restore here after result branch values ahead = fault_falls here faults.Opcode
perform_keeping_falls loaded operations.LogShift here after result branch values ahead = log_shift_falls here after
    result (slice_index values 0) (slice_index values 1) ahead
perform_keeping_falls loaded operations.ArtShift here after result branch values ahead = art_shift_falls here after
    result (slice_index values 0) (slice_index values 1) ahead
perform_keeping_falls loaded operations.SetFont here after result branch values ahead = set_font_falls here after
    result (slice_index values 0) ahead
perform_keeping_falls loaded operations.SaveUndo here after result branch values ahead = fault_falls here faults.Opcode
perform_keeping_falls loaded operations.RestoreUndo here after result branch values ahead = fault_falls here
    faults.Opcode
perform_keeping_falls loaded operations.PrintUnicode here after result branch values ahead = print_unicode_falls here
    after (slice_index values 0) ahead
perform_keeping_falls loaded operations.CheckUnicode here after result branch values ahead = check_unicode_falls
    loaded.characters here after result (slice_index values 0) ahead
perform_keeping_falls loaded operations.SetTrueColour here after result branch values ahead = goes_on_falls here after
    ahead
perform_keeping_falls loaded operations.SetWindow here after result branch values ahead = fault_falls here
    faults.Opcode
perform_keeping_falls loaded operations.ReadChar here after result branch values ahead = fault_falls here
    faults.Opcode
perform_keeping_falls loaded operations.Restart here after result branch values ahead = fault_falls here faults.Opcode
perform_keeping_falls loaded operations.Random here after result branch values ahead = fault_falls here faults.Opcode
perform_keeping_falls loaded operations.Read here after result branch values ahead = fault_falls here faults.Opcode
perform_keeping_falls loaded operations.OutputStream here after result branch values ahead = fault_falls here
    faults.Opcode
perform_keeping_falls loaded operations.SplitWindow here after result branch values ahead = fault_falls here
    faults.Opcode
perform_keeping_falls loaded operations.EraseWindow here after result branch values ahead = fault_falls here
    faults.Opcode
perform_keeping_falls loaded operations.SetCursor here after result branch values ahead = fault_falls here
    faults.Opcode
