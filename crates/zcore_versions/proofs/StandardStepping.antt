-- A step of the Standard's machine makes the profile's weight fall.
use Rattle.std.proofs.Common.{◌≡◌, ℕ, ◌+◌, ◌*◌, ◌<◌, ◌≤◌, ◌/◌, ◌%◌, List, [], length, drop, refl, ap, sym, ◌∙◌, arith}
use Rattle.std.proofs.Common.{slice_index, slice_index_or, Bool, true, false, Option, Some, None, Result, Ok, Err}
use Rattle.std.proofs.Common.{◌-◌, ◌∷◌, if◌then◌else◌}
use Rattle.std.specs.Option.{is_some}
use Rattle.std.proofs.Math.Nat.{mul-le-mul_right}
use Rattle.std.specs.Prelude.{◌==◌, nat_lt}
use Rattle.std.proofs.lemmas.List.{length-set, length-reverse}
use Rattle.zcore.specs.declared.instruction.Branch.{Branch}
use Rattle.zcore.specs.declared.place.Fault.{Fault}
use Rattle.zcore.specs.declared.place.Fault.TheVariants as faults
use Rattle.zcore.specs.declared.next.Next.{Next}
use Rattle.zcore.specs.Instruction.{byte, operands, variable_types, given_types, branch_at}
use Rattle.zcore.specs.State.{State, Out, done, halt}
use Rattle.zcore.specs.Header.{static_base_of}
use Rattle.zcore.specs.Layout.{header_size}
use Rattle.zcore.specs.Effects.{give_result}
use Rattle.zcore.specs.Parts.{operand_values, spend, store_result, goes_on}
use Rattle.zcore.specs.Turn.{weight, with_bytes, first_environment}
use Rattle.zcore.proofs.Ahead as ahead
use Rattle.zcore.proofs.Keeping.{spend_less, keeps_spend, keeps_store_result}
use Rattle.zcore.proofs.KeepingReads.{alike_same, done_state, done_value, never, both, keeps_operand_values}
use Rattle.zcore.proofs.KeepingReads.{keeps_test_result}
use Rattle.zcore.proofs.FallsOfParts as parts
use Rattle.zcore.proofs.FallsOfParts.{Lighter, lighter_alike}
use Rattle.zcore.proofs.FallsOfEffects.{give_result_falls}
use Rattle.zcore_standard.specs.declared.operations.StandardOperation.{StandardOperation}
use Rattle.zcore_standard.specs.declared.operations.StandardOperation.TheVariants as operations
use Rattle.zcore_standard.specs.Place.{Here, on, within}
use Rattle.zcore_standard.specs.Loaded.{Loaded}
use Rattle.zcore_standard.specs.Operations.{row_of, further_at}
use Rattle.zcore_standard.specs.Instruction.{Instruction, typed, types_at, counted, result_at, branch_after}
use Rattle.zcore_standard.specs.Instruction.{decode_row, row_types, short_types}
use Rattle.zcore.specs.declared.operations.OpcodeRow.{OpcodeRow}
use Rattle.zcore_standard.specs.Dice.{rolled, random}
use Rattle.iff_files.specs.SaveFiles.{Saved, saved_in}
use Rattle.iff_files.specs.declared.fault.SaveFault.{SaveFault}
use Rattle.iff_files.proofs.FewFrames.{few_saved}
use Rattle.zcore_standard.specs.Extension.{with_words_of}
use Rattle.zcore_standard.specs.Flow.{restart}
use Rattle.zcore_standard.specs.Keeping.{newest, with_newest, without_newest}
use Rattle.zcore_standard.specs.SavedStates.{can_be_kept, file_of, restore_newest, restore_undo, resume, resume_if_read}
use Rattle.zcore_standard.specs.SavedStates.{give_for, save_undo, state_in, take_up}
use Rattle.zcore_standard.specs.Fuel.{spend_for}
use Rattle.zcore_standard.specs.Performing.{perform_keeping, perform_further, execute_further, use_file}
use Rattle.zcore_standard.specs.Performing.{one_row}
use Rattle.zcore_standard.specs.Screen.{cursor_row, cursor_column, indent_of}
use Rattle.zcore_standard.specs.declared.save_form.Purpose.{Purpose}
use Rattle.zcore_standard.specs.declared.save_form.Purpose.TheVariants.{Saving, Restoring}
use Rattle.zcore_standard.specs.Nothing.{step_known}
use Rattle.zcore_standard.specs.Machine.{chosen, standard_step}
use Rattle.zcore_versions.proofs.FuelFacts.{falls_spent, keeps_spend_for, spend_for_leaves}
use Rattle.zcore_versions.proofs.Falling.{get_cursor_falls, perform_keeping_falls}
use Rattle.zcore_versions.proofs.TableFacts.{print_table_falls}
use Rattle.zcore_versions.proofs.Known.{step_known_falls}
use Rattle.zcore_versions.proofs.Awaiting.{pause_falls, read_line_falls, read_key_falls}
use Rattle.zcore_versions.proofs.StreamFacts.{output_stream_falls}
use Rattle.zcore_versions.proofs.WordFacts.{length-with_bytes}
use Rattle.zcore_versions.proofs.WindowFacts.{FallsFrom, set_window_falls, set_cursor_falls, erase_window_falls}
use Rattle.zcore_versions.proofs.WindowFacts.{split_window_falls}
use Rattle.zcore_versions.proofs.Refusing.{stands}

-- a part of the profile's machine that went on
within_done : (here next : Here) (o : Out Next) (t : State) → within here o ≡ done next t → o ≡ done next.next t
within_done here next (done n u) t h =
    let v : next ≡ on here n = done_value (on here n) next u t h in
    let w : t ≡ u = done_state (on here n) next u t h in
    ap (λ x. done n x) (sym w) ∙ ap (λ (x : Here). done x.next t) (sym v)
within_done here next (halt place u) t h = absurd (never place next u t h)

pub within_falls : (here there : Here) (f : State → Out Next) → parts.FallsFrom here.next f
    → FallsFrom here (λ s. within there (f s))
within_falls here there f falls s t next inside h =
    falls s t next.next inside (within_done there next (f s) t h)

random_falls : (here : Here) (after : ℕ) (result : Option ℕ) (range : ℕ)
    → here.next.program_counter < after → FallsFrom here (random here after result range)
unfolding random
random_falls here after result range past =
    within_falls here (record here { standard_state = (rolled range here.standard_state).1 }) _
    (give_result_falls here.next after result (rolled range here.standard_state).0 past)

-- A part that ends a step: where it goes on, the weight falls. A story that restarts goes on at the place that its
-- header then names, which may be any.
abbrev LighterFrom : Here → (State → Out Here) → Type 0
LighterFrom here f = (s t : State) (next : Here) → here.next.program_counter < length s.memory → f s ≡ done next t
    → Lighter here.next s next.next t

lighter_from : (here : Here) (f : State → Out Here) → FallsFrom here f → LighterFrom here f
lighter_from here f falls s t next inside h = (falls s t next inside h).lighter

-- restart: a unit is spent, or more, and one frame is left
restart_lighter : (loaded : Loaded) (here : Here) → LighterFrom here (restart loaded here)
unfolding restart
restart_lighter loaded here s t next inside h =
    let p = both (spend here.next.fuel s) _ next t h in
    let less = spend_less here.next.fuel s p.between p.value p.first in
    let one = keeps_spend here.next.fuel s p.between p.value p.first in
    let bytes = static_base_of p.between.memory in
    let q = both (spend_for bytes p.value p.between) _ next t p.second in
    let few = spend_for_leaves bytes p.value p.between q.between q.value q.first in
    let two = keeps_spend_for bytes p.value p.between q.between q.value q.first in
    let v = done_value _ next _ t q.second in
    let w = done_state _ next _ t q.second in
    let memory : length t.memory ≡ length s.memory =
    let begun = with_bytes q.between.memory header_size (drop header_size loaded.dynamic) in
    ap (λ (x : State). length x.memory) w
    ∙ length-set begun 17 (slice_index loaded.dynamic 17 / 4 * 4 + slice_index begun 17 % 4)
    ∙ length-with_bytes q.between.memory header_size (drop header_size loaded.dynamic) ∙ two.memory ∙ one.memory in
    let frames : length t.frames ≡ 1 = ap (λ (x : State). length x.frames) w in
    let fuel : next.next.fuel ≡ q.value = ap (λ (x : Here). x.next.fuel) v in
    parts.spent_lighter here.next next.next s t memory (omega (arith, frames)) (omega (arith, fuel, few, less))
    (λ _. omega (arith, frames))

-- one of two ends
either_lighter : (here next : Here) (s t : State) (is : Bool) (o p : Out Here)
    → (o ≡ done next t → Lighter here.next s next.next t) → (p ≡ done next t → Lighter here.next s next.next t)
    → (if is then o else p) ≡ done next t → Lighter here.next s next.next t
either_lighter here next s t true o p one two h = one h
either_lighter here next s t false o p one two h = two h

within_lighter : (here there : Here) (f : State → Out Next)
    → ((s t : State) (next : Next) → here.next.program_counter < length s.memory → f s ≡ done next t
    → Lighter here.next s next t) → LighterFrom here (λ s. within there (f s))
within_lighter here there f lighter s t next inside h = lighter s t next.next inside (within_done there next (f s) t h)

give_result_lighter : (here : Next) (after : ℕ) (result : Option ℕ) (word : ℕ) → here.program_counter < after
    → (s t : State) (next : Next) → here.program_counter < length s.memory
    → give_result here after result word s ≡ done next t → Lighter here s next t
give_result_lighter here after result word past s t next inside h =
    (give_result_falls here after result word past s t next inside h).lighter

give_for_falls : (bytes : ℕ) (here : Next) (after : ℕ) (result : Option ℕ) (word : ℕ) → here.program_counter < after
    → parts.FallsFrom here (give_for bytes here after result word)
unfolding give_for
give_for_falls bytes here after result word past =
    parts.falls_then here _ _ (keeps_test_result result) (λ _.
    falls_spent here _ _ (keeps_spend_for bytes here.fuel) (spend_for_leaves bytes here.fuel) (λ left.
    parts.falls_then (record here { fuel = left }) _ _ (keeps_store_result result word)
    (λ _. parts.goes_on_falls (record here { fuel = left }) after past)))

save_undo_lighter : (loaded : Loaded) (here : Here) (after : ℕ) (result : Option ℕ) → here.next.program_counter < after
    → LighterFrom here (save_undo loaded here after result)
unfolding save_undo
save_undo_lighter loaded here after result past s t next inside h =
    either_lighter here next s t (can_be_kept s) _ _
    (λ e.
    let file : List ℕ = file_of loaded.dynamic (after - 1) s in
    let given = within_done (record here { kept = with_newest file here.kept }) next
    (give_for (length file) here.next after result 1 s) t e in
    (give_for_falls (length file) here.next after result 1 past s t next.next inside given).lighter)
    (λ e. give_result_lighter here.next after result 65535 past s t next.next inside
    (within_done here next (give_result here.next after result 65535 s) t e)) h

-- A unit is spent, and there are at most as many frames as there may be: the weight falls, whatever the frames were.
less_than_any : (less fuel few many size place target : ℕ) → less < fuel → few ≤ 1001
    → less * (1002 * (size + 1)) + few * (size + 1) + (size - target) + 1
    < fuel * (1002 * (size + 1)) + many * (size + 1) + (size - place) + 1
less_than_any less fuel few many size place target p q =
    let a = parts.less_times less fuel (1002 * (size + 1)) p in
    let b : few * (size + 1) ≤ 1001 * (size + 1) = mul-le-mul_right (size + 1) q in
    omega arith

any_frames_lighter : (here next : Next) (s t : State) → length t.memory ≡ length s.memory → length t.frames ≤ 1001
    → next.fuel < here.fuel → Lighter here s next t
unfolding weight
any_frames_lighter here next s t memory frames fuel =
    let h = less_than_any next.fuel here.fuel (length t.frames) (length s.frames) (length s.memory)
    here.program_counter next.program_counter fuel frames in
    record { falls = rw memory h; memory = memory; frames = λ _. frames }

-- a state is taken up that has no more frames than there may be
resume_lighter : (loaded : Loaded) (saved : Saved) (here : Next) → length saved.stacks.calls + 1 ≤ 1001
    → (s t : State) (next : Next) → resume loaded saved here.fuel s ≡ done next t → Lighter here s next t
unfolding resume take_up
resume_lighter loaded saved here few s t next h =
    let p = both (spend here.fuel s) _ next t h in
    let less = spend_less here.fuel s p.between p.value p.first in
    let one = keeps_spend here.fuel s p.between p.value p.first in
    let u : State = state_in loaded saved p.between in
    let variable : Option ℕ = Some (slice_index u.memory saved.program_counter) in
    let r = both (store_result variable 2 u) (λ _. goes_on (saved.program_counter + 1) p.value) next t p.second in
    let three = keeps_store_result variable 2 u r.between r.value r.first in
    let four = alike_same r.between t
    (done_state (record { program_counter = saved.program_counter + 1; fuel = p.value }) next r.between t r.second) in
    let v = done_value (record { program_counter = saved.program_counter + 1; fuel = p.value }) next r.between t r.second in
    let memory : length t.memory ≡ length s.memory = four.memory ∙ three.memory
    ∙ length-with_bytes p.between.memory header_size (drop header_size (with_words_of loaded.dynamic saved.memory))
    ∙ one.memory in
    let frames : length t.frames ≡ length saved.stacks.calls + 1 = four.frames ∙ three.frames
    ∙ length-reverse (record first_environment { stack = saved.stacks.stack } ∷ saved.stacks.calls)
    ∙ omega arith in
    let fuel : next.fuel ≡ p.value = ap (λ (x : Next). x.fuel) v in
    any_frames_lighter here next s t memory (omega (arith, frames, few)) (omega (arith, fuel, less))

resume_if_read_lighter : (loaded : Loaded) (r : Result Saved SaveFault) (here : Next) (after : ℕ) (result : Option ℕ)
    → here.program_counter < after → ((saved : Saved) → r ≡ Ok saved → length saved.stacks.calls + 1 ≤ 1001)
    → (s t : State) (next : Next) → here.program_counter < length s.memory
    → resume_if_read loaded r here after result s ≡ done next t → Lighter here s next t
resume_if_read_lighter loaded (Err fault) here after result past few s t next inside h =
    give_result_lighter here after result 0 past s t next inside h
resume_if_read_lighter loaded (Ok saved) here after result past few s t next inside h =
    resume_lighter loaded saved here (few saved refl) s t next h

restore_newest_lighter : (loaded : Loaded) (here : Here) (after : ℕ) (result : Option ℕ) (files : List (List ℕ))
    → here.next.program_counter < after → LighterFrom here (restore_newest loaded here after result files)
restore_newest_lighter loaded here after result [] past s t next inside h =
    within_lighter here here (give_result here.next after result 0) (give_result_lighter here.next after result 0 past)
    s t next inside h
restore_newest_lighter loaded here after result (file ∷ files) past s t next inside h =
    let r = saved_in loaded.dynamic (length s.memory) file in
    resume_if_read_lighter loaded r here.next after result past
    (λ saved e. few_saved loaded.dynamic (length s.memory) file saved e) s t next.next inside
    (within_done (record here { kept = without_newest here.kept }) next (resume_if_read loaded r here.next after result s) t h)

restore_undo_lighter : (loaded : Loaded) (here : Here) (after : ℕ) (result : Option ℕ)
    → here.next.program_counter < after → LighterFrom here (restore_undo loaded here after result)
unfolding restore_undo
restore_undo_lighter loaded here after result past =
    restore_newest_lighter loaded here after result (newest here.kept) past

-- `save` and `restore` pause, which never goes on, or give a result
use_file_lighter : (loaded : Loaded) (purpose : Purpose) (here : Here) (after : ℕ) (result : Option ℕ) (values : List ℕ)
    → here.next.program_counter < after → LighterFrom here (use_file loaded purpose here after result values)
use_file_lighter loaded purpose here after result [] past s t next inside h =
    either_lighter here next s t (is_some loaded.saves) _ _
    (λ e. (pause_falls loaded purpose here (after - 1) result s t next inside e).lighter)
    (λ e. give_result_lighter here.next after result 0 past s t next.next inside
    (within_done here next (give_result here.next after result 0 s) t e)) h
use_file_lighter loaded purpose here after result (value ∷ values) past s t next inside h =
    within_lighter here here (give_result here.next after result 0) (give_result_lighter here.next after result 0 past)
    s t next inside h

keeping_falls : (loaded : Loaded) (operation : StandardOperation) (here : Here) (after : ℕ) (result : Option ℕ)
    (branch : Option Branch) (values : List ℕ) → here.next.program_counter < after
    → FallsFrom here (λ s. within here (perform_keeping loaded operation here.next after result branch values s))
keeping_falls loaded operation here after result branch values past =
    within_falls here here _ (perform_keeping_falls loaded operation here.next after result branch values past)

perform_further_lighter : (loaded : Loaded) (operation : StandardOperation) (here : Here) (after : ℕ) (result : Option ℕ)
    (branch : Option Branch) (values : List ℕ) → here.next.program_counter < after
    → LighterFrom here (perform_further loaded operation here after result branch values)
unfolding perform_further
perform_further_lighter loaded operations.Restart here after result branch values past = restart_lighter loaded here
perform_further_lighter loaded operations.Random here after result branch values past = lighter_from here _
    (random_falls here after result (slice_index values 0) past)
perform_further_lighter loaded operations.Read here after result branch values past = lighter_from here _
    (read_line_falls loaded.characters here after result (slice_index values 0) (slice_index_or values 1 0))
perform_further_lighter loaded operations.ReadChar here after result branch values past = lighter_from here _
    (read_key_falls loaded.characters here after result)
perform_further_lighter loaded operations.OutputStream here after result branch values past = lighter_from here _
    (output_stream_falls loaded.characters loaded.has_transcript here after values past)
perform_further_lighter loaded operations.SetWindow here after result branch values past = lighter_from here _
    (set_window_falls here after (slice_index values 0) past)
perform_further_lighter loaded operations.SetCursor here after result branch values past = lighter_from here _
    (set_cursor_falls here after (slice_index values 0) (slice_index values 1) past)
perform_further_lighter loaded operations.GetCursor here after result branch values past = lighter_from here _
    (within_falls here here _ (λ s t next inside h. get_cursor_falls here.next after (slice_index values 0)
    (cursor_row here s.text) (cursor_column here s.text) past s t next inside h))
perform_further_lighter loaded operations.PrintTable here after result branch values past = lighter_from here _
    (within_falls here here _ (λ s t next inside h. print_table_falls loaded.characters here.next after
    (slice_index values 0) (slice_index values 1) (slice_index_or values 2 one_row) (slice_index_or values 3 0)
    (indent_of here s.text) past s t next inside h))
perform_further_lighter loaded operations.EraseWindow here after result branch values past = lighter_from here _
    (erase_window_falls here after (slice_index values 0) past)
perform_further_lighter loaded operations.SplitWindow here after result branch values past = lighter_from here _
    (split_window_falls here after (slice_index values 0) past)
perform_further_lighter loaded operations.Save here after result branch values past =
    use_file_lighter loaded Saving here after result values past
perform_further_lighter loaded operations.Restore here after result branch values past =
    use_file_lighter loaded Restoring here after result values past
perform_further_lighter loaded operations.SaveUndo here after result branch values past =
    save_undo_lighter loaded here after result past
perform_further_lighter loaded operations.RestoreUndo here after result branch values past =
    restore_undo_lighter loaded here after result past
perform_further_lighter loaded operation here after result branch values past = lighter_from here _
    (keeping_falls loaded operation here after result branch values past)

-- The address after an instruction lies after its own

typed_ahead : (memory : List ℕ) (more : Bool) (at : ℕ) (x : List ℕ × ℕ) → typed memory more at ≡ Ok x → at ≤ x.1
typed_ahead memory more at x h =
    let p = ahead.read (variable_types memory more at) _ x h in
    let q = ahead.read (given_types p.value.0) _ x p.second in
    let one = ahead.variable_types_ahead memory more at p.value p.first in
    let e = ahead.ok_after _ x.0 p.value.1 x.1 q.second in
    omega arith

types_ahead : (memory : List ℕ) (more : Bool) (first at : ℕ) (x : List ℕ × ℕ) → types_at memory more first at ≡ Ok x
    → at < x.1
unfolding types_at
types_ahead memory more first at x h =
    ahead.chosen (at < x.1) (first == 190) _ _ x
    (λ _ e. let one = typed_ahead memory more (at + 2) x e in omega arith)
    (λ _ e. ahead.chosen (at < x.1) (nat_lt first 128) _ _ x
    (λ _ f. let one = ahead.ok_after _ x.0 (at + 1) x.1 f in omega arith)
    (λ _ f. ahead.chosen (at < x.1) (nat_lt first 192) _ _ x
    (λ _ g. let one = ahead.ok_after (short_types first) x.0 (at + 1) x.1 g in omega arith)
    (λ _ g. let one = typed_ahead memory more (at + 1) x g in omega arith) f) e) h

counted_same : (row : OpcodeRow) (types x : List ℕ × ℕ) → counted row types ≡ Ok x → x.1 ≡ types.1
counted_same row types x h =
    ahead.chosen (x.1 ≡ types.1) _ (Ok types) (Err faults.Opcode) x
    (λ _ e. ahead.ok_after types.0 x.0 types.1 x.1 e)
    (λ _ e. absurd (ahead.refused _ x e)) h

result_ahead : (memory : List ℕ) (stores : Bool) (at : ℕ) (x : Option ℕ × ℕ) → result_at memory stores at ≡ Ok x
    → at ≤ x.1
unfolding result_at
result_ahead memory stores at x h =
    ahead.chosen (at ≤ x.1) stores _ _ x
    (λ _ e.
    let p = ahead.read (byte memory at) (λ v. Ok (Some v.0, v.1)) x e in
    let one = (ahead.byte_next memory at p.value p.first).0 in
    let two = ahead.ok_after _ x.0 p.value.1 x.1 p.second in
    omega arith)
    (λ _ e. let f = ahead.ok_after None x.0 at x.1 e in omega arith) h

branch_at_ahead : (memory : List ℕ) (at : ℕ) (x : Branch × ℕ) → branch_at memory at ≡ Ok x → at ≤ x.1
branch_at_ahead memory at x h =
    let p = ahead.read (byte memory at) _ x h in
    let one = (ahead.byte_next memory at p.value p.first).0 in
    ahead.chosen (at ≤ x.1) (p.value.0 / 64 % 2 == 1) _ _ x
    (λ _ e. let f = ahead.ok_after _ x.0 p.value.1 x.1 e in omega arith)
    (λ _ e.
    let q = ahead.read (byte memory p.value.1) _ x e in
    let two = (ahead.byte_next memory p.value.1 q.value q.first).0 in
    let f = ahead.ok_after _ x.0 q.value.1 x.1 q.second in
    omega arith) p.second

branch_ahead : (memory : List ℕ) (branches : Bool) (at : ℕ) (x : Option Branch × ℕ)
    → branch_after memory branches at ≡ Ok x → at ≤ x.1
unfolding branch_after
branch_ahead memory branches at x h =
    ahead.chosen (at ≤ x.1) branches _ _ x
    (λ _ e.
    let p = ahead.read (branch_at memory at) (λ v. Ok (Some v.0, v.1)) x e in
    let one = branch_at_ahead memory at p.value p.first in
    let two = ahead.ok_after _ x.0 p.value.1 x.1 p.second in
    omega arith)
    (λ _ e. let f = ahead.ok_after None x.0 at x.1 e in omega arith) h

pub decode_row_ahead : (memory : List ℕ) (at : ℕ) (row : OpcodeRow) (x : Instruction × ℕ)
    → decode_row memory at row ≡ Ok x → at < x.1
unfolding decode_row
decode_row_ahead memory at row x h =
    let p = ahead.read (row_types memory at row) _ x h in
    let c = ahead.read (counted row p.value) _ x p.second in
    let q = ahead.read (operands memory c.value.0 c.value.1) _ x c.second in
    let r = ahead.read (result_at memory row.has_result q.value.1) _ x q.second in
    let b = ahead.read (branch_after memory row.has_branch r.value.1) _ x r.second in
    let one = types_ahead memory (nat_lt 4 row.most_operands) (slice_index memory at) at p.value p.first in
    let two = counted_same row p.value c.value c.first in
    let three = ahead.operands_ahead memory c.value.0 c.value.1 q.value q.first in
    let four = result_ahead memory row.has_result q.value.1 r.value r.first in
    let five = branch_ahead memory row.has_branch r.value.1 b.value b.first in
    let e = ahead.ok_after _ x.0 b.value.1 x.1 b.second in
    omega arith

execute_further_lighter : (loaded : Loaded) (operation : StandardOperation) (here : Here) (r : Result (Instruction × ℕ) Fault)
    → ((x : Instruction × ℕ) → r ≡ Ok x → here.next.program_counter < x.1)
    → LighterFrom here (execute_further loaded operation here r)
execute_further_lighter loaded operation here (Err cause) past s t next inside h = absurd (never _ next s t h)
execute_further_lighter loaded operation here (Ok x) past s t next inside h =
    let p = both (operand_values x.0.operands s)
    (λ values. perform_further loaded operation here x.1 x.0.result x.0.branch values) next t h in
    let alike = keeps_operand_values x.0.operands s p.between p.value p.first in
    lighter_alike here.next next.next s p.between t alike
    (perform_further_lighter loaded operation here x.1 x.0.result x.0.branch p.value (past x refl) p.between t next
    (omega (arith, alike.memory)) p.second)

chosen_lighter : (loaded : Loaded) (here : Here) (s t : State) (next : Here) (o : Option StandardOperation)
    → further_at s.memory here.next.program_counter ≡ o → chosen loaded o here s ≡ done next t
    → Lighter here.next s next.next t
chosen_lighter loaded here s t next None e h =
    (step_known_falls loaded here.next next.next s t (within_done here next (step_known loaded here.next s) t h)).lighter
chosen_lighter loaded here s t next (Some operation) e h =
    let memory = s.memory in
    let at = here.next.program_counter in
    execute_further_lighter loaded operation here (decode_row memory at (row_of operation))
    (λ x f. decode_row_ahead memory at (row_of operation) x f) s t next (stands memory at operation e).within h

pub standard_step_lighter : (loaded : Loaded) (here next : Here) (s t : State)
    → standard_step loaded here s ≡ done next t → Lighter here.next s next.next t
unfolding standard_step
standard_step_lighter loaded here next s t h =
    chosen_lighter loaded here s t next (further_at s.memory here.next.program_counter) refl h
