-- What the machine of any version waits for can be given: a key, or a line in the form of the old versions.
use Rattle.std.proofs.Common.{◌≡◌, ℕ, ◌+◌, ◌≤◌, List, [], ◌∷◌, drop, length, refl, ap, ◌∙◌, arith, Bool, true, false}
use Rattle.std.proofs.Common.{slice_index, cond, Option, Some, None, Result, Ok, Err, subst}
use Rattle.std.specs.Prelude.{◌==◌, ◌&&◌, ◌||◌, nat_le}
use Rattle.std.proofs.lemmas.Bool.{and_parts, leb-true, le-leb}
use Rattle.zcore.specs.declared.instruction.Branch.{Branch}
use Rattle.zcore.specs.declared.instruction.Operation.{Operation}
use Rattle.zcore.specs.declared.instruction.Operation.TheVariants as known
use Rattle.zcore.specs.declared.next.Next.{Next}
use Rattle.zcore.specs.declared.place.Fault.{Fault}
use Rattle.zcore.specs.declared.place.Fault.TheVariants as faults
use Rattle.zcore.specs.declared.place.Place.TheVariants as places
use Rattle.zcore.specs.Header.{dictionary_of, static_base_of}
use Rattle.zcore.specs.Parts.{test, wait}
use Rattle.zcore.specs.State.{Pending, State, Out, done, halt, bound}
use Rattle.zcore.proofs.KeepingReads.{done_state, never}
use Rattle.zcore.proofs.WaitingTests.{Waits, waits_then, waits_chosen, waits_fault, waits_test, waits_done}
use Rattle.zcore.proofs.WaitingParts.{waits_pop, waits_operand_values, waits_goes_on, waits_call}
use Rattle.zcore.proofs.WaitingEffects.{waits_branch_on, waits_give_result}
use Rattle.zcore_standard.specs.Instruction.{Instruction}
use Rattle.zcore_standard.specs.Nothing.{concerns_nothing}
use Rattle.zcore_standard.specs.Place.{Here, past}
use Rattle.zcore_standard.specs.Reading as standard
use Rattle.zcore_standard.specs.Reading.{can_take, has_slots_or_none}
use Rattle.zcore_standard.specs.Streams.{begin_read}
use Rattle.zcore_standard.specs.Words.{are_writable, has_slots, test_slots}
use Rattle.zcore_versions.proofs.Awaiting.{WaitsRight, waits_right, halt_within}
use Rattle.zcore_versions.proofs.Objects.{waits_perform_on_nothing}
use Rattle.zcore_versions.proofs.StreamFacts.{waits_begin_read}
use Rattle.zcore_versions.proofs.StandardWaiting.{for_pause_or, standard_step_waits}
use Rattle.zcore_standard.specs.declared.save_form.Purpose.{Purpose}
use Rattle.zcore_standard.specs.declared.save_form.Purpose.TheVariants.{Saving, Restoring}
use Rattle.zcore_versions.proofs.WindowFacts.{waits_split_window}
use Rattle.zcore.specs.Parts.{store_result}
use Rattle.zcore.proofs.WaitingParts.{waits_store_result}
use Rattle.zcore_versions.specs.declared.version.StoryVersion.{StoryVersion}
use Rattle.zcore_standard.specs.declared.operations.OlderOperation.TheVariants.{Not, Pop, Save, Restore, Read}
use Rattle.zcore_versions.specs.declared.operations.VersionOperation.{VersionOperation}
use Rattle.zcore_versions.specs.declared.operations.VersionOperation.TheVariants.{Known, Older, SplitWindow, Missing}
use Rattle.zcore_versions.specs.Calls.{code_of, initial_values, has_values, test_values, set_locals, call_with_values}
use Rattle.zcore_versions.specs.Calls.{call_older}
use Rattle.zcore_versions.specs.Versions.{Story, is_small, is_old, routine_at, text_at}
use Rattle.zcore_standard.specs.Instruction.{decode_row}
use Rattle.zcore_versions.specs.Laws.{WaitsForLine}
use Rattle.zcore_versions.specs.Machine.{chosen, any_step}
use Rattle.zcore_versions.specs.Performing.{perform_on_none, perform_small, perform_other, drop_word, fail}
use Rattle.zcore_versions.specs.Performing.{perform_older, perform, execute_older, use_file}
use Rattle.zcore_versions.specs.Operations.{row_of, older_at}
use Rattle.zcore_versions.specs.Reading.{can_take_old, has_room, test_room, wait_for_line}
use Rattle.zcore_versions.specs.Reading.{read_older}
use Rattle.zcore_versions.proofs.Finding.{found_old}
use Rattle.zcore_versions.proofs.SmallWaiting.{waits_test_attribute, waits_set_attribute, waits_clear_attribute}
use Rattle.zcore_versions.proofs.SmallWaiting.{waits_jump_if_in, waits_get_parent, waits_get_sibling, waits_get_child}
use Rattle.zcore_versions.proofs.SmallWaiting.{waits_remove_object, waits_insert_object}
use Rattle.zcore_versions.proofs.SmallWaiting.{waits_print_object, waits_get_property, waits_put_property}
use Rattle.zcore_versions.proofs.SmallWaiting.{waits_get_property_address, waits_get_property_length}
use Rattle.zcore_versions.proofs.SmallWaiting.{waits_get_next_property}
use Rattle.zcore_versions.proofs.TextFacts.{waits_print_text, waits_print_inline, waits_print_return}

-- Calls

waits_test_values : (routine : ℕ) → Waits (test_values routine)
unfolding test_values
waits_test_values routine s t h = waits_test (has_values s.memory routine) faults.Code s t h

waits_set_locals : (number : ℕ) (words : List ℕ) → Waits (set_locals number words)
unfolding set_locals store_result
waits_set_locals number [] = λ s t h. waits_done tt s t h
waits_set_locals number (word ∷ words) =
    waits_then _ _ (waits_store_result (Some (number + 1)) word) (λ _. waits_set_locals (number + 1) words)

waits_call_with_values : (here : Next) (after routine : ℕ) (arguments : List ℕ) (result : Option ℕ)
    → Waits (call_with_values here after routine arguments result)
unfolding call_with_values
waits_call_with_values here after routine arguments result s t h =
    waits_then _ _ (waits_test_values routine) (λ _.
    waits_then _ _ (waits_call here after routine arguments result) (λ next.
    waits_then _ _ (waits_set_locals (length arguments) (initial_values s.memory routine (length arguments))) (λ _.
    waits_goes_on (code_of s.memory routine) next.fuel))) s t h

waits_call_older : (version : StoryVersion) (here : Next) (after : ℕ) (result : Option ℕ) (packed : ℕ) (arguments : List ℕ)
    → Waits (call_older version here after result packed arguments)
unfolding call_older
waits_call_older version here after result packed arguments =
    waits_chosen (packed == 0) _ _ (waits_give_result here after result 0)
    (waits_chosen (is_old version) _ _
    (waits_call_with_values here after (routine_at version packed) arguments result)
    (waits_call here after (routine_at version packed) arguments result))

-- Operations

waits_perform_on_none : (operation : Operation) (here : Next) (after : ℕ) (result : Option ℕ) (branch : Option Branch)
    (values : List ℕ) → Waits (perform_on_none operation here after result branch values)
waits_perform_on_none known.InsertObject here after result branch values =
    waits_chosen (slice_index values 0 == 0) _ _ (waits_goes_on after here.fuel)
    (waits_remove_object here after (slice_index values 0))
waits_perform_on_none operation here after result branch values =
    waits_perform_on_nothing operation here after result branch values

perform_small_waits : (operation : Operation) (here : Next) (after : ℕ) (result : Option ℕ) (branch : Option Branch)
    (values : List ℕ) → Waits (perform_small operation here after result branch values)
unfolding perform_small
perform_small_waits known.JumpIfIn here after result branch values =
    waits_jump_if_in here after branch (slice_index values 0) (slice_index values 1)
perform_small_waits known.TestAttribute here after result branch values =
    waits_test_attribute here after branch (slice_index values 0) (slice_index values 1)
perform_small_waits known.SetAttribute here after result branch values =
    waits_set_attribute here after (slice_index values 0) (slice_index values 1)
perform_small_waits known.ClearAttribute here after result branch values =
    waits_clear_attribute here after (slice_index values 0) (slice_index values 1)
perform_small_waits known.InsertObject here after result branch values =
    waits_insert_object here after (slice_index values 0) (slice_index values 1)
perform_small_waits known.RemoveObject here after result branch values =
    waits_remove_object here after (slice_index values 0)
perform_small_waits known.GetParent here after result branch values =
    waits_get_parent here after result (slice_index values 0)
perform_small_waits known.GetSibling here after result branch values =
    waits_get_sibling here after result branch (slice_index values 0)
perform_small_waits known.GetChild here after result branch values =
    waits_get_child here after result branch (slice_index values 0)
perform_small_waits known.GetProperty here after result branch values =
    waits_get_property here after result (slice_index values 0) (slice_index values 1)
perform_small_waits known.GetPropertyAddress here after result branch values =
    waits_get_property_address here after result (slice_index values 0) (slice_index values 1)
perform_small_waits known.GetNextProperty here after result branch values =
    waits_get_next_property here after result (slice_index values 0) (slice_index values 1)
perform_small_waits known.GetPropertyLength here after result branch values =
    waits_get_property_length here after result (slice_index values 0)
perform_small_waits known.PutProperty here after result branch values =
    waits_put_property here after (slice_index values 0) (slice_index values 1) (slice_index values 2)
perform_small_waits _ here after result branch values = λ s t h. waits_fault faults.Opcode s t h

perform_other_waits : (story : Story) (operation : Operation) (here : Next) (after : ℕ) (result : Option ℕ)
    (branch : Option Branch) (values : List ℕ) → Waits (perform_other story operation here after result branch values)
unfolding perform_other
perform_other_waits story known.CallVs here after result branch values =
    waits_call_older story.version here after result (slice_index values 0) (drop 1 values)
perform_other_waits story known.CallVs2 here after result branch values =
    waits_call_older story.version here after result (slice_index values 0) (drop 1 values)
perform_other_waits story known.Call1s here after result branch values =
    waits_call_older story.version here after result (slice_index values 0) (drop 1 values)
perform_other_waits story known.Call2s here after result branch values =
    waits_call_older story.version here after result (slice_index values 0) (drop 1 values)
perform_other_waits story known.CallVn here after result branch values =
    waits_call_older story.version here after None (slice_index values 0) (drop 1 values)
perform_other_waits story known.CallVn2 here after result branch values =
    waits_call_older story.version here after None (slice_index values 0) (drop 1 values)
perform_other_waits story known.Call1n here after result branch values =
    waits_call_older story.version here after None (slice_index values 0) (drop 1 values)
perform_other_waits story known.Call2n here after result branch values =
    waits_call_older story.version here after None (slice_index values 0) (drop 1 values)
perform_other_waits story known.Print here after result branch values = waits_print_inline story here after
perform_other_waits story known.PrintReturn here after result branch values = waits_print_return story here after
perform_other_waits story known.PrintAddress here after result branch values =
    waits_print_text story here after (slice_index values 0)
perform_other_waits story known.PrintPacked here after result branch values =
    waits_print_text story here after (text_at story.version (slice_index values 0))
perform_other_waits story known.PrintObject here after result branch values =
    waits_print_object story here after (slice_index values 0)
perform_other_waits story operation here after result branch values =
    perform_small_waits operation here after result branch values

waits_drop_word : (here : Next) (after : ℕ) → Waits (drop_word here after)
unfolding drop_word
waits_drop_word here after = waits_then _ _ waits_pop (λ _. waits_goes_on after here.fuel)

waits_fail : (story : Story) (here : Next) (after : ℕ) (result : Option ℕ) (branch : Option Branch)
    → Waits (fail story here after result branch)
waits_fail story here after result branch =
    waits_chosen (is_small story.version) _ _ (waits_branch_on here after branch false)
    (waits_give_result here after result 0)

waits_perform_older : (story : Story) (operation : VersionOperation) (here : Next) (after : ℕ) (result : Option ℕ)
    (branch : Option Branch) (values : List ℕ) → Waits (perform_older story operation here after result branch values)
unfolding perform_older
waits_perform_older story (Known operation) here after result branch values =
    waits_chosen (concerns_nothing operation values) _ _
    (waits_perform_on_none operation here after result branch values)
    (perform_other_waits story operation here after result branch values)
waits_perform_older story (Older Not) here after result branch values = waits_give_result here after result _
waits_perform_older story (Older Pop) here after result branch values = waits_drop_word here after
waits_perform_older story _ here after result branch values = λ s t h. waits_fault faults.Opcode s t h

-- What is waited for

abbrev WaitsFor : {A : Type 0} → Story → (State → Out A) → Type 0
WaitsFor {A} story f = (s t : State) → f s ≡ halt places.Waiting t → WaitsForLine story t

and_so : (a b : Bool) → a ≡ true → b ≡ true → (a && b) ≡ true
and_so a b e f = rw (e, f) refl

or_then : (a b c : Bool) → (b ≡ true → c ≡ true) → (a || b) ≡ true → (a || c) ≡ true
or_then true b c f e = refl
or_then false b c f e = f e

or_last : (a b : Bool) → b ≡ true → (a || b) ≡ true
or_last true b e = refl
or_last false b e = e

either_so : (b x y : Bool) → x ≡ true → y ≡ true → cond b x y ≡ true
either_so true x y e f = e
either_so false x y e f = f

first_so : (b x y : Bool) → b ≡ true → x ≡ true → cond b x y ≡ true
first_so true x y e f = f
first_so false x y e f = absurd (cc)

-- so many bytes less can be written too
fewer_writable : (memory : List ℕ) (text more less : ℕ) → less ≤ more → are_writable memory text more ≡ true
    → are_writable memory text less ≡ true
fewer_writable memory text more less le e =
    let p = and_parts (nat_le 64 text) (nat_le (text + more) (static_base_of memory)) e in
    and_so (nat_le 64 text) (nat_le (text + less) (static_base_of memory)) p.0
    (le-leb (text + less) (static_base_of memory)
    (omega (arith, le, leb-true (text + more) (static_base_of memory) p.1)))

-- what the Standard's `aread` tests is enough in an old version too
old_taken : (m : List ℕ) (text parse : ℕ) → can_take m text parse ≡ true → can_take_old m text parse ≡ true
old_taken m text parse e =
    let room = slice_index m text in
    or_then (text == 0) (standard.has_room m text && has_slots_or_none m parse) _ (λ e.
    let p = and_parts (standard.has_room m text) (has_slots_or_none m parse) e in
    let q = and_parts (are_writable m text (2 + room) && nat_le 1 room) _ p.0 in
    let r = and_parts (are_writable m text (2 + room)) (nat_le 1 room) q.0 in
    and_so _ _ (and_so _ _ (fewer_writable m text (2 + room) (1 + room) (omega arith) r.0) r.1) p.1) e

pub from_right : (story : Story) (t : State) → WaitsRight t → WaitsForLine story t
from_right story t w = record {
  pending = w.pending;
  waits = w.waits;
  right = either_so (is_old story.version) (can_take_old t.memory w.pending.text_buffer w.pending.parse_buffer) _
      (old_taken t.memory w.pending.text_buffer w.pending.parse_buffer w.right) w.right;
}

ended_as : {A B : Type 0} (x : _) (s t : State) → ◌≡◌ {A = Out B} (halt x s) (halt places.Waiting t)
    → ◌≡◌ {A = Out A} (halt x s) (halt places.Waiting t)
ended_as x s t h = cc

for_bound : {A B : Type 0} (story : Story) (o : Out A) (k : A → State → Out B) (t : State)
    → ((u : State) → o ≡ halt places.Waiting u → WaitsForLine story u)
    → ((a : A) (u : State) → o ≡ done a u → k a u ≡ halt places.Waiting t → WaitsForLine story t)
    → bound o k ≡ halt places.Waiting t → WaitsForLine story t
for_bound story (done a s) k t v w h = w a s refl h
for_bound story (halt x s) k t v w h = v t (ended_as x s t h)

for_well : {A : Type 0} (story : Story) (f : State → Out A) → Waits f → WaitsFor story f
for_well story f v s t h = from_right story t (waits_right t (v s t h))

for_then : {A B : Type 0} (story : Story) (f : State → Out A) (k : A → State → Out B) → Waits f
    → ((a : A) → WaitsFor story (k a)) → WaitsFor story (λ s. bound (f s) k)
for_then story f k v w s t h =
    for_bound story (f s) k t (λ u e. for_well story f v s u e) (λ a u _ e. w a u t e) h

test_passed : (b : Bool) (cause : Fault) (s t : State) (a : Unit {0}) → test b cause s ≡ done a t → (b ≡ true) × (t ≡ s)
test_passed true cause s t a h = (refl, done_state tt a s t h)
test_passed false cause s t a h = absurd (never _ a s t h)

waits_so : (story : Story) (pending : Pending) (s t : State) → is_old story.version ≡ true
    → can_take_old s.memory pending.text_buffer pending.parse_buffer ≡ true
    → wait pending s ≡ halt places.Waiting t → WaitsForLine story t
unfolding wait
waits_so story pending s t old right h =
    let e : record s { pending = Some pending } ≡ t = cc in
    subst (WaitsForLine story) e (record {
      pending = pending;
      waits = refl;
      right = first_so (is_old story.version)
          (can_take_old s.memory pending.text_buffer pending.parse_buffer) _ old right;
    })

line_waits : (story : Story) (after text parse : ℕ) → is_old story.version ≡ true
    → WaitsFor story (wait_for_line after text parse)
unfolding wait_for_line test_room test_slots
line_waits story after text parse is s t h =
    let room = has_room s.memory text in
    for_bound story (test room faults.Buffer s) _ t
    (λ u e. for_well story (test room faults.Buffer) (waits_test room faults.Buffer) s u e) (λ a u d f.
    let slots = has_slots u.memory parse in
    for_bound story (test slots faults.Buffer u) _ t
    (λ v e. for_well story (test slots faults.Buffer) (waits_test slots faults.Buffer) u v e) (λ b v e g.
    let p = test_passed room faults.Buffer s u a d in
    let o = test_passed slots faults.Buffer u v b e in
    let m = s.memory in
    let q = and_parts (are_writable m text (1 + slice_index m text)) (nat_le 2 (slice_index m text)) p.0 in
    let old : (are_writable m text (1 + slice_index m text) && nat_le 1 (slice_index m text)) ≡ true =
    and_so _ _ q.0 (le-leb 1 (slice_index m text) (omega (arith, leb-true 2 (slice_index m text) q.1))) in
    waits_so story _ v t is (or_last (text == 0) _ (and_so _ _
    (ap (λ (x : State). are_writable x.memory text (1 + slice_index x.memory text) && nat_le 1 (slice_index x.memory text))
    (o.1 ∙ p.1) ∙ old)
    (or_last (parse == 0) _ (ap (λ (x : State). has_slots x.memory parse) o.1 ∙ o.0)))) g) f) h

read_waits : (story : Story) (here : Here) (after text parse : ℕ) → is_old story.version ≡ true
    → WaitsFor story (read_older story here after text parse)
unfolding read_older
read_waits story here after text parse is =
    for_then story (begin_read story.loaded.characters here) _ (waits_begin_read story.loaded.characters here)
    (λ _ s t h. line_waits story after text parse is s t
    (halt_within here (wait_for_line after text parse s) t h))

-- save and restore
use_file_waits : (story : Story) (purpose : Purpose) (here : Here) (after : ℕ) (result : Option ℕ) (branch : Option Branch)
    → WaitsFor story (use_file story purpose here after result branch)
use_file_waits story purpose here after result branch s t h =
    from_right story t (for_pause_or story.loaded purpose here (here.next.program_counter + 1) result
    (fail story here.next after result branch) (waits_fail story here.next after result branch) s t h)

-- a line is read by `sread` in an old version alone
abbrev ReadsInOld : Story → VersionOperation → Type 0
ReadsInOld story operation = operation ≡ Older Read → is_old story.version ≡ true

perform_waits : (story : Story) (operation : VersionOperation) (here : Here) (after : ℕ) (result : Option ℕ)
    (branch : Option Branch) (values : List ℕ) → ReadsInOld story operation
    → WaitsFor story (perform story operation here after result branch values)
unfolding perform
perform_waits story (Older Read) here after result branch values is =
    read_waits story here after (slice_index values 0) (slice_index values 1) (is refl)
perform_waits story (Older Save) here after result branch values is =
    use_file_waits story Saving here after result branch
perform_waits story (Older Restore) here after result branch values is =
    use_file_waits story Restoring here after result branch
perform_waits story SplitWindow here after result branch values is =
    for_well story _ (waits_split_window (past here after) 0)
perform_waits story operation here after result branch values is = λ s t h.
    for_well story _ (waits_perform_older story operation here.next after result branch values) s t
    (halt_within here (perform_older story operation here.next after result branch values s) t h)

execute_waits : (story : Story) (operation : VersionOperation) (here : Here) (r : Result (Instruction × ℕ) Fault)
    → ReadsInOld story operation → WaitsFor story (execute_older story operation here r)
execute_waits story operation here (Err cause) is = for_well story _ (λ s t h. waits_fault cause s t h)
execute_waits story operation here (Ok x) is = for_then story _ _ (waits_operand_values x.0.operands)
    (λ values. perform_waits story operation here x.1 x.0.result x.0.branch values is)

found_waits : (story : Story) (operation : VersionOperation) (here : Here) (s t : State) → ReadsInOld story operation
    → execute_older story operation here
    (decode_row s.memory here.next.program_counter (row_of story.version.number operation)) s ≡ halt places.Waiting t
    → WaitsForLine story t
found_waits story operation here s t is h = execute_waits story operation here
    (decode_row s.memory here.next.program_counter (row_of story.version.number operation)) is s t h

chosen_waits : (story : Story) (here : Here) (s t : State) (o : Option VersionOperation)
    → older_at story.version s.memory here.next.program_counter ≡ o → chosen story o here s ≡ halt places.Waiting t
    → WaitsForLine story t
chosen_waits story here s t None e h = from_right story t (standard_step_waits story.loaded here s t h)
chosen_waits story here s t (Some Missing) e h = for_well story _ (λ u v k. waits_fault faults.Opcode u v k) s t h
chosen_waits story here s t (Some operation) e h = found_waits story operation here s t
    (λ f. found_old story.version s.memory here.next.program_counter Read (e ∙ ap (λ x. Some x) f)) h

pub any_step_waits : (story : Story) (here : Here) (s t : State) → any_step story here s ≡ halt places.Waiting t
    → WaitsForLine story t
unfolding any_step
any_step_waits story here s t h =
    chosen_waits story here s t (older_at story.version s.memory here.next.program_counter) refl h
