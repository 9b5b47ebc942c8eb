-- A read never goes on, and it waits only for what can be given.
use Rattle.std.proofs.Common.{◌≡◌, ℕ, ◌+◌, ◌*◌, ◌++◌, List, [], ◌∷◌, length, refl, ap, arith, Bool, true, false, slice_index}
use Rattle.std.proofs.Common.{Option, Some, None, subst, ◌∙◌}
use Rattle.std.specs.Prelude.{◌==◌, ◌&&◌, ◌||◌, nat_le, nat_lt, if◌then◌else◌}
use Rattle.std.proofs.lemmas.Bool.{and_parts, leb-true, le-leb, eqb-true}
use Rattle.zcore.specs.declared.next.Next.{Next}
use Rattle.zcore.specs.declared.place.Fault.{Fault}
use Rattle.zcore.specs.declared.place.Fault.TheVariants as faults
use Rattle.zcore.specs.declared.place.Place.TheVariants as places
use Rattle.zcore.specs.Header.{static_base_of}
use Rattle.zcore.specs.Parts.{is_text_buffer, is_parse_buffer, test, can_store_in, test_result, wait}
use Rattle.zcore.specs.State.{Frame, Pending, State, Out, done, halt, bound, words}
use Rattle.zcore.specs.Layout.{stack_size}
use Rattle.zcore.proofs.KeepingReads.{chosen, done_state, never}
use Rattle.zcore.proofs.WaitingTests.{WaitsWell, Waits, waits_test, waits_test_result}
use Rattle.zcore_standard.specs.Place.{Here, within}
use Rattle.zcore_standard.specs.Reading.{has_room, test_room, has_slots_or_none, test_slots_or_none, wait_for_line}
use Rattle.zcore_standard.specs.Reading.{wait_for_key, read_line, read_key, can_take}
use Rattle.zcore_standard.specs.Loaded.{Loaded}
use Rattle.zcore_standard.specs.Saving.{pause, prompt, put_prompt, wait_for_name}
use Rattle.zcore_standard.specs.declared.save_form.Purpose.{Purpose}
use Rattle.zcore_standard.specs.Streams.{begin_read}
use Rattle.zcore_standard.specs.Windows.{with_new_line}
use Rattle.zcore_versions.proofs.StreamFacts.{waits_begin_read}
use Rattle.zcore_versions.proofs.WindowFacts.{FallsFrom, waits_redraw}

-- It never goes on

abbrev pub is_done : {H : Type 0} → Out H → Bool
is_done (done next s) = true
is_done (halt place s) = false

pub neither : {P : Type 0} (b : Bool) → b ≡ false → b ≡ true → P
neither true e f = absurd (cc)
neither false e f = absurd (cc)

pub not_done : {A B : Type 0} (o : Out A) (k : A → State → Out B) → ((a : A) (t : State) → is_done (k a t) ≡ false)
    → is_done (bound o k) ≡ false
not_done (done a s) k not = not a s
not_done (halt place s) k not = refl

pub wait_not_done : (pending : Pending) (s : State) → is_done (wait pending s) ≡ false
unfolding wait
wait_not_done pending s = refl

pub within_not_done : (here : Here) (o : Out Next) → is_done o ≡ false → is_done (within here o) ≡ false
within_not_done here (done next s) e = e
within_not_done here (halt place s) e = refl

line_not_done : (after : ℕ) (result : Option ℕ) (text parse : ℕ) (s : State)
    → is_done (wait_for_line after result text parse s) ≡ false
unfolding wait_for_line
line_not_done after result text parse s =
    not_done (test_room text s) _ (λ _ t.
    not_done (test_slots_or_none parse t) _ (λ _ u.
    not_done (test_result result u) _ (λ _ v. wait_not_done _ v)))

key_not_done : (after : ℕ) (result : Option ℕ) (s : State)
    → is_done (wait_for_key after result s) ≡ false
unfolding wait_for_key
key_not_done after result s = not_done (test_result result s) _ (λ _ t. wait_not_done _ t)

never_falls : (here : Here) (f : State → Out Here) → ((s : State) → is_done (f s) ≡ false) → FallsFrom here f
never_falls here f not s t next inside h = neither (is_done (f s)) (not s) (ap is_done h)

pub read_line_falls : (extra : List ℕ) (here : Here) (after : ℕ) (result : Option ℕ) (text parse : ℕ)
    → FallsFrom here (read_line extra here after result text parse)
unfolding read_line
read_line_falls extra here after result text parse =
    never_falls here _ (λ s. not_done (begin_read extra here s) _ (λ _ t.
    within_not_done here (wait_for_line after result text parse t)
    (line_not_done after result text parse t)))

-- a pause for the name of a file

name_not_done : (purpose : Purpose) (place : ℕ) (s : State) → is_done (wait_for_name purpose place s) ≡ false
unfolding wait_for_name
name_not_done purpose place s =
    not_done (put_prompt s) _ (λ _ t. wait_not_done _ t)

pub pause_falls : (loaded : Loaded) (purpose : Purpose) (here : Here) (place : ℕ) (result : Option ℕ)
    → FallsFrom here (pause loaded purpose here place result)
unfolding pause
pause_falls loaded purpose here place result =
    never_falls here _ (λ s. not_done (begin_read loaded.characters here s) _ (λ _ t.
    not_done (test_result result t) _ (λ _ u.
    within_not_done here (wait_for_name purpose place u) (name_not_done purpose place u))))

pub read_key_falls : (extra : List ℕ) (here : Here) (after : ℕ) (result : Option ℕ)
    → FallsFrom here (read_key extra here after result)
unfolding read_key
read_key_falls extra here after result =
    never_falls here _ (λ s. not_done (begin_read extra here s) _ (λ _ t.
    within_not_done here (wait_for_key after result t) (key_not_done after result t)))

-- What it waits for can be given

-- a state that waits for something that can be given
pub record WaitsRight (t : State) : Type 0 where
  pub pending : Pending
  pub waits : t.pending ≡ Some pending
  pub right : can_take t.memory pending.text_buffer pending.parse_buffer ≡ true

-- the buffers that the profile's `aread` tests

both_so : (a b : Bool) → a ≡ true → b ≡ true → (a && b) ≡ true
both_so a b e f = rw (e, f) refl

pub room_of_text : (memory : List ℕ) (text : ℕ) → is_text_buffer memory text ≡ true → has_room memory text ≡ true
room_of_text memory text e =
    let room = slice_index memory text in
    let left = slice_index memory (text + 1) in
    let base = static_base_of memory in
    let a = and_parts _ _ e in
    let b = and_parts _ _ a.0 in
    let c = and_parts _ _ b.0 in
    let past : nat_le 64 text ≡ true = c.0 in
    let fits : nat_le (text + (2 + room)) base ≡ true =
    le-leb (text + (2 + room)) base (omega (arith, leb-true (text + 2 + room) base c.1)) in
    let some : nat_le 1 room ≡ true = b.1 in
    let few : nat_le left room ≡ true = le-leb left room (omega (arith, eqb-true left 0 a.1)) in
    both_so _ _ (both_so _ _ (both_so _ _ past fits) some) few

or_right : (a b c : Bool) → (b ≡ true → c ≡ true) → (a || b) ≡ true → (a || c) ≡ true
or_right true b c f e = refl
or_right false b c f e = f e

pub slots_of_parse : (memory : List ℕ) (parse : ℕ) → is_parse_buffer memory parse ≡ true
    → has_slots_or_none memory parse ≡ true
slots_of_parse memory parse =
    or_right (parse == 0) _ _ (λ e.
    let room = 4 * slice_index memory parse in
    let base = static_base_of memory in
    let a = and_parts _ _ e in
    let b = and_parts _ _ a.0 in
    let past : nat_le 64 parse ≡ true = b.0 in
    let fits : nat_le (parse + (2 + room)) base ≡ true =
    le-leb (parse + (2 + room)) base (omega (arith, leb-true (parse + 2 + room) base b.1)) in
    both_so _ _ past fits)

or_so : (a b : Bool) → b ≡ true → (a || b) ≡ true
or_so true b e = refl
or_so false b e = e

pub waits_right : (t : State) → WaitsWell t → WaitsRight t
waits_right t w = record {
  pending = w.pending;
  waits = w.waits;
  right = or_so (w.pending.text_buffer == 0) _
      (both_so (has_room t.memory w.pending.text_buffer) (has_slots_or_none t.memory w.pending.parse_buffer)
      (room_of_text t.memory w.pending.text_buffer w.text_buffer)
      (slots_of_parse t.memory w.pending.parse_buffer w.parse_buffer));
}

-- a part that leaves such a state wherever it waits
abbrev pub WaitsFor : {A : Type 0} → (State → Out A) → Type 0
WaitsFor {A} f = (s t : State) → f s ≡ halt places.Waiting t → WaitsRight t

ended_as : {A B : Type 0} (x : _) (s t : State) → ◌≡◌ {A = Out B} (halt x s) (halt places.Waiting t)
    → ◌≡◌ {A = Out A} (halt x s) (halt places.Waiting t)
ended_as x s t h = cc

-- two parts, one after the other, of which the first has come to `o`
for_bound : {A B : Type 0} (o : Out A) (k : A → State → Out B) (t : State)
    → ((u : State) → o ≡ halt places.Waiting u → WaitsRight u)
    → ((a : A) (u : State) → o ≡ done a u → k a u ≡ halt places.Waiting t → WaitsRight t)
    → bound o k ≡ halt places.Waiting t → WaitsRight t
for_bound (done a s) k t v w h = w a s refl h
for_bound (halt x s) k t v w h = v t (ended_as x s t h)

-- a part that never waits, and another
pub for_then : {A B : Type 0} (f : State → Out A) (k : A → State → Out B) → Waits f → ((a : A) → WaitsFor (k a))
    → WaitsFor (λ s. bound (f s) k)
for_then f k v w s t h =
    for_bound (f s) k t (λ u e. waits_right u (v s u e)) (λ a u _ e. w a u t e) h

pub for_well : {A : Type 0} (f : State → Out A) → Waits f → WaitsFor f
for_well f v s t h = waits_right t (v s t h)

pub halt_within : (here : Here) (o : Out Next) (t : State) → within here o ≡ halt places.Waiting t
    → o ≡ halt places.Waiting t
halt_within here (done n u) t h = absurd (cc)
halt_within here (halt x u) t h = cc

pub for_within : (here : Here) (f : State → Out Next) → WaitsFor f → WaitsFor (λ s. within here (f s))
for_within here f w s t h = w s t (halt_within here (f s) t h)

-- a test that was passed changes nothing
passed : (b : Bool) (cause : Fault) (s t : State) (a : Unit {0}) → test b cause s ≡ done a t → (b ≡ true) × (t ≡ s)
passed true cause s t a h = (refl, done_state tt a s t h)
passed false cause s t a h = absurd (never _ a s t h)

stores_state : (variable : ℕ) (s t : State) (fs : List Frame) (a : Unit {0})
    → can_store_in variable s fs ≡ done a t → t ≡ s
stores_state variable s t [] a h = absurd (never _ a s t h)
stores_state variable s t (f ∷ fs) a h =
    chosen (t ≡ s) (variable == 0) _ _ a t (λ _ e. (passed (nat_lt (words (f ∷ fs)) stack_size) _ s t a e).1)
    (λ _ e. (passed (nat_le variable (length f.locals) || nat_le 16 variable) _ s t a e).1) h

result_state : (result : Option ℕ) (s t : State) (a : Unit {0}) → test_result result s ≡ done a t → t ≡ s
unfolding test_result
result_state None s t a h = done_state tt a s t h
result_state (Some variable) s t a h = stores_state variable s t s.frames a h

waits_so : (pending : Pending) (s t : State) → can_take s.memory pending.text_buffer pending.parse_buffer ≡ true
    → wait pending s ≡ halt places.Waiting t → WaitsRight t
unfolding wait
waits_so pending s t right h =
    let e : record s { pending = Some pending } ≡ t = cc in
    subst WaitsRight e (record { pending = pending; waits = refl; right = right })

line_waits_right : (after : ℕ) (result : Option ℕ) (text parse : ℕ)
    → WaitsFor (wait_for_line after result text parse)
unfolding wait_for_line test_room test_slots_or_none
line_waits_right after result text parse s t h =
    let room = has_room s.memory text in
    for_bound (test room faults.Buffer s) _ t
    (λ u e. waits_right u (waits_test room faults.Buffer s u e)) (λ a u d f.
    let slots = has_slots_or_none u.memory parse in
    for_bound (test slots faults.Buffer u) _ t
    (λ v e. waits_right v (waits_test slots faults.Buffer u v e)) (λ b v e g.
    for_bound (test_result result v) _ t
    (λ w i. waits_right w (waits_test_result result v w i)) (λ c w i j.
    let p = passed room faults.Buffer s u a d in
    let o = passed slots faults.Buffer u v b e in
    let q = result_state result v w c i in
    waits_so _ w t (or_so (text == 0) _ (both_so (has_room w.memory text) (has_slots_or_none w.memory parse)
    (ap (λ (x : State). has_room x.memory text) (q ∙ o.1 ∙ p.1) ∙ p.0)
    (ap (λ (x : State). has_slots_or_none x.memory parse) (q ∙ o.1) ∙ o.0))) j) g) f) h

key_waits_right : (after : ℕ) (result : Option ℕ) → WaitsFor (wait_for_key after result)
unfolding wait_for_key
key_waits_right after result =
    for_then (test_result result) _ (waits_test_result result) (λ _ s t h. waits_so _ s t refl h)

waits_put_prompt : Waits put_prompt
unfolding put_prompt
waits_put_prompt = waits_redraw (λ s. with_new_line s.text ++ prompt)

name_waits_right : (purpose : Purpose) (place : ℕ) → WaitsFor (wait_for_name purpose place)
unfolding wait_for_name
name_waits_right purpose place =
    for_then put_prompt _ waits_put_prompt
    (λ _ s t h. waits_so _ s t refl h)

pub for_pause : (loaded : Loaded) (purpose : Purpose) (here : Here) (place : ℕ) (result : Option ℕ)
    → WaitsFor (pause loaded purpose here place result)
unfolding pause
for_pause loaded purpose here place result =
    for_then (begin_read loaded.characters here) _ (waits_begin_read loaded.characters here) (λ _.
    for_then (test_result result) _ (waits_test_result result) (λ _.
    for_within here _ (name_waits_right purpose place)))

-- one of two parts
pub for_either : {A : Type 0} (is : Bool) (o p : Out A) (t : State) → (o ≡ halt places.Waiting t → WaitsRight t)
    → (p ≡ halt places.Waiting t → WaitsRight t) → (if is then o else p) ≡ halt places.Waiting t → WaitsRight t
for_either true o p t one two h = one h
for_either false o p t one two h = two h

pub for_read_line : (extra : List ℕ) (here : Here) (after : ℕ) (result : Option ℕ) (text parse : ℕ)
    → WaitsFor (read_line extra here after result text parse)
unfolding read_line
for_read_line extra here after result text parse =
    for_then (begin_read extra here) _ (waits_begin_read extra here)
    (λ _. for_within here _ (line_waits_right after result text parse))

pub for_read_key : (extra : List ℕ) (here : Here) (after : ℕ) (result : Option ℕ)
    → WaitsFor (read_key extra here after result)
unfolding read_key
for_read_key extra here after result =
    for_then (begin_read extra here) _ (waits_begin_read extra here)
    (λ _. for_within here _ (key_waits_right after result))
