-- `aread` with two operands is the same instruction in the profile and here.
use Rattle.std.proofs.Common.{◌≡◌, ℕ, ◌+◌, ◌<◌, List, [], ◌∷◌, length, refl, ap, sym, ◌∙◌, Bool, true, false}
use Rattle.std.proofs.Common.{arith, slice_index, slice_index_or, Option, Some, None, Result, Ok, Err}
use Rattle.std.specs.Prelude.{◌==◌, ◌&&◌, ◌||◌, nat_le, not}
use Rattle.std.specs.Option.{is_none}
use Rattle.std.proofs.lemmas.Bool.{and_parts, leb-true}
use Rattle.zcore.specs.declared.instruction.Operand.{Operand}
use Rattle.zcore.specs.declared.instruction.Operation.TheVariants as operations
use Rattle.zcore.specs.declared.place.Fault.{Fault}
use Rattle.zcore.specs.declared.place.Fault.TheVariants as faults
use Rattle.zcore.specs.declared.next.Next.{Next}
use Rattle.ztext.specs.Results.{◌>>=◌}
use Rattle.zcore.specs.Instruction as profile
use Rattle.zcore.specs.Instruction.{Opcode, operands, variable_types, given_types, opcode_of, opcode, decode}
use Rattle.zcore.specs.Instruction.{result_variable, branch}
use Rattle.zcore.specs.Execution.{perform, execute, step, read}
use Rattle.zcore.specs.Parts.{is_code, operand_values, test, is_text_buffer, test_text_buffer, is_parse_buffer}
use Rattle.zcore.specs.Parts.{test_parse_buffer, can_store_in, test_result, wait}
use Rattle.zcore.specs.State.{Frame, Pending, State, Out, done, halt, bound}
use Rattle.zcore.proofs.Ahead as ahead
use Rattle.zcore_standard.specs.declared.operations.StandardOperation.TheVariants.{Read}
use Rattle.zcore_standard.specs.declared.streams.Stream.{Stream}
use Rattle.zcore_standard.specs.Place.{Here, within, is_none_open}
use Rattle.zcore_standard.specs.Loaded.{Loaded}
use Rattle.zcore_versions.specs.StandardLaws.{is_fault, ends_in_fault, waits, is_plain, closes_none}
use Rattle.zcore_standard.specs.Instruction.{types_at, counted, result_at, branch_after, decode_row}
use Rattle.zcore_standard.specs.Operations.{row_of}
use Rattle.zcore_standard.specs.Performing.{perform_further, execute_further}
use Rattle.zcore_standard.specs.Reading.{has_room, test_room, has_slots_or_none, test_slots_or_none, wait_for_line}
use Rattle.zcore_standard.specs.Reading.{read_line}
use Rattle.zcore_standard.specs.Windows.{show_upper}
use Rattle.zcore_standard.specs.Streams.{close_all, begin_read}
use Rattle.zcore_versions.proofs.Awaiting.{neither, room_of_text, slots_of_parse}
use Rattle.zcore_versions.proofs.Objects.{goes_on_or_faults, OnlyFaults, either_faults, test_faults}
use Rattle.zcore_versions.proofs.Refusing.{IsReadByte, is_no_some, opcode_is}

-- the opcode as the profile reads it
read_opcode : (memory : List ℕ) (at : ℕ) → at < length memory → IsReadByte (slice_index memory at)
    → opcode memory at
    ≡ (variable_types memory false (at + 1) >>= λ types. given_types types.0 >>= λ kept.
    opcode_of (Some operations.Read) kept types.1)
read_opcode memory at within is =
    opcode_is memory at within ∙ rw (is.no_extended, is.no_long, is.no_short, is.no_two, is.number) refl

-- what both read
record ReadsAlike (memory : List ℕ) (at : ℕ) : Type 0 where
  given : List Operand
  result : Option ℕ
  after : ℕ
  plain : decode memory at
      ≡ Ok (record { operation = operations.Read; operands = given; result = result; branch = None }, after)
  further : decode_row memory at (row_of Read) ≡ Ok (record { operands = given; result = result; branch = None }, after)

types_read : (memory : List ℕ) (first at : ℕ) (types : List ℕ × ℕ) (kept : List ℕ) → IsReadByte first
    → variable_types memory false (at + 1) ≡ Ok types → given_types types.0 ≡ Ok kept
    → types_at memory false first at ≡ Ok (kept, types.1)
unfolding types_at
types_read memory first at types kept is e f = rw (is.no_extended, is.no_long, is.no_short, e, f) refl

counted_two : (types : List ℕ) (place : ℕ) → (nat_le 2 (length types) && nat_le (length types) 2) ≡ true
    → counted (row_of Read) (types, place) ≡ Ok (types, place)
counted_two types place e =
    let parts = and_parts (nat_le 2 (length types)) (nat_le (length types) 2) e in
    let least = leb-true 2 (length types) parts.0 in
    let most = leb-true (length types) 2 parts.1 in
    let two : length types ≡ 2 = omega (arith, least, most) in
    rw two refl

-- the instruction, by what its parts read
read_so : (memory : List ℕ) (at : ℕ) (types : List ℕ) (place : ℕ) (given : List Operand × ℕ) (result : Option ℕ × ℕ)
    → opcode memory at ≡ Ok (record { operation = operations.Read; types = types }, place)
    → types_at memory false (slice_index memory at) at ≡ Ok (types, place)
    → counted (row_of Read) (types, place) ≡ Ok (types, place) → operands memory types place ≡ Ok given
    → result_variable memory operations.Read given.1 ≡ Ok result → ReadsAlike memory at
unfolding decode branch decode_row branch_after result_at result_variable
read_so memory at types place given result e f g o r = record {
  given = given.0;
  result = result.0;
  after = result.1;
  plain = rw (e, o, r) refl;
  further = rw (f, g, o, r) refl;
}

refused_by : (memory : List ℕ) (at : ℕ) (cause : Fault) → opcode memory at ≡ Err cause → decode memory at ≡ Err cause
unfolding decode
refused_by memory at cause e = rw e refl

same_code : (a b : Opcode × ℕ) → (let r : Result (Opcode × ℕ) Fault = Ok a in r) ≡ Ok b → b ≡ a
same_code a b h = cc

two_of : (types : List ℕ) (place : ℕ) (code : Opcode × ℕ) → opcode_of (Some operations.Read) types place ≡ Ok code
    → ((nat_le 2 (length types) && nat_le (length types) 2) ≡ true)
    × (code ≡ (record { operation = operations.Read; types = types }, place))
two_of types place code h =
    ahead.chosen _ (nat_le 2 (length types) && nat_le (length types) 2) _ _ code
    (λ b e. (b, same_code _ code e)) (λ _ e. absurd (ahead.refused _ code e)) h

after_types : (memory : List ℕ) (at : ℕ) (types : List ℕ) (place : ℕ) (x : profile.Instruction × ℕ)
    → opcode memory at ≡ Ok (record { operation = operations.Read; types = types }, place)
    → types_at memory false (slice_index memory at) at ≡ Ok (types, place)
    → counted (row_of Read) (types, place) ≡ Ok (types, place)
    → (operands memory types place >>= λ given. result_variable memory operations.Read given.1 >>= λ into.
    branch memory operations.Read into.1 >>= λ to.
    Ok (record { operation = operations.Read; operands = given.0; result = into.0; branch = to.0 }, to.1)) ≡ Ok x
    → ReadsAlike memory at
after_types memory at types place x e f g h =
    let q = ahead.read (operands memory types place) _ x h in
    let r = ahead.read (result_variable memory operations.Read q.value.1) _ x q.second in
    read_so memory at types place q.value r.value e f g q.first r.first

decoded_by : (memory : List ℕ) (at : ℕ) (code : Opcode × ℕ) → opcode memory at ≡ Ok code
    → decode memory at
    ≡ (operands memory code.0.types code.1 >>= λ given.
    result_variable memory code.0.operation given.1 >>= λ into.
    branch memory code.0.operation into.1 >>= λ to.
    Ok (record { operation = code.0.operation; operands = given.0; result = into.0; branch = to.0 }, to.1))
unfolding decode
decoded_by memory at code e = rw e refl

reads_alike : (memory : List ℕ) (at : ℕ) (x : profile.Instruction × ℕ) → at < length memory
    → IsReadByte (slice_index memory at) → decode memory at ≡ Ok x → ReadsAlike memory at
reads_alike memory at x within is h = elim (opcode memory at) as (λ r. opcode memory at ≡ r → ReadsAlike memory at) [
  | Err cause ↦ λ e. absurd (ahead.refused cause x (sym (refused_by memory at cause e) ∙ h))
  | Ok code ↦ λ e.
      let k = sym (read_opcode memory at within is) ∙ e in
      let t = ahead.read (variable_types memory false (at + 1)) _ code k in
      let g = ahead.read (given_types t.value.0) _ code t.second in
      let c = two_of g.value t.value.1 code g.second in
      after_types memory at g.value t.value.1 x (e ∙ ap Ok c.1)
      (types_read memory (slice_index memory at) at t.value g.value is t.first g.first)
      (counted_two g.value t.value.1 c.0)
      (sym (decoded_by memory at _ (e ∙ ap Ok c.1)) ∙ h)
] refl

-- `aread` waits where the profile's does

record IsPlain (here : Here) : Type 0 where
  streams : here.streams ≡ []
  upper : here.upper ≡ None

-- a test that the profile's machine makes, and a weaker one
tested_alike : (b c : Bool) (cause : Fault) (s : State) (f g : Unit {0} → State → Out Next) → (b ≡ true → c ≡ true)
    → ends_in_fault (bound (test b cause s) f) ≡ false
    → (ends_in_fault (f tt s) ≡ false → g tt s ≡ f tt s)
    → bound (test c cause s) g ≡ bound (test b cause s) f
tested_alike true c cause s f g right plays same = rw (right refl) (same plays)
tested_alike false c cause s f g right plays same = absurd (neither true plays refl)

line_waits : (here : Next) (after : ℕ) (result : Option ℕ) (text parse : ℕ) (s : State)
    → ends_in_fault (read here after result text parse s) ≡ false
    → wait_for_line after result text parse s ≡ read here after result text parse s
unfolding read wait_for_line test_text_buffer test_parse_buffer test_room test_slots_or_none
line_waits here after result text parse s plays =
    tested_alike (is_text_buffer s.memory text) (has_room s.memory text) faults.Buffer s _ _
    (room_of_text s.memory text) plays (λ plays.
    tested_alike (is_parse_buffer s.memory parse) (has_slots_or_none s.memory parse) faults.Buffer s _ _
    (slots_of_parse s.memory parse) plays (λ _. refl))

-- where it meets no fault, the profile's waits

waits_unless : {A : Type 0} (o : Out A) (k : A → State → Out Next) → goes_on_or_faults o ≡ true
    → ((a : A) (t : State) → ends_in_fault (k a t) ≡ false → waits (k a t) ≡ true)
    → ends_in_fault (bound o k) ≡ false → waits (bound o k) ≡ true
waits_unless (done a s) k e rest plays = rest a s plays
waits_unless (halt place s) k e rest plays = neither (is_fault place) plays e

storing_faults : (variable : ℕ) (s : State) (fs : List Frame) → goes_on_or_faults (can_store_in variable s fs) ≡ true
storing_faults variable s [] = refl
storing_faults variable s (f ∷ fs) =
    either_faults (variable == 0) _ _ (test_faults _ faults.StackFull s) (test_faults _ faults.Write s)

result_faults : (result : Option ℕ) → OnlyFaults (test_result result)
unfolding test_result
result_faults None s = refl
result_faults (Some variable) s = storing_faults variable s s.frames

is_wait : (pending : Pending) (s : State) → waits (wait pending s) ≡ true
unfolding wait
is_wait pending s = refl

read_waits : (here : Next) (after : ℕ) (result : Option ℕ) (text parse : ℕ) (s : State)
    → ends_in_fault (read here after result text parse s) ≡ false → waits (read here after result text parse s) ≡ true
unfolding read test_text_buffer test_parse_buffer
read_waits here after result text parse s =
    waits_unless _ _ (test_faults (is_text_buffer s.memory text) faults.Buffer s) (λ _ t.
    waits_unless _ _ (test_faults (is_parse_buffer t.memory parse) faults.Buffer t) (λ _ u.
    waits_unless _ _ (result_faults result u) (λ _ v _. is_wait _ v)))

-- then no stream is open, and the upper window is not there

one_of : (a b : Bool) → b ≡ false → (a || b) ≡ true → a ≡ true
one_of true b e f = refl
one_of false b e f = neither b e f

none_open : (streams : List Stream) → is_none_open streams ≡ true → streams ≡ []
none_open [] e = refl
none_open (stream ∷ streams) e = absurd (cc)

plain_place : (here : Here) (o : Out Next) → closes_none here o ≡ true → waits o ≡ true → IsPlain here
plain_place here o quiet is =
    let parts = and_parts (is_none_open here.streams) (is_none here.upper)
    (one_of (is_plain here) (not (waits o)) (ap not is) quiet) in
    record { streams = none_open here.streams parts.0; upper = is_no_some here.upper parts.1 }

-- and nothing comes before the wait
plain_read : (extra : List ℕ) (here : Here) (after : ℕ) (result : Option ℕ) (text parse : ℕ) (s : State)
    → here.streams ≡ [] → here.upper ≡ None
    → read_line extra here after result text parse s ≡ within here (wait_for_line after result text parse s)
unfolding read_line begin_read close_all show_upper
plain_read extra here after result text parse s e f = rw (e, f) refl

line_read : (extra : List ℕ) (here : Here) (after : ℕ) (result : Option ℕ) (text parse : ℕ) (s : State)
    → ends_in_fault (read here.next after result text parse s) ≡ false
    → closes_none here (read here.next after result text parse s) ≡ true
    → read_line extra here after result text parse s ≡ within here (read here.next after result text parse s)
line_read extra here after result text parse s plays quiet =
    let bare = plain_place here (read here.next after result text parse s) quiet
    (read_waits here.next after result text parse s plays) in
    plain_read extra here after result text parse s bare.streams bare.upper
    ∙ ap (within here) (line_waits here.next after result text parse s plays)

-- the same after a part, whatever it came to
after_alike : {A : Type 0} (here : Here) (o : Out A) (k : A → State → Out Here) (m : A → State → Out Next)
    → ends_in_fault (bound o m) ≡ false → closes_none here (bound o m) ≡ true
    → ((a : A) (t : State) → ends_in_fault (m a t) ≡ false → closes_none here (m a t) ≡ true
    → k a t ≡ within here (m a t))
    → bound o k ≡ within here (bound o m)
after_alike here (done a s) k m plays quiet same = same a s plays quiet
after_alike here (halt place s) k m plays quiet same = refl

-- `aread` with these operands, in the profile
abbrev reads : Here → List Operand → Option ℕ → ℕ → State → Out Next
reads here given result after = execute here.next
    (Ok (record { operation = operations.Read; operands = given; result = result; branch = None }, after))

executes_alike : (loaded : Loaded) (here : Here) (s : State) (given : List Operand) (result : Option ℕ) (after : ℕ)
    → ends_in_fault (reads here given result after s) ≡ false
    → closes_none here (reads here given result after s) ≡ true
    → execute_further loaded Read here (Ok (record { operands = given; result = result; branch = None }, after)) s
    ≡ within here (reads here given result after s)
unfolding perform perform_further
executes_alike loaded here s given result after plays quiet =
    after_alike here (operand_values given s) _ _ plays quiet (λ values t plays quiet.
    line_read loaded.characters here after result (slice_index values 0) (slice_index_or values 1 0) t plays quiet)

steps_as : (here : Next) (s : State) (r : Result (profile.Instruction × ℕ) Fault)
    → is_code s.memory here.program_counter ≡ true → decode s.memory here.program_counter ≡ r
    → step here s ≡ execute here r s
unfolding step
steps_as here s r code e = rw (code, e) refl

read_by : (loaded : Loaded) (here : Here) (s : State) (r : Result (profile.Instruction × ℕ) Fault)
    → is_code s.memory here.next.program_counter ≡ true → here.next.program_counter < length s.memory
    → IsReadByte (slice_index s.memory here.next.program_counter) → decode s.memory here.next.program_counter ≡ r
    → ends_in_fault (step here.next s) ≡ false → closes_none here (step here.next s) ≡ true
    → execute_further loaded Read here (decode_row s.memory here.next.program_counter (row_of Read)) s
    ≡ within here (step here.next s)
read_by loaded here s (Err cause) code inside is e plays quiet =
    absurd (neither _ plays (ap ends_in_fault (steps_as here.next s (Err cause) code e)))
read_by loaded here s (Ok x) code inside is e plays quiet =
    let at = here.next.program_counter in
    let a = reads_alike s.memory at x inside is e in
    let steps = steps_as here.next s _ code a.plain in
    ap (λ r. execute_further loaded Read here r s) a.further
    ∙ executes_alike loaded here s a.given a.result a.after (sym (ap ends_in_fault steps) ∙ plays)
    (sym (ap (closes_none here) steps) ∙ quiet)
    ∙ sym (ap (within here) steps)

-- where the profile meets no fault, and closes no stream and shows no window, `aread` is the same here
pub read_keeps : (loaded : Loaded) (here : Here) (s : State) → is_code s.memory here.next.program_counter ≡ true
    → here.next.program_counter < length s.memory → IsReadByte (slice_index s.memory here.next.program_counter)
    → ends_in_fault (step here.next s) ≡ false → closes_none here (step here.next s) ≡ true
    → execute_further loaded Read here (decode_row s.memory here.next.program_counter (row_of Read)) s
    ≡ within here (step here.next s)
read_keeps loaded here s code inside is plays quiet =
    read_by loaded here s (decode s.memory here.next.program_counter) code inside is refl plays quiet
