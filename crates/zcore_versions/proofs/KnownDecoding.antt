-- An instruction of the profile is decoded alike by the row of its operation.
use Rattle.std.proofs.Common.{◌≡◌, ◌∙◌, ◌+◌, ℕ, Bool, true, false, List, [], ◌∷◌, length, ap, refl, sym, subst, arith}
use Rattle.std.proofs.Common.{Option, None, Some, Ok, Err, Result, slice_index}
use Rattle.std.specs.Prelude.{◌==◌, ◌&&◌, ◌/◌, ◌%◌, nat_le, nat_lt, if◌then◌else◌}
use Rattle.ztext.specs.Results.{◌>>=◌}
use Rattle.zcore.specs.declared.instruction.Branch.{Branch}
use Rattle.zcore.specs.declared.instruction.Operand.{Operand}
use Rattle.zcore.specs.declared.instruction.Operation.{Operation}
use Rattle.zcore.specs.declared.instruction.Operation.TheVariants as known_operations
use Rattle.zcore.specs.declared.place.Fault.{Fault}
use Rattle.zcore.specs.declared.place.Fault.TheVariants as faults
use Rattle.zcore.specs.Instruction.{Instruction, Opcode, branch, byte, decode, given_types, known, long_form, opcode}
use Rattle.zcore.specs.Instruction.{opcode_of, operands, result_variable, short_form, variable_form, variable_types}
use Rattle.zcore.specs.Operations.{has_more_types, has_result, least_operands, most_operands, no_operand, one_operand, row_of}
use Rattle.zcore.specs.Operations.{several_operand, two_operand}
use Rattle.std.proofs.lemmas.Bool.{eqb-false, eqb-true, le-ltb, lt-ltb, ltb-false, ltb-true}
use Rattle.zcore.proofs.Ahead.{chosen, read, refused}
use Rattle.zcore_standard.specs.Instruction.{branch_after, counted, decode_row, result_at, row_types, types_at}
use Rattle.zcore_standard.specs.Instruction as parts
use Rattle.zcore_standard.specs.declared.opcode.Numbering.TheVariants.{Two, One, Zero, Several, Extended}
use Rattle.zcore_standard.specs.Opcodes as opcodes
use Rattle.zcore_standard.specs.Opcodes.{numbered}
use Rattle.zcore_standard.specs.Operations.{profile_of}

-- the operands that an opcode has, by its row
record Rows (memory : List ℕ) (at : ℕ) (x : Opcode × ℕ) : Type 0 where
  types : row_types memory at (row_of x.0.operation) ≡ Ok (x.0.types, x.1)
  kept : counted (row_of x.0.operation) (x.0.types, x.1) ≡ Ok (x.0.types, x.1)

abbrev RowsOf : List ℕ → ℕ → Result (Opcode × ℕ) Fault → Type 0
RowsOf memory at (Ok x) = Rows memory at x
RowsOf memory at (Err cause) = Unit {0}

-- an opcode with these types has a number of them that its row allows
counts : (operation : Operation) (types : List ℕ) (after : ℕ)
    → (nat_le (least_operands operation) (length types) && nat_le (length types) (most_operands operation)) ≡ true
    → counted (row_of operation) (types, after) ≡ Ok (types, after)
counts operation types after e = rw e refl

rows_by : (memory : List ℕ) (at : ℕ) (o : Option Operation) (types : List ℕ) (after : ℕ) (x : Opcode × ℕ)
    → ((operation : Operation) → o ≡ Some operation → row_types memory at (row_of operation) ≡ Ok (types, after))
    → opcode_of o types after ≡ Ok x → Rows memory at x
rows_by memory at None types after x there h = absurd (refused _ x h)
rows_by memory at (Some operation) types after x there h =
    chosen (Rows memory at x)
    (nat_le (least_operands operation) (length types) && nat_le (length types) (most_operands operation)) _ _ x
    (λ b e. subst (λ (r : Result (Opcode × ℕ) Fault). RowsOf memory at r) e (record {
      types = there operation refl;
      kept = counts operation types after b;
    }))
    (λ _ e. absurd (refused _ x e)) h

abbrev RowTypes : List ℕ → ℕ → Option Operation → List ℕ → ℕ → Type 0
RowTypes memory at None types after = Unit {0}
RowTypes memory at (Some operation) types after = row_types memory at (row_of operation) ≡ Ok (types, after)

-- by the form of the first byte
types_long : (memory : List ℕ) (more : Bool) (first at : ℕ) → (first == 190) ≡ false → nat_lt first 128 ≡ true
    → types_at memory more first at ≡ Ok ((first / 64 % 2 + 1) ∷ (first / 32 % 2 + 1) ∷ [], at + 1)
unfolding types_at
types_long memory more first at other long = rw (other, long) refl

types_without : (memory : List ℕ) (more : Bool) (first at : ℕ) → (first == 190) ≡ false → nat_lt first 128 ≡ false
    → nat_lt first 192 ≡ true → (first / 16 % 4 == 3) ≡ true → types_at memory more first at ≡ Ok ([], at + 1)
unfolding types_at
types_without memory more first at other long short none = rw (other, long, short, none) refl

types_one : (memory : List ℕ) (more : Bool) (first at : ℕ) → (first == 190) ≡ false → nat_lt first 128 ≡ false
    → nat_lt first 192 ≡ true → (first / 16 % 4 == 3) ≡ false
    → types_at memory more first at ≡ Ok ((first / 16 % 4) ∷ [], at + 1)
unfolding types_at
types_one memory more first at other long short one = rw (other, long, short, one) refl

types_variable : (memory : List ℕ) (more : Bool) (first at after : ℕ) (types kept : List ℕ) → (first == 190) ≡ false
    → nat_lt first 128 ≡ false → nat_lt first 192 ≡ false → variable_types memory more (at + 1) ≡ Ok (types, after)
    → given_types types ≡ Ok kept → types_at memory more first at ≡ Ok (kept, after)
unfolding types_at
types_variable memory more first at after types kept other long short read given =
    rw (other, long, short) (ap (λ r. r >>= λ (t : List ℕ × ℕ). given_types t.0 >>= λ g. Ok (g, t.1)) read
    ∙ ap (λ r. r >>= λ (g : List ℕ). Ok (g, after)) given)

variable_rows : (memory : List ℕ) (at : ℕ) (x : Opcode × ℕ) → (slice_index memory at == 190) ≡ false
    → nat_lt (slice_index memory at) 128 ≡ false → nat_lt (slice_index memory at) 192 ≡ false
    → variable_form memory (slice_index memory at) (at + 1) ≡ Ok x → Rows memory at x
variable_rows memory at x other long short h =
    let first = slice_index memory at in
    let p = read (known (if nat_lt first 224 then two_operand (first % 32) else several_operand (first % 32))) _ x h in
    let q = read (variable_types memory (has_more_types p.value) (at + 1)) _ x p.second in
    let r = read (given_types q.value.0) _ x q.second in
    rows_by memory at (Some p.value) r.value q.value.1 x
    (λ operation e. subst (λ (o : Option Operation). RowTypes memory at o r.value q.value.1) e
    (types_variable memory (has_more_types p.value) first at q.value.1 q.value.0 r.value other long short q.first r.first))
    r.second

abbrev pair_in : Result (ℕ × ℕ) Fault → ℕ × ℕ
pair_in (Ok x) = x
pair_in (Err cause) = (0, 0)

byte_there : (memory : List ℕ) (at : ℕ) (x : ℕ × ℕ) → byte memory at ≡ Ok x → x ≡ (slice_index memory at, at + 1)
unfolding byte
byte_there memory at x h =
    chosen (x ≡ (slice_index memory at, at + 1)) (nat_lt at (length memory)) _ _ x (λ _ e. sym (ap pair_in e))
    (λ _ e. absurd (refused _ x e)) h

opcode_by : (memory : List ℕ) (at : ℕ) (x : Opcode × ℕ)
    → (if slice_index memory at == 190 then Err faults.Opcode
    else (if nat_lt (slice_index memory at) 128 then long_form (slice_index memory at) (at + 1)
    else (if nat_lt (slice_index memory at) 192 then short_form (slice_index memory at) (at + 1)
    else variable_form memory (slice_index memory at) (at + 1)))) ≡ Ok x → Rows memory at x
opcode_by memory at x h =
    let first = slice_index memory at in
    let rows : Type 0 = Rows memory at x in
    chosen rows (first == 190) _ _ x (λ _ e. absurd (refused _ x e))
    (λ other e. chosen rows (nat_lt first 128) _ _ x
    (λ long f. rows_by memory at (two_operand (first % 32)) _ (at + 1) x
    (λ operation _. types_long memory (nat_lt 4 (most_operands operation)) first at other long) f)
    (λ long f. chosen rows (nat_lt first 192) _ _ x
    (λ short g. chosen rows (first / 16 % 4 == 3) _ _ x
    (λ none i. rows_by memory at (no_operand (first % 16)) [] (at + 1) x
    (λ operation _. types_without memory (nat_lt 4 (most_operands operation)) first at other long short none) i)
    (λ one i. rows_by memory at (one_operand (first % 16)) _ (at + 1) x
    (λ operation _. types_one memory (nat_lt 4 (most_operands operation)) first at other long short one) i) g)
    (λ short g. variable_rows memory at x other long short g) f) e) h

opcode_rows : (memory : List ℕ) (at : ℕ) (x : Opcode × ℕ) → opcode memory at ≡ Ok x → Rows memory at x
unfolding opcode
opcode_rows memory at x h =
    let p = read (byte memory at) _ x h in
    opcode_by memory at x (subst (λ (b : ℕ × ℕ). (if b.0 == 190 then Err faults.Opcode
    else (if nat_lt b.0 128 then long_form b.0 b.1
    else (if nat_lt b.0 192 then short_form b.0 b.1
    else variable_form memory b.0 b.1))) ≡ Ok x) (byte_there memory at p.value p.first) p.second)

-- The instruction

decodes : (memory : List ℕ) (at : ℕ) (code : Opcode × ℕ) → Rows memory at code
    → decode_row memory at (row_of code.0.operation)
    ≡ (operands memory code.0.types code.1 >>= λ given.
    result_variable memory code.0.operation given.1 >>= λ into.
    branch memory code.0.operation into.1 >>= λ to.
    Ok (record { operands = given.0; result = into.0; branch = to.0 }, to.1))
unfolding decode_row result_at branch_after result_variable branch
decodes memory at code rows =
    let row = row_of code.0.operation in
    ap (λ r. r >>= λ (types : List ℕ × ℕ).
    counted row types >>= λ kept.
    operands memory kept.0 kept.1 >>= λ given.
    result_at memory row.has_result given.1 >>= λ into.
    branch_after memory row.has_branch into.1 >>= λ to.
    Ok (record { operands = given.0; result = into.0; branch = to.0 }, to.1)) rows.types
    ∙ ap (λ r. r >>= λ (kept : List ℕ × ℕ).
    operands memory kept.0 kept.1 >>= λ given.
    result_at memory row.has_result given.1 >>= λ into.
    branch_after memory row.has_branch into.1 >>= λ to.
    Ok (record { operands = given.0; result = into.0; branch = to.0 }, to.1)) rows.kept

-- what an instruction says besides its operation
abbrev pub parts_of : Instruction → parts.Instruction
parts_of x = record { operands = x.operands; result = x.result; branch = x.branch }

abbrev operation_in : Result (Instruction × ℕ) Fault → Operation
operation_in (Ok x) = x.0.operation
operation_in (Err cause) = known_operations.Quit

abbrev read_as : Result (Instruction × ℕ) Fault → Result (parts.Instruction × ℕ) Fault
read_as (Ok x) = Ok (parts_of x.0, x.1)
read_as (Err cause) = Err cause

pub decoded_row : (memory : List ℕ) (at : ℕ) (x : Instruction × ℕ) → decode memory at ≡ Ok x
    → decode_row memory at (row_of x.0.operation) ≡ Ok (parts_of x.0, x.1)
unfolding decode
decoded_row memory at x h =
    let p = read (opcode memory at) _ x h in
    let code = p.value in
    let q = read (operands memory code.0.types code.1) _ x p.second in
    let r = read (result_variable memory code.0.operation q.value.1) _ x q.second in
    let t = read (branch memory code.0.operation r.value.1) _ x r.second in
    let operation : code.0.operation ≡ x.0.operation = ap operation_in t.second in
    subst (λ (o : Operation). decode_row memory at (row_of o) ≡ Ok (parts_of x.0, x.1)) operation
    (decodes memory at code (opcode_rows memory at code p.first)
    ∙ ap (λ v. v >>= λ (given : List Operand × ℕ).
    result_variable memory code.0.operation given.1 >>= λ into.
    branch memory code.0.operation into.1 >>= λ to.
    Ok (record { operands = given.0; result = into.0; branch = to.0 }, to.1)) q.first
    ∙ ap (λ v. v >>= λ (into : Option ℕ × ℕ).
    branch memory code.0.operation into.1 >>= λ to.
    Ok (record { operands = q.value.0; result = into.0; branch = to.0 }, to.1)) r.first
    ∙ ap (λ v. v >>= λ (to : Option Branch × ℕ).
    Ok (record { operands = q.value.0; result = r.value.0; branch = to.0 }, to.1)) t.first
    ∙ ap read_as t.second)

-- The operation is that of the opcode

abbrev opcode_in : Result (Opcode × ℕ) Fault → Option Operation
opcode_in (Ok x) = Some x.0.operation
opcode_in (Err cause) = None

abbrev some_in : Result Operation Fault → Option Operation
some_in (Ok operation) = Some operation
some_in (Err cause) = None

operation_by : (o : Option Operation) (types : List ℕ) (after : ℕ) (x : Opcode × ℕ) → opcode_of o types after ≡ Ok x
    → o ≡ Some x.0.operation
operation_by None types after x h = absurd (refused _ x h)
operation_by (Some operation) types after x h =
    chosen (Some operation ≡ Some x.0.operation)
    (nat_le (least_operands operation) (length types) && nat_le (length types) (most_operands operation)) _ _ x
    (λ _ e. ap opcode_in e) (λ _ e. absurd (refused _ x e)) h

known_is : (o : Option Operation) (operation : Operation) → known o ≡ Ok operation → o ≡ Some operation
known_is None operation e = absurd (refused _ operation e)
known_is (Some other) operation e = ap some_in e

variable_operation : (memory : List ℕ) (first after : ℕ) (x : Opcode × ℕ) → variable_form memory first after ≡ Ok x
    → (if nat_lt first 224 then two_operand (first % 32) else several_operand (first % 32)) ≡ Some x.0.operation
variable_operation memory first after x h =
    let o = if nat_lt first 224 then two_operand (first % 32) else several_operand (first % 32) in
    let p = read (known o) _ x h in
    let q = read (variable_types memory (has_more_types p.value) after) _ x p.second in
    let r = read (given_types q.value.0) _ x q.second in
    known_is o p.value p.first ∙ operation_by (Some p.value) r.value q.value.1 x r.second

-- the operation of a first byte
abbrev first_operation : ℕ → Option Operation
first_operation first =
    if nat_lt first 128 then two_operand (first % 32)
    else (if nat_lt first 176 then one_operand (first % 16)
    else (if nat_lt first 192 then no_operand (first % 16)
    else (if nat_lt first 224 then two_operand (first % 32)
    else several_operand (first % 32))))

form_operation : (memory : List ℕ) (first after : ℕ) (x : Opcode × ℕ)
    → (if first == 190 then Err faults.Opcode
    else (if nat_lt first 128 then long_form first after
    else (if nat_lt first 192 then short_form first after
    else variable_form memory first after))) ≡ Ok x
    → ((first == 190) ≡ false) × (first_operation first ≡ Some x.0.operation)
form_operation memory first after x h =
    let goal : Type 0 = ((first == 190) ≡ false) × (first_operation first ≡ Some x.0.operation) in
    chosen goal (first == 190) _ _ x (λ _ e. absurd (refused _ x e))
    (λ other e. (
      other,
      chosen (first_operation first ≡ Some x.0.operation) (nat_lt first 128) _ _ x
          (λ long f. rw long (operation_by (two_operand (first % 32)) _ after x f))
          (λ long f. chosen (first_operation first ≡ Some x.0.operation) (nat_lt first 192) _ _ x
          (λ short g. chosen (first_operation first ≡ Some x.0.operation) (first / 16 % 4 == 3) _ _ x
          (λ none i.
          let high : nat_lt first 176 ≡ false = le-ltb first 176 (omega (arith, eqb-true (first / 16 % 4) 3 none, ltb-false first 128 long, ltb-true first 192 short)) in
          rw (long, high, short) (operation_by (no_operand (first % 16)) [] after x i))
          (λ one i.
          let low : nat_lt first 176 ≡ true = lt-ltb first 176 (omega (arith, eqb-false (first / 16 % 4) 3 one, ltb-false first 128 long, ltb-true first 192 short)) in
          rw (long, low) (operation_by (one_operand (first % 16)) _ after x i)) g)
          (λ short g.
          let high : nat_lt first 176 ≡ false = le-ltb first 176 (omega (arith, ltb-false first 192 short)) in
          rw (long, high, short) (variable_operation memory first after x g)) f) e,
    )) h

profile_form : (long short without two : Bool) (first : ℕ)
    → profile_of
    (if long then numbered Two (first % 32)
    else (if short then numbered One (first % 16)
    else (if without then numbered Zero (first % 16)
    else (if two then numbered Two (first % 32)
    else numbered Several (first % 32)))))
    ≡ (if long then two_operand (first % 32)
    else (if short then one_operand (first % 16)
    else (if without then no_operand (first % 16)
    else (if two then two_operand (first % 32)
    else several_operand (first % 32)))))
profile_form true short without two first = refl
profile_form false true without two first = refl
profile_form false false true two first = refl
profile_form false false false true first = refl
profile_form false false false false first = refl

-- the profile's operation of the two bytes at an address where it decodes an instruction
pub decoded_profile : (memory : List ℕ) (at second : ℕ) (x : Instruction × ℕ) → decode memory at ≡ Ok x
    → profile_of (opcodes.opcode_of (slice_index memory at) second) ≡ Some x.0.operation
unfolding decode opcode
decoded_profile memory at second x h =
    let first = slice_index memory at in
    let p = read (opcode memory at) _ x h in
    let q = read (operands memory p.value.0.types p.value.1) _ x p.second in
    let r = read (result_variable memory p.value.0.operation q.value.1) _ x q.second in
    let t = read (branch memory p.value.0.operation r.value.1) _ x r.second in
    let b = read (byte memory at) _ p.value p.first in
    let form = form_operation memory first (at + 1) p.value
    (subst (λ (b : ℕ × ℕ). (if b.0 == 190 then Err faults.Opcode
    else (if nat_lt b.0 128 then long_form b.0 b.1
    else (if nat_lt b.0 192 then short_form b.0 b.1
    else variable_form memory b.0 b.1))) ≡ Ok p.value) (byte_there memory at b.value b.first) b.second) in
    ap (λ (e : Bool). profile_of (if e then numbered Extended second else opcodes.plain first)) form.0
    ∙ profile_form (nat_lt first 128) (nat_lt first 176) (nat_lt first 192) (nat_lt first 224) first ∙ form.1
    ∙ ap (λ (o : Operation). Some o) (ap operation_in t.second)

abbrev result_in : Result (Option ℕ × ℕ) Fault → Option ℕ
result_in (Ok x) = x.0
result_in (Err cause) = None

abbrev stored_in : Result (Instruction × ℕ) Fault → Option ℕ
stored_in (Ok x) = x.0.result
stored_in (Err cause) = None

result_none : (memory : List ℕ) (operation : Operation) (at : ℕ) (x : Option ℕ × ℕ)
    → result_variable memory operation at ≡ Ok x → has_result operation ≡ false → x.0 ≡ None
unfolding result_variable
result_none memory operation at x h none =
    let e : result_variable memory operation at ≡ Ok (None, at) = rw none refl in
    sym (ap result_in h) ∙ ap result_in e

-- an instruction has a result only where its operation stores one
pub decoded_result : (memory : List ℕ) (at : ℕ) (x : Instruction × ℕ) → decode memory at ≡ Ok x
    → has_result x.0.operation ≡ false → x.0.result ≡ None
unfolding decode
decoded_result memory at x h none =
    let p = read (opcode memory at) _ x h in
    let q = read (operands memory p.value.0.types p.value.1) _ x p.second in
    let r = read (result_variable memory p.value.0.operation q.value.1) _ x q.second in
    let t = read (branch memory p.value.0.operation r.value.1) _ x r.second in
    sym (ap stored_in t.second)
    ∙ result_none memory p.value.0.operation q.value.1 r.value r.first (ap has_result (ap operation_in t.second) ∙ none)
