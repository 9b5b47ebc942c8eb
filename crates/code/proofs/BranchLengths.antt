-- How long code is that ends in a branch: beside its label it has as many bytes in each form.
use Rattle.std.proofs.Common.{◌≡◌, ℕ, ◌+◌, ◌%◌, ◌≤◌, List, [], ◌∷◌, ◌++◌, length, Some, Bool, true, false, refl, ap}
use Rattle.std.proofs.Common.{◌∙◌, arith, length-append}
use Rattle.std.specs.Prelude.{nat_lt, if◌then◌else◌, not}
use Rattle.std.specs.List.{flat_map}
use Rattle.std.proofs.lemmas.Bool.{ltb-true, ltb-false}
use Rattle.zcore.specs.declared.instruction.Operand.{Operand}
use Rattle.zcore.specs.declared.instruction.Operand.TheVariants.{Large}
use Rattle.zcore.specs.declared.instruction.Operation.{Operation}
use Rattle.zcore.specs.declared.instruction.Operation.TheVariants as operations
use Rattle.zcore.specs.Operations.{count_of, has_more_types}
use Rattle.zcore.specs.Operations as numbers
use Rattle.zcore.specs.Instruction.{Instruction}
use Rattle.zcore.specs.InstructionBytes.{opcode_bytes, operand_bytes, branch_bytes, bytes_of}
use Rattle.code_drafts.specs.declared.layout.Form.TheVariants as form
use Rattle.code_drafts.specs.Layout.{form_for, size_with}
use Rattle.code_drafts.specs.Items.{Test}
use Rattle.code_drafts.specs.Items as items
use Rattle.meaning.specs.declared.cause.Cause.TheVariants as causes
use Rattle.code_drafts.specs.Addresses.{Addresses}
use Rattle.code_drafts.specs.Instructions.{plain, branching, top, takes, operands, pulled_into}
use Rattle.code_instructions.specs.Instructions.{labelled, test_operation, reverse_test, are_both_pushed, ordered_code, tested_code}
use Rattle.code_instructions.specs.Instructions.{asks_none, least_word, branch_code, case_operands, case_code}
use Rattle.code_drafts.specs.Bytes.{bytes_of_all}
use Rattle.code_instructions.specs.ObjectCode.{tests_in}
use Rattle.code.proofs.AddressLengths.{all_length, one_length, tests_same}

-- Labels

-- the bytes of a branch beside its label
abbrev pub beside : Operation → List Operand → ℕ
beside op os = length (opcode_bytes (count_of op) (numbers.number_of op) (has_more_types op) os
    ++ flat_map operand_bytes os ++ [])

label_bytes : (b : Bool) (x y z : ℕ) → length (if b then x ∷ [] else y ∷ z ∷ []) ≡ (if b then 1 else 2)
label_bytes true x y z = refl
label_bytes false x y z = refl

pub branching_length : (op : Operation) (os : List Operand) (when : Bool) (offset : ℕ)
    → length (bytes_of (branching op os when offset)) ≡ beside op os + (if nat_lt offset 64 then 1 else 2)
unfolding bytes_of
branching_length op os when offset =
    length-append
    (opcode_bytes (count_of op) (numbers.number_of op) (has_more_types op) os ++ flat_map operand_bytes os ++ [])
    (branch_bytes (Some (record { when = when; offset = offset })))
    ∙ ap (λ k. beside op os + k) (label_bytes (nat_lt offset 64) _ _ _)

pub jump_length : (offset : ℕ) → length (bytes_of_all (plain operations.Jump (Large offset ∷ []) ∷ [])) ≡ 3
unfolding bytes_of
jump_length offset = refl

pub labelled_length : (op : Operation) (os : List Operand) (when : Bool) (offset : ℕ)
    → length (bytes_of_all (labelled op os when offset)) ≡ beside op os + size_with (form_for offset)
labelled_length op os when offset = go (nat_lt offset 8192) (nat_lt offset 64) refl refl
  where
    i : Instruction
    i = branching op os when offset

    over : Instruction
    over = branching op os (not when) 5

    j : Instruction
    j = plain operations.Jump (Large (offset % 65536) ∷ [])

    short : (near : Bool) → nat_lt offset 64 ≡ near
        → length (bytes_of_all (i ∷ [])) ≡ beside op os + (if near then 1 else 2)
    short near f = one_length i ∙ branching_length op os when offset
        ∙ ap (λ (b : Bool). beside op os + (if b then 1 else 2)) f

    go : (far near : Bool) → nat_lt offset 8192 ≡ far → nat_lt offset 64 ≡ near
        → length (bytes_of_all (if far then i ∷ [] else over ∷ j ∷ []))
        ≡ beside op os + size_with (if near then form.One else (if far then form.Two else form.Far))
    go true true e f = short true f
    go true false e f = short false f
    go false true e f = absurd (omega (arith, ltb-false _ _ e, ltb-true _ _ f))
    go false false e f = omega (
      arith,
      length-append (bytes_of over) (bytes_of_all (j ∷ [])),
      branching_length op os (not when) 5,
      jump_length (offset % 65536),
    )

-- two pushed words are all that is tested
pub both_pushed : (os : List items.Operand) → are_both_pushed os ≡ true → os ≡ items.pushed ∷ items.pushed ∷ []
both_pushed (items.pushed ∷ items.pushed ∷ []) e = refl
both_pushed [] e = absurd (cc)
both_pushed (items.number k ∷ os) e = absurd (cc)
both_pushed (items.variable x ∷ os) e = absurd (cc)
both_pushed (items.pushed ∷ []) e = absurd (cc)
both_pushed (items.pushed ∷ items.number k ∷ os) e = absurd (cc)
both_pushed (items.pushed ∷ items.variable x ∷ os) e = absurd (cc)
both_pushed (items.pushed ∷ items.pushed ∷ o ∷ os) e = absurd (cc)

-- the bytes of a test beside its label
abbrev pub before_label : Bool → Test → List items.Operand → ℕ
before_label both test os = if both then beside (test_operation (reverse_test test)) (top ∷ top ∷ [])
    else length (bytes_of_all (takes os)) + beside (test_operation test) (operands os)

tested_length : (test : Test) (os : List items.Operand) (when : Bool) (offset : ℕ)
    → length (bytes_of_all (tested_code test os when offset)) ≡ before_label (are_both_pushed os) test os
    + size_with (form_for offset)
tested_length test os when offset = go (are_both_pushed os)
  where
    go : (both : Bool) → length (bytes_of_all (if both
        then labelled (test_operation (reverse_test test)) (top ∷ top ∷ []) when offset else ordered_code test os when offset))
        ≡ before_label both test os + size_with (form_for offset)
    go true = labelled_length (test_operation (reverse_test test)) (top ∷ top ∷ []) when offset
    go false = omega (
      arith,
      all_length (takes os) (labelled (test_operation test) (operands os) when offset),
      labelled_length (test_operation test) (operands os) when offset,
    )

-- beside its label a branch has as many bytes in each form
pub branch_length : (test : Test) (os : List items.Operand) (when : Bool) (offset : ℕ)
    → length (bytes_of_all (branch_code test os when offset)) + 1 ≡ length (bytes_of_all (branch_code test os when 2))
    + size_with (form_for offset)
branch_length test os when offset = go (asks_none test os)
  where
    code : Bool → ℕ → List Instruction
    code b k = if b then tested_code items.less (os ++ items.number least_word ∷ []) when k
        else tested_code test os when k

    go : (b : Bool) → length (bytes_of_all (code b offset)) + 1 ≡ length (bytes_of_all (code b 2))
        + size_with (form_for offset)
    go true = let given = os ++ items.number least_word ∷ [] in
        omega (arith, tested_length items.less given when offset, tested_length items.less given when 2)
    go false = omega (arith, tested_length test os when offset, tested_length test os when 2)

pub branch_some : (test : Test) (os : List items.Operand) (when : Bool)
    → 1 ≤ length (bytes_of_all (branch_code test os when 2))
branch_some test os when = go (asks_none test os)
  where
    go : (b : Bool) → 1 ≤ length (bytes_of_all (if b
        then tested_code items.less (os ++ items.number least_word ∷ []) when 2 else tested_code test os when 2))
    go true = omega (arith, tested_length items.less (os ++ items.number least_word ∷ []) when 2)
    go false = omega (arith, tested_length test os when 2)

-- the test of a case likewise
pub case_length : (test : Test) (ns : List ℕ) (when : Bool) (offset : ℕ)
    → length (bytes_of_all (case_code test ns when offset)) + 1 ≡ length (bytes_of_all (case_code test ns when 2))
    + size_with (form_for offset)
case_length test ns when offset =
    let op = test_operation test in
    omega (
      arith,
      labelled_length op (case_operands ns) when offset,
      labelled_length op (case_operands ns) when 2,
    )

pub case_some : (test : Test) (ns : List ℕ) (when : Bool) → 1 ≤ length (bytes_of_all (case_code test ns when 2))
case_some test ns when = omega (arith, labelled_length (test_operation test) (case_operands ns) when 2)

-- a branch by an object likewise, after its tests
pub label_length : (a b : Addresses) (objects : ℕ) (o : items.Operand) (before : List Instruction) (op : Operation)
    (os : List Operand) (when : Bool) (offset : ℕ)
    → length (bytes_of_all (pulled_into 0 o ++ (tests_in 0 a causes.NotAnObject 1 (objects + 1) o
    ++ (before ++ labelled op os when offset)))) + 1
    ≡ length (bytes_of_all (pulled_into 0 o ++ (tests_in 0 b causes.NotAnObject 1 (objects + 1) o
    ++ (before ++ labelled op os when 2)))) + size_with (form_for offset)
label_length a b objects o before op os when offset =
    let tests = λ (c : Addresses). tests_in 0 c causes.NotAnObject 1 (objects + 1) o in
    omega (
      arith,
      all_length (pulled_into 0 o) (tests a ++ (before ++ labelled op os when offset)),
      all_length (pulled_into 0 o) (tests b ++ (before ++ labelled op os when 2)),
      all_length (tests a) (before ++ labelled op os when offset),
      all_length (tests b) (before ++ labelled op os when 2),
      all_length before (labelled op os when offset),
      all_length before (labelled op os when 2),
      tests_same a b causes.NotAnObject 1 (objects + 1) 0 o,
      labelled_length op os when offset,
      labelled_length op os when 2,
    )

pub label_some : (a : Addresses) (objects : ℕ) (o : items.Operand) (before : List Instruction) (op : Operation)
    (os : List Operand) (when : Bool)
    → 1 ≤ length (bytes_of_all (pulled_into 0 o ++ (tests_in 0 a causes.NotAnObject 1 (objects + 1) o
    ++ (before ++ labelled op os when 2))))
label_some a objects o before op os when =
    let tests = tests_in 0 a causes.NotAnObject 1 (objects + 1) o in
    omega (
      arith,
      all_length (pulled_into 0 o) (tests ++ (before ++ labelled op os when 2)),
      all_length tests (before ++ labelled op os when 2),
      all_length before (labelled op os when 2),
      labelled_length op os when 2,
    )
