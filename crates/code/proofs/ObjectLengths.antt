-- How long the code of items on objects is: as long with some addresses of faults as with others.
use Rattle.std.proofs.Common.{◌≡◌, ℕ, ◌+◌, List, [], ◌∷◌, ◌++◌, length, Bool, true, false, refl, arith}
use Rattle.std.specs.Prelude.{if◌then◌else◌}
use Rattle.zcore.specs.declared.instruction.Operand.{Operand}
use Rattle.zcore.specs.declared.instruction.Operand.TheVariants.{Large, Small, Variable}
use Rattle.zcore.specs.declared.instruction.Operation.TheVariants as operations
use Rattle.zcore.specs.Instruction.{Instruction}
use Rattle.zcore.specs.InstructionBytes.{bytes_of}
use Rattle.meaning.specs.declared.resolved.Variable as source
use Rattle.code_drafts.specs.Items.{Destination}
use Rattle.code_drafts.specs.Items as items
use Rattle.meaning.specs.declared.cause.Cause.TheVariants as causes
use Rattle.code_drafts.specs.Addresses.{Addresses, fault_address}
use Rattle.code_drafts.specs.Instructions.{plain, branching, fail, number_of, temporary, constant, giving, result_in}
use Rattle.code_drafts.specs.Instructions.{pulled_into, word_in, store}
use Rattle.code_instructions.specs.Instructions.{offset_over_comparison}
use Rattle.code_drafts.specs.Bytes.{bytes_of_all}
use Rattle.code_instructions.specs.ObjectCode.{tested_in, at_object, property_address, length_at, branching_zero}
use Rattle.code_instructions.specs.ObjectCode.{branching_single, property_value, provided, tested_word, tested_single}
use Rattle.code_instructions.specs.ObjectCode.{offset_over_operand, loaded_at, assigned_single, assigned_at, property_word_code}
use Rattle.code_instructions.specs.ObjectCode.{assign_property_code, assign_property_word_code, climbing, moved_into}
use Rattle.code_instructions.specs.ObjectCode.{jump_by, next_object_code, assigned_takes, assigned_word, passed_on}
use Rattle.code.proofs.AddressLengths.{all_length, fail_same, AsLong, in_same, at_same}

-- Objects

-- faults within
through : (before : List Instruction) (x y : ℕ) (more other : List Instruction)
    → length (bytes_of_all more) ≡ length (bytes_of_all other)
    → length (bytes_of_all (before ++ (fail x ++ more))) ≡ length (bytes_of_all (before ++ (fail y ++ other)))
through before x y more other same = omega (
  arith,
  all_length before (fail x ++ more),
  all_length before (fail y ++ other),
  all_length (fail x) more,
  all_length (fail y) other,
  fail_same x y,
  same,
)

module _ (a b : Addresses) where
  pub value_same : (single : Bool) (q v : ℕ)
      → AsLong (λ x. property_value a single x q v) (λ x. property_value b single x q v)
  value_same true q v x = refl
  value_same false q v x =
      through
      (property_address x q (temporary 1) ∷ branching_zero (temporary 1) true 13
      ∷ length_at (temporary 1) (temporary 1) ∷ branching_single (temporary 1) ∷ [])
      (fault_address a causes.PropertyOfManyWords) (fault_address b causes.PropertyOfManyWords)
      (giving operations.GetProperty (x ∷ Small q ∷ []) v ∷ [])
      (giving operations.GetProperty (x ∷ Small q ∷ []) v ∷ [])
      refl

  provided_same : (x : Operand) (q : ℕ) (more other : List Instruction)
      → length (bytes_of_all more) ≡ length (bytes_of_all other)
      → length (bytes_of_all (provided a x q ++ more)) ≡ length (bytes_of_all (provided b x q ++ other))
  provided_same x q more other same =
      through (property_address x q (temporary 2) ∷ branching_zero (temporary 2) false 6 ∷ [])
      (fault_address a causes.NoSuchProperty) (fault_address b causes.NoSuchProperty) more other same

  word_same : (i : Operand) (more : List Instruction)
      → length (bytes_of_all (tested_word a i ++ more)) ≡ length (bytes_of_all (tested_word b i ++ more))
  word_same i more =
      through
      (length_at (temporary 2) (temporary 3)
      ∷ giving operations.Div (Variable (temporary 3) ∷ Small 2 ∷ []) (temporary 3)
      ∷ branching operations.JumpIfLess (i ∷ Small 0 ∷ []) true (offset_over_operand i)
      ∷ branching operations.JumpIfLess (i ∷ Variable (temporary 3) ∷ []) true 6 ∷ [])
      (fault_address a causes.IndexOutOfRange) (fault_address b causes.IndexOutOfRange) more more refl

  single_same : (single : Bool) (more : List Instruction)
      → length (bytes_of_all (tested_single a single ++ more)) ≡ length (bytes_of_all (tested_single b single ++ more))
  single_same true more = refl
  single_same false more =
      through (length_at (temporary 2) (temporary 3) ∷ branching_single (temporary 3) ∷ [])
      (fault_address a causes.PropertyOfManyWords) (fault_address b causes.PropertyOfManyWords) more more refl

  module _ (objects : ℕ) where
    pub object_same : (o : items.Operand) (act other : Operand → List Instruction) → AsLong act other
        → length (bytes_of_all (at_object a objects o act)) ≡ length (bytes_of_all (at_object b objects o other))
    object_same o act other same = at_same a b causes.NotAnObject 1 (objects + 1) o act other same

    pub behind_same : (before : List Instruction) (o : items.Operand) (act other : Operand → List Instruction)
        → AsLong act other
        → length (bytes_of_all (before ++ at_object a objects o act))
        ≡ length (bytes_of_all (before ++ at_object b objects o other))
    behind_same before o act other same = omega (
      arith,
      all_length before (at_object a objects o act),
      all_length before (at_object b objects o other),
      object_same o act other same,
    )

    pub loaded_same : (q : ℕ) (o i : items.Operand) (d : Destination)
        → length (bytes_of_all (property_word_code a objects q o i d))
        ≡ length (bytes_of_all (property_word_code b objects q o i d))
    loaded_same q o i d =
        behind_same (assigned_takes i) o (λ x. loaded_at a x q (assigned_word i) (result_in d))
        (λ x. loaded_at b x q (assigned_word i) (result_in d))
        (λ x. provided_same x q (tested_word a (assigned_word i) ++ load) (tested_word b (assigned_word i) ++ load)
        (word_same (assigned_word i) load))
      where
        load : List Instruction
        load = giving operations.LoadWord (Variable (temporary 2) ∷ assigned_word i ∷ []) (result_in d) ∷ []

    pub single_assigned_same : (single : Bool) (q : ℕ) (o w : items.Operand) (d : Destination)
        → length (bytes_of_all (assign_property_code a objects single q o w d))
        ≡ length (bytes_of_all (assign_property_code b objects single q o w d))
    single_assigned_same single q o w d =
        behind_same (assigned_takes w) o (λ x. assigned_single a single x q (assigned_word w) d)
        (λ x. assigned_single b single x q (assigned_word w) d)
        (λ x. provided_same x q (tested_single a single ++ store) (tested_single b single ++ store)
        (single_same single store))
      where
        store : List Instruction
        store = plain operations.StoreWord (Variable (temporary 2) ∷ Small 0 ∷ assigned_word w ∷ [])
            ∷ passed_on d (assigned_word w)

    pub word_assigned_same : (q : ℕ) (o i w : items.Operand) (d : Destination)
        → length (bytes_of_all (assign_property_word_code a objects q o i w d))
        ≡ length (bytes_of_all (assign_property_word_code b objects q o i w d))
    word_assigned_same q o i w d = omega (
      arith,
      all_length (assigned_takes w) (pulled_into 4 i ++ at_object a objects o (act a)),
      all_length (assigned_takes w) (pulled_into 4 i ++ at_object b objects o (act b)),
      behind_same (pulled_into 4 i) o (act a) (act b)
          (λ x. provided_same x q (tested_word a (word_in 4 i) ++ store) (tested_word b (word_in 4 i) ++ store)
          (word_same (word_in 4 i) store)),
    )
      where
        store : List Instruction
        store = plain operations.StoreWord (Variable (temporary 2) ∷ word_in 4 i ∷ assigned_word w ∷ [])
            ∷ passed_on d (assigned_word w)

        act : Addresses → Operand → List Instruction
        act c x = assigned_at c x q (word_in 4 i) (assigned_word w) d

    abbrev insert : Operand → List Instruction
    insert y = plain operations.InsertObject (Variable (temporary 2) ∷ y ∷ []) ∷ []

    climb_same : AsLong (λ y. climbing a y ++ insert y) (λ y. climbing b y ++ insert y)
    climb_same y =
        through
        (store (temporary 3) y
        ∷ branching operations.JumpIfEqual (Variable (temporary 3) ∷ Variable (temporary 2) ∷ []) true 11
        ∷ giving operations.GetParent (Variable (temporary 3) ∷ []) (temporary 3)
        ∷ branching operations.JumpIfZero (Variable (temporary 3) ∷ []) true 9
        ∷ plain operations.Jump (Large 65525 ∷ []) ∷ [])
        (fault_address a causes.ObjectInsideItself) (fault_address b causes.ObjectInsideItself) (insert y) (insert y)
        refl

    pub moved_same : (into : items.Operand)
        → AsLong (λ x. moved_into a objects x into) (λ x. moved_into b objects x into)
    moved_same into x =
        let before = store (temporary 2) x ∷ [] in
        let act = λ (c : Addresses) (y : Operand). climbing c y ++ insert y in
        let test = λ (c : Addresses). tested_in 1 c causes.NotAnObject 1 (objects + 1) into (act c) in
        let first : length (bytes_of_all (moved_into a objects x into))
        ≡ length (bytes_of_all before) + length (bytes_of_all (test a)) = all_length before (test a) in
        let second : length (bytes_of_all (moved_into b objects x into))
        ≡ length (bytes_of_all before) + length (bytes_of_all (test b)) = all_length before (test b) in
        omega (arith, first, second, in_same a b causes.NotAnObject 1 (objects + 1) 1 into (act a) (act b) climb_same)

pub first_same_jump : (none : Bool) (x y v : ℕ)
    → length (bytes_of_all ((if none then jump_by x else store v (Small 1)) ∷ []))
    ≡ length (bytes_of_all ((if none then jump_by y else store v (Small 1)) ∷ []))
unfolding bytes_of
first_same_jump true x y v = refl
first_same_jump false x y v = refl

jump_and_step : (x v : ℕ) → length (bytes_of_all (jump_by x ∷ plain operations.Increment (Small v ∷ []) ∷ [])) ≡ 5
unfolding bytes_of
jump_and_step x v = refl

pub next_same : (objects x y : ℕ) (v : source.Variable)
    → length (bytes_of_all (next_object_code objects v x)) ≡ length (bytes_of_all (next_object_code objects v y))
next_same objects x y v = omega (
  arith,
  all_length tests (jump_by (x + 2) ∷ step ∷ []),
  all_length tests (jump_by (y + 2) ∷ step ∷ []),
  jump_and_step (x + 2) (number_of v),
  jump_and_step (y + 2) (number_of v),
)
  where
    step : Instruction
    step = plain operations.Increment (Small (number_of v) ∷ [])

    tests : List Instruction
    tests =
        branching operations.JumpIfLess (Variable (number_of v) ∷ Small 1 ∷ []) true (offset_over_comparison objects)
        ∷ branching operations.JumpIfLess (Variable (number_of v) ∷ constant objects ∷ []) true 5
        ∷ []
