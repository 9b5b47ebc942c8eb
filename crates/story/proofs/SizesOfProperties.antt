-- How many bytes the items on properties have.
use Rattle.std.proofs.Common.{◌≤◌, ◌+◌, ℕ, Bool, true, false, [], ◌∷◌, ◌++◌, length, refl, arith}
use Rattle.std.specs.Prelude.{not}
use Rattle.zcore.specs.declared.instruction.Operand.{Operand}
use Rattle.zcore.specs.declared.instruction.Operand.TheVariants.{Large, Small, Variable}
use Rattle.zcore.specs.declared.instruction.Operation.TheVariants as operations
use Rattle.zcore.specs.InstructionBytes.{operand_bytes, bytes_of}
use Rattle.meaning.specs.declared.cause.Cause.TheVariants as causes
use Rattle.code_drafts.specs.Items.{Destination}
use Rattle.code_drafts.specs.Items as items
use Rattle.code_drafts.specs.Addresses.{fault_address}
use Rattle.code_drafts.specs.Instructions.{plain, giving, fail, result_in, temporary, pulled_into, word_in}
use Rattle.code_instructions.specs.Instructions.{labelled}
use Rattle.code_drafts.specs.Bytes.{bytes_of_all}
use Rattle.code_instructions.specs.ObjectCode.{assigned_takes, assigned_word, passed_on, at_object, property_address}
use Rattle.code_instructions.specs.ObjectCode.{length_at, branching_zero, branching_single, provides_code, read_property}
use Rattle.code_instructions.specs.ObjectCode.{property_value, property_code, property_size_code, provided, tested_single, tested_word}
use Rattle.code_instructions.specs.ObjectCode.{loaded_at, property_word_code, assigned_single, assign_property_code}
use Rattle.code_instructions.specs.ObjectCode.{assigned_at, assign_property_word_code}
use Rattle.code.specs.Bytes.{no_addresses}
use Rattle.code.proofs.AddressLengths.{all_length, one_length}
use Rattle.story.proofs.SizesOfInstructions.{few_bytes, three_count}
use Rattle.story.proofs.SizesOfOperands.{giving_few, pulled_into_few, word_in_few, passed_few, FewAt}
use Rattle.story.proofs.SizesOfOperands.{labelled_few}
use Rattle.story.proofs.SizesOfObjects.{object_few, label_few}

-- Properties

address_few : (x : Operand) (q v : ℕ) → length (operand_bytes x) ≤ 2 → length (bytes_of (property_address x q v)) ≤ 6
address_few x q v h = omega (arith, giving_few operations.GetPropertyAddress x (Small q) v refl, h)

pub provides_few : (objects : ℕ) (o : items.Operand) (q : ℕ) (when : Bool)
    → length (bytes_of_all (provides_code no_addresses objects o q when 2)) ≤ 27
provides_few objects o q when =
    let place = temporary 0 in
    let test = labelled operations.JumpIfZero (Variable place ∷ []) (not when) 2 in
    label_few objects o (λ x. property_address x q place ∷ test) 10 (λ x h. omega (
      arith,
      all_length (property_address x q place ∷ []) test,
      one_length (property_address x q place),
      address_few x q place h,
      labelled_few operations.JumpIfZero (Variable place ∷ []) (not when) refl,
    ))

single_few : (text : ℕ) → length (bytes_of_all (branching_zero (temporary 1) true 13
    ∷ length_at (temporary 1) (temporary 1)
    ∷ branching_single (temporary 1)
    ∷ fail text)) ≤ 14
unfolding bytes_of
single_few text = omega arith

value_few : (single : Bool) (q v : ℕ) → FewAt (λ x. property_value no_addresses single x q v) 26
value_few true q v x h =
    let word = read_property x q v in
    omega (arith, one_length word, giving_few operations.GetProperty x (Small q) v refl, h)
value_few false q v x h =
    let text = fault_address no_addresses causes.PropertyOfManyWords in
    let address = property_address x q (temporary 1) in
    let word = read_property x q v in
    let tests = branching_zero (temporary 1) true 13
    ∷ length_at (temporary 1) (temporary 1)
    ∷ branching_single (temporary 1)
    ∷ fail text in
    omega (
      arith,
      all_length (address ∷ []) (tests ++ word ∷ []),
      all_length tests (word ∷ []),
      one_length address,
      one_length word,
      address_few x q (temporary 1) h,
      single_few text,
      giving_few operations.GetProperty x (Small q) v refl,
      h,
    )

pub property_few : (objects : ℕ) (single : Bool) (o : items.Operand) (q : ℕ) (d : Destination)
    → length (bytes_of_all (property_code no_addresses objects single o q d)) ≤ 43
property_few objects single o q d =
    object_few objects o (λ x. property_value no_addresses single x q (result_in d)) 26
    (value_few single q (result_in d))

length_few : (place v : ℕ) → length (bytes_of_all (length_at place v ∷ [])) ≤ 3
unfolding bytes_of
length_few place v = omega arith

pub property_size_few : (objects : ℕ) (o : items.Operand) (q : ℕ) (d : Destination)
    → length (bytes_of_all (property_size_code no_addresses objects o q d)) ≤ 26
property_size_few objects o q d =
    let size = length_at (temporary 1) (result_in d) in
    object_few objects o (λ x. property_address x q (temporary 1) ∷ size ∷ []) 9 (λ x h. omega (
      arith,
      all_length (property_address x q (temporary 1) ∷ []) (size ∷ []),
      one_length (property_address x q (temporary 1)),
      address_few x q (temporary 1) h,
      length_few (temporary 1) (result_in d),
    ))

-- Words of properties

place_few : (text : ℕ) → length (bytes_of_all (branching_zero (temporary 2) false 6 ∷ fail text)) ≤ 7
unfolding bytes_of
place_few text = omega arith

provided_few : (q : ℕ) → FewAt (λ x. provided no_addresses x q) 13
provided_few q x h =
    let text = fault_address no_addresses causes.NoSuchProperty in
    let address = property_address x q (temporary 2) in
    omega (
      arith,
      all_length (address ∷ []) (branching_zero (temporary 2) false 6 ∷ fail text),
      one_length address,
      address_few x q (temporary 2) h,
      place_few text,
    )

tested_single_few : (single : Bool) → length (bytes_of_all (tested_single no_addresses single)) ≤ 11
unfolding bytes_of
tested_single_few true = omega arith
tested_single_few false = omega arith

tested_word_few : (i : Operand) → length (bytes_of_all (tested_word no_addresses i)) ≤ 23
unfolding bytes_of
tested_word_few (Large n) = omega arith
tested_word_few (Small n) = omega arith
tested_word_few (Variable v) = omega arith

loaded_few : (q : ℕ) (i : Operand) (v : ℕ) → length (operand_bytes i) ≤ 2
    → FewAt (λ x. loaded_at no_addresses x q i v) 42
loaded_few q i v k x h =
    let word = giving operations.LoadWord (Variable (temporary 2) ∷ i ∷ []) v in
    omega (
      arith,
      all_length (provided no_addresses x q) (tested_word no_addresses i ++ word ∷ []),
      all_length (tested_word no_addresses i) (word ∷ []),
      provided_few q x h,
      tested_word_few i,
      one_length word,
      giving_few operations.LoadWord (Variable (temporary 2)) i v refl,
      k,
    )

pub property_word_few : (objects q : ℕ) (o i : items.Operand) (d : Destination)
    → length (bytes_of_all (property_word_code no_addresses objects q o i d)) ≤ 62
property_word_few objects q o i d =
    let act = λ (x : Operand). loaded_at no_addresses x q (assigned_word i) (result_in d) in
    omega (
      arith,
      all_length (assigned_takes i) (at_object no_addresses objects o act),
      pulled_into_few 1 i,
      object_few objects o act 42 (loaded_few q (assigned_word i) (result_in d) (word_in_few 1 i)),
    )

-- a word is stored after the tests, and goes on
written_few : (i word : Operand) (d : Destination) → length (operand_bytes word) ≤ 2
    → length (bytes_of_all (plain operations.StoreWord (Variable (temporary 2) ∷ i ∷ word ∷ []) ∷ passed_on d word))
    ≤ 10 + length (operand_bytes i)
written_few i word d h =
    let first = plain operations.StoreWord (Variable (temporary 2) ∷ i ∷ word ∷ []) in
    omega (
      arith,
      all_length (first ∷ []) (passed_on d word),
      one_length first,
      few_bytes first refl,
      three_count (Variable (temporary 2)) i word,
      passed_few d word h,
      h,
    )

single_assigned_few : (single : Bool) (q : ℕ) (word : Operand) (d : Destination) → length (operand_bytes word) ≤ 2
    → FewAt (λ x. assigned_single no_addresses single x q word d) 35
single_assigned_few single q word d k x h =
    let last = plain operations.StoreWord (Variable (temporary 2) ∷ Small 0 ∷ word ∷ []) ∷ passed_on d word in
    omega (
      arith,
      all_length (provided no_addresses x q) (tested_single no_addresses single ++ last),
      all_length (tested_single no_addresses single) last,
      provided_few q x h,
      tested_single_few single,
      written_few (Small 0) word d k,
    )

pub assign_property_few : (objects : ℕ) (single : Bool) (q : ℕ) (o w : items.Operand) (d : Destination)
    → length (bytes_of_all (assign_property_code no_addresses objects single q o w d)) ≤ 55
assign_property_few objects single q o w d =
    let act = λ (x : Operand). assigned_single no_addresses single x q (assigned_word w) d in
    omega (
      arith,
      all_length (assigned_takes w) (at_object no_addresses objects o act),
      pulled_into_few 1 w,
      object_few objects o act 35 (single_assigned_few single q (assigned_word w) d (word_in_few 1 w)),
    )

word_assigned_few : (q : ℕ) (i word : Operand) (d : Destination) → length (operand_bytes i) ≤ 2
    → length (operand_bytes word) ≤ 2
    → FewAt (λ x. assigned_at no_addresses x q i word d) 48
word_assigned_few q i word d j k x h =
    let last = plain operations.StoreWord (Variable (temporary 2) ∷ i ∷ word ∷ []) ∷ passed_on d word in
    omega (
      arith,
      all_length (provided no_addresses x q) (tested_word no_addresses i ++ last),
      all_length (tested_word no_addresses i) last,
      provided_few q x h,
      tested_word_few i,
      written_few i word d k,
      j,
    )

pub assign_property_word_few : (objects q : ℕ) (o i w : items.Operand) (d : Destination)
    → length (bytes_of_all (assign_property_word_code no_addresses objects q o i w d)) ≤ 71
assign_property_word_few objects q o i w d =
    let act = λ (x : Operand). assigned_at no_addresses x q (word_in 4 i) (assigned_word w) d in
    let rest = at_object no_addresses objects o act in
    omega (
      arith,
      all_length (assigned_takes w) (pulled_into 4 i ++ rest),
      all_length (pulled_into 4 i) rest,
      pulled_into_few 1 w,
      pulled_into_few 4 i,
      object_few objects o act 48
          (word_assigned_few q (word_in 4 i) (assigned_word w) d (word_in_few 4 i) (word_in_few 1 w)),
    )
