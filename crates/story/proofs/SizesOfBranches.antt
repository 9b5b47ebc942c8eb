-- How many bytes the items have that branch, and those of `switch`.
use Rattle.std.proofs.Common.{◌≡◌, ◌≤◌, ◌+◌, ◌-◌, ◌*◌, ℕ, Bool, true, false, List, [], ◌∷◌, length, take, refl, arith}
use Rattle.std.proofs.Common.{subst, length-append}
use Rattle.std.specs.Prelude.{nat_lt, map, if◌then◌else◌}
use Rattle.std.specs.List.{flat_map}
use Rattle.std.proofs.lemmas.List.{length-take}
use Rattle.zcore.specs.Operations.{has_more_types}
use Rattle.zcore.specs.InstructionBytes.{operand_bytes}
use Rattle.code_drafts.specs.Layout.{form_for, offset_over, part_size}
use Rattle.code_drafts.specs.Items.{Test}
use Rattle.code_drafts.specs.Items as items
use Rattle.code_drafts.specs.Instructions as spec
use Rattle.code_drafts.specs.Instructions.{constant, operands, takes, most_tested}
use Rattle.code_instructions.specs.Instructions.{branch_below, back_limit, labelled, test_operation, reverse_test, are_both_pushed, ordered_code, tested_code}
use Rattle.code_instructions.specs.Instructions.{least_word, branch_code, most_compared, case_operands, case_code}
use Rattle.code_drafts.specs.Addresses.{Sizes}
use Rattle.code_drafts.specs.Bytes.{bytes_of_all}
use Rattle.code.specs.Bytes.{part_of}
use Rattle.code.proofs.AddressLengths.{all_length}
use Rattle.code.proofs.BranchLengths.{labelled_length, both_pushed}
use Rattle.story.proofs.SizesOfInstructions.{operand_count, constant_few, taken_few}
use Rattle.story.proofs.SizesOfOperands.{label_few, beside_few}
use Rattle.story.proofs.SizesOfCalls.{taken_length}

test_more : (test : Test) → has_more_types (test_operation test) ≡ false
test_more items.is_zero = refl
test_more items.less = refl
test_more items.greater = refl
test_more items.same = refl

tested_few : (test : Test) (os : List items.Operand) (when : Bool) (n : ℕ)
    → operand_count (operands os) + length (bytes_of_all (takes os)) ≤ n
    → length (bytes_of_all (tested_code test os when 2)) ≤ 3 + n
tested_few test os when n h = go (are_both_pushed os) refl
  where
    go : (both : Bool) → are_both_pushed os ≡ both
        → length (bytes_of_all (if both then labelled (test_operation (reverse_test test)) (spec.top ∷ spec.top ∷ []) when 2
        else ordered_code test os when 2)) ≤ 3 + n
    go true e =
        let op = test_operation (reverse_test test) in
        let more = subst (λ os. operand_count (operands os) + length (bytes_of_all (takes os)) ≤ n) (both_pushed os e) h
        in
        omega (
          arith,
          labelled_length op (spec.top ∷ spec.top ∷ []) when 2,
          beside_few op (spec.top ∷ spec.top ∷ []) (test_more (reverse_test test)),
          more,
        )
    go false e = omega (
      arith,
      all_length (takes os) (labelled (test_operation test) (operands os) when 2),
      labelled_length (test_operation test) (operands os) when 2,
      beside_few (test_operation test) (operands os) (test_more test),
      h,
    )

-- one operand, and the least word
never_few : (o : items.Operand) → operand_count (operands (o ∷ items.number least_word ∷ []))
    + length (bytes_of_all (takes (o ∷ items.number least_word ∷ []))) ≤ 4
never_few items.pushed = omega arith
never_few (items.number k) = omega (
  arith,
  length-append (operand_bytes (constant k)) (flat_map operand_bytes (constant least_word ∷ [])),
  constant_few (nat_lt k 256) k,
)
never_few (items.variable x) = omega arith

shortest_few : (test : Test) (os : List items.Operand) (when : Bool)
    → length (bytes_of_all (branch_code test os when 2)) ≤ 3 + 4 * length os
shortest_few items.is_zero os when = tested_few items.is_zero os when (4 * length os) (taken_few os)
shortest_few items.less os when = tested_few items.less os when (4 * length os) (taken_few os)
shortest_few items.greater os when = tested_few items.greater os when (4 * length os) (taken_few os)
shortest_few items.same [] when = tested_few items.same [] when 0 (taken_few [])
shortest_few items.same (o ∷ []) when = tested_few items.less (o ∷ items.number least_word ∷ []) when 4 (never_few o)
shortest_few items.same (o ∷ p ∷ os) when =
    tested_few items.same (o ∷ p ∷ os) when (4 * length (o ∷ p ∷ os)) (taken_few (o ∷ p ∷ os))

pub branch_few : (sizes : Sizes) (near : Bool) (test : Test) (os : List items.Operand) (when : Bool) (target n : ℕ) (rest : List ℕ)
    → part_size n (part_of sizes near (items.branch test os when target)) rest ≤ 6 + 4 * length os
branch_few sizes near test os when target n rest =
    let given = take most_tested os in
    let offset = offset_over (target - (n + 1)) rest in
    omega (
      arith,
      shortest_few test given when,
      length-append (bytes_of_all (branch_code test given when 2)) [],
      taken_length most_tested os,
      label_few (form_for offset),
    )

-- a branch back has a second byte of branch data, or a jump
near_few : (near : Bool) → (if near then 1 else 3) ≤ 3
near_few true = omega arith
near_few false = omega arith

pub branch_back_few : (sizes : Sizes) (near : Bool) (test : Test) (os : List items.Operand) (when : Bool)
    (target n : ℕ) (rest : List ℕ)
    → part_size n (part_of sizes near (items.branch_back test os when target)) rest ≤ 6 + 4 * length os
branch_back_few sizes near test os when target n rest =
    let given = take most_tested os in
    omega (
      arith,
      shortest_few test given when,
      length-append (bytes_of_all (branch_below back_limit test given when 2)) [],
      taken_length most_tested os,
      near_few near,
    )

-- `switch`

constants_few : (ns : List ℕ) → operand_count (map constant ns) ≤ 2 * length ns
constants_few [] = omega arith
constants_few (n ∷ ns) =
    let more = constants_few ns in
    omega (
      arith,
      more,
      length-append (operand_bytes (constant n)) (flat_map operand_bytes (map constant ns)),
      constant_few (nat_lt n 256) n,
    )

compared_few : (ns : List ℕ) → operand_count (case_operands ns) ≤ 7
compared_few ns =
    let given = take most_compared ns in
    omega (arith, constants_few given, length-take most_compared ns)

pub case_few : (sizes : Sizes) (near : Bool) (test : Test) (ns : List ℕ) (when : Bool) (target n : ℕ) (rest : List ℕ)
    → part_size n (part_of sizes near (items.case test ns when target)) rest ≤ 13
case_few sizes near test ns when target n rest =
    let op = test_operation test in
    let offset = offset_over (target - (n + 1)) rest in
    omega (
      arith,
      labelled_length op (case_operands ns) when 2,
      beside_few op (case_operands ns) (test_more test),
      compared_few ns,
      length-append (bytes_of_all (case_code test ns when 2)) [],
      label_few (form_for offset),
    )
