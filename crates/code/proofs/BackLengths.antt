-- How long a branch back is in each form.
use Rattle.std.proofs.Common.{◌≡◌, ℕ, ◌+◌, ◌-◌, ◌%◌, List, [], ◌∷◌, ◌++◌, length, Bool, true, false, ap, ◌∙◌, arith}
use Rattle.std.proofs.Common.{length-append}
use Rattle.std.specs.Prelude.{nat_lt, if◌then◌else◌, not}
use Rattle.std.proofs.lemmas.Bool.{lt-ltb, le-ltb}
use Rattle.zcore.specs.declared.instruction.Operand.{Operand}
use Rattle.zcore.specs.declared.instruction.Operand.TheVariants.{Large}
use Rattle.zcore.specs.declared.instruction.Operation.{Operation}
use Rattle.zcore.specs.declared.instruction.Operation.TheVariants as operations
use Rattle.zcore.specs.Instruction.{Instruction}
use Rattle.zcore.specs.InstructionBytes.{bytes_of}
use Rattle.code_drafts.specs.Items.{Test}
use Rattle.code_drafts.specs.Items as items
use Rattle.code_drafts.specs.Bytes.{bytes_of_all}
use Rattle.code_drafts.specs.Instructions.{plain, branching, top, takes, operands}
use Rattle.code_instructions.specs.Instructions.{labelled_below, ordered_below, tested_below, branch_below, back_limit}
use Rattle.code_instructions.specs.Instructions.{test_operation, reverse_test, are_both_pushed, asks_none, least_word}
use Rattle.code.proofs.AddressLengths.{all_length, one_length}
use Rattle.code.proofs.BackForms.{BackForm}
use Rattle.code.proofs.BranchLengths.{beside, branching_length, jump_length, before_label}

-- the bytes of the label
abbrev label : Bool → ℕ
label near = if near then 2 else 4

labelled_back : (near : Bool) (op : Operation) (os : List Operand) (when : Bool) (offset : ℕ) → BackForm near offset
    → length (bytes_of_all (labelled_below back_limit op os when offset)) ≡ beside op os + label near
labelled_back true op os when offset form =
    let small : nat_lt offset 16384 ≡ true = lt-ltb _ _ form.1 in
    let two : nat_lt offset 64 ≡ false = le-ltb _ _ form.0 in
    ap (λ (b : Bool). length (bytes_of_all (if b then branching op os when offset ∷ []
    else branching op os (not when) 5 ∷ plain operations.Jump (Large (offset % 65536) ∷ []) ∷ []))) small
    ∙ one_length (branching op os when offset) ∙ branching_length op os when offset
    ∙ ap (λ (b : Bool). beside op os + (if b then 1 else 2)) two
labelled_back false op os when offset form =
    let large : nat_lt offset 16384 ≡ false = le-ltb _ _ form in
    let over = branching op os (not when) 5 in
    let jump = plain operations.Jump (Large (offset % 65536) ∷ []) in
    ap (λ (b : Bool). length (bytes_of_all (if b then branching op os when offset ∷ [] else over ∷ jump ∷ []))) large
    ∙ omega (
      arith,
      length-append (bytes_of over) (bytes_of_all (jump ∷ [])),
      branching_length op os (not when) 5,
      jump_length (offset % 65536),
    )

-- the first time a branch back is written in one byte
labelled_first : (op : Operation) (os : List Operand) (when : Bool)
    → length (bytes_of_all (labelled_below back_limit op os when 2)) ≡ beside op os + 1
labelled_first op os when = one_length (branching op os when 2) ∙ branching_length op os when 2

module _ (test : Test) (when : Bool) where
  tested_back : (near : Bool) (os : List items.Operand) (test : Test) (offset : ℕ) → BackForm near offset
      → length (bytes_of_all (tested_below back_limit test os when offset))
      ≡ before_label (are_both_pushed os) test os + label near
  tested_back near os test offset form = go (are_both_pushed os)
    where
      go : (both : Bool) → length (bytes_of_all (if both
          then labelled_below back_limit (test_operation (reverse_test test)) (top ∷ top ∷ []) when offset
          else ordered_below back_limit test os when offset))
          ≡ before_label both test os + label near
      go true = labelled_back near (test_operation (reverse_test test)) (top ∷ top ∷ []) when offset form
      go false = omega (
        arith,
        all_length (takes os) (labelled_below back_limit (test_operation test) (operands os) when offset),
        labelled_back near (test_operation test) (operands os) when offset form,
      )

  tested_first : (os : List items.Operand) (test : Test)
      → length (bytes_of_all (tested_below back_limit test os when 2))
      ≡ before_label (are_both_pushed os) test os + 1
  tested_first os test = go (are_both_pushed os)
    where
      go : (both : Bool) → length (bytes_of_all (if both
          then labelled_below back_limit (test_operation (reverse_test test)) (top ∷ top ∷ []) when 2
          else ordered_below back_limit test os when 2))
          ≡ before_label both test os + 1
      go true = labelled_first (test_operation (reverse_test test)) (top ∷ top ∷ []) when
      go false = omega (
        arith,
        all_length (takes os) (labelled_below back_limit (test_operation test) (operands os) when 2),
        labelled_first (test_operation test) (operands os) when,
      )

pub back_length : (near : Bool) (test : Test) (os : List items.Operand) (when : Bool) (offset : ℕ)
    → BackForm near offset
    → length (bytes_of_all (branch_below back_limit test os when offset) ++ [])
    ≡ length (bytes_of_all (branch_below back_limit test os when 2) ++ []) - 0 + (if near then 1 else 3) + 0
back_length near test os when offset form = go near form (asks_none test os)
  where
    code : Bool → ℕ → List Instruction
    code b k = if b then tested_below back_limit items.less (os ++ items.number least_word ∷ []) when k
        else tested_below back_limit test os when k

    go : (near : Bool) → BackForm near offset → (b : Bool)
        → length (bytes_of_all (code b offset) ++ [])
        ≡ length (bytes_of_all (code b 2) ++ []) - 0 + (if near then 1 else 3) + 0
    go true form true = let given = os ++ items.number least_word ∷ [] in
        omega (
          arith,
          length-append (bytes_of_all (code true offset)) [],
          length-append (bytes_of_all (code true 2)) [],
          tested_back test when true given items.less offset form,
          tested_first test when given items.less,
        )
    go false form true = let given = os ++ items.number least_word ∷ [] in
        omega (
          arith,
          length-append (bytes_of_all (code true offset)) [],
          length-append (bytes_of_all (code true 2)) [],
          tested_back test when false given items.less offset form,
          tested_first test when given items.less,
        )
    go true form false =
        omega (
          arith,
          length-append (bytes_of_all (code false offset)) [],
          length-append (bytes_of_all (code false 2)) [],
          tested_back test when true os test offset form,
          tested_first test when os test,
        )
    go false form false =
        omega (
          arith,
          length-append (bytes_of_all (code false offset)) [],
          length-append (bytes_of_all (code false 2)) [],
          tested_back test when false os test offset form,
          tested_first test when os test,
        )
