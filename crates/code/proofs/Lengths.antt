-- How long the bytes of an item are: it depends on no address, and of its branch on the form alone.
use Rattle.std.proofs.Common.{◌≡◌, ℕ, ◌+◌, ◌-◌, ◌%◌, ◌≤◌, List, [], ◌∷◌, ◌++◌, length, Option, Some, Bool}
use Rattle.std.proofs.Common.{true, false, refl, ap, ◌∙◌, arith, length-append, append-nil}
use Rattle.std.specs.Prelude.{not, take, if◌then◌else◌}
use Rattle.zcore.specs.declared.instruction.Operand.{Operand}
use Rattle.zcore.specs.declared.instruction.Operand.TheVariants.{Small, Variable}
use Rattle.zcore.specs.declared.instruction.Operation.TheVariants as operations
use Rattle.zcore.specs.Instruction.{Instruction}
use Rattle.code_drafts.specs.Layout.{form_for, size_with, part_size, offset_over}
use Rattle.code_drafts.specs.Items.{Item, Test}
use Rattle.code_drafts.specs.Items as items
use Rattle.meaning.specs.declared.cause.Cause.TheVariants as causes
use Rattle.code_drafts.specs.Addresses.{Addresses, Sizes}
use Rattle.code_instructions.specs.Instructions.{labelled, branch_code, case_code}
use Rattle.code_drafts.specs.Instructions.{most_tested, temporary, pulled_into, word_in}
use Rattle.code_drafts.specs.Bytes.{bytes_of_all}
use Rattle.code.specs.ItemCode.{item_code}
use Rattle.code_instructions.specs.ObjectCode.{tests_in, objects_of, property_address, assigned_takes, assigned_word}
use Rattle.code.specs.ItemBytes.{item_bytes, text_bytes}
use Rattle.code_instructions.specs.Places.{label_size, target_of}
use Rattle.code.specs.Bytes.{no_addresses, least_size, part_of, is_back, back_size}
use Rattle.code.proofs.BackForms.{BackForm}
use Rattle.code.proofs.BackLengths.{back_length}
use Rattle.code.proofs.AddressLengths.{all_length}
use Rattle.code.proofs.BranchLengths.{branch_length, branch_some, case_length, case_some, label_length}
use Rattle.code.proofs.BranchLengths.{label_some}
use Rattle.code.proofs.PlainLengths.{same_length}

-- of a program of these sizes
module _ (sizes : Sizes) (near : Bool) where
  branch_size : (a : Addresses) (n : ℕ) (rest : List ℕ) (test : Test) (os : List items.Operand) (when : Bool)
      (target : ℕ)
      → length (item_bytes sizes a (offset_over (target - (n + 1)) rest) (items.branch test os when target))
      ≡ part_size n (part_of sizes near (items.branch test os when target)) rest
  branch_size a n rest test os when target =
      let given = take most_tested os in
      let offset = offset_over (target - (n + 1)) rest in
      omega (
        arith,
        branch_length test given when offset,
        branch_some test given when,
        length-append (bytes_of_all (branch_code test given when offset)) [],
        length-append (bytes_of_all (branch_code test given when 2)) [],
      )

  case_size : (a : Addresses) (n : ℕ) (rest : List ℕ) (test : Test) (ns : List ℕ) (when : Bool) (target : ℕ)
      → length (item_bytes sizes a (offset_over (target - (n + 1)) rest) (items.case test ns when target))
      ≡ part_size n (part_of sizes near (items.case test ns when target)) rest
  case_size a n rest test ns when target =
      let offset = offset_over (target - (n + 1)) rest in
      omega (
        arith,
        case_length test ns when offset,
        case_some test ns when,
        length-append (bytes_of_all (case_code test ns when offset)) [],
        length-append (bytes_of_all (case_code test ns when 2)) [],
      )

  -- an item that ends in a branch to a label, by how long its code is
  labelled_size : (a : Addresses) (n : ℕ) (rest : List ℕ) (i : Item) (target : ℕ) → target_of i ≡ Some target
      → is_back i ≡ false → text_bytes sizes.abbreviations i ≡ []
      → ((offset : ℕ) → length (bytes_of_all (item_code sizes a offset i)) + 1
      ≡ length (bytes_of_all (item_code sizes no_addresses 2 i)) + size_with (form_for offset))
      → 1 ≤ length (bytes_of_all (item_code sizes no_addresses 2 i))
      → length (item_bytes sizes a (offset_over (target - (n + 1)) rest) i) ≡ part_size n (part_of sizes near i) rest
  labelled_size a n rest i target t ahead text long some =
      let offset = offset_over (target - (n + 1)) rest in
      let least : least_size sizes i ≡ length (bytes_of_all (item_code sizes no_addresses 2 i)) =
      ap (λ xs. length (bytes_of_all (item_code sizes no_addresses 2 i) ++ xs)) text
      ∙ ap length (append-nil (bytes_of_all (item_code sizes no_addresses 2 i))) in
      let whole : length (item_bytes sizes a offset i) ≡ length (bytes_of_all (item_code sizes a offset i)) =
      ap (λ xs. length (bytes_of_all (item_code sizes a offset i) ++ xs)) text
      ∙ ap length (append-nil (bytes_of_all (item_code sizes a offset i))) in
      let more : back_size near i ≡ 0 = ap (λ (b : Bool). if b then (if near then 1 else 3) else 0) ahead in
      let beside : part_size n (part_of sizes near i) rest
      ≡ least_size sizes i - 1 + back_size near i + size_with (form_for offset) =
      ap (λ (x : Option ℕ).
      part_size n (record { size = least_size sizes i - label_size x + back_size near i; target = x }) rest) t in
      omega (arith, long offset, some, least, whole, more, beside)

  is_in_size : (a : Addresses) (n : ℕ) (rest : List ℕ) (o q : items.Operand) (when : Bool) (target : ℕ)
      → length (item_bytes sizes a (offset_over (target - (n + 1)) rest) (items.is_in o q when target))
      ≡ part_size n (part_of sizes near (items.is_in o q when target)) rest
  is_in_size a n rest o q when target =
      labelled_size a n rest (items.is_in o q when target) target refl refl refl
      (λ offset. omega (
        arith,
        all_length (assigned_takes q) (asked a offset),
        all_length (assigned_takes q) (asked no_addresses 2),
        label_length a no_addresses (objects_of sizes) o [] operations.JumpIfIn words when offset,
      ))
      (omega (
        arith,
        all_length (assigned_takes q) (asked no_addresses 2),
        label_some no_addresses (objects_of sizes) o [] operations.JumpIfIn words when,
      ))
    where
      words : List Operand
      words = word_in 0 o ∷ assigned_word q ∷ []

      asked : Addresses → ℕ → List Instruction
      asked c offset =
          pulled_into 0 o ++ (tests_in 0 c causes.NotAnObject 1 (objects_of sizes + 1) o
          ++ labelled operations.JumpIfIn words when offset)

  has_size : (a : Addresses) (n : ℕ) (rest : List ℕ) (o : items.Operand) (k : ℕ) (when : Bool) (target : ℕ)
      → length (item_bytes sizes a (offset_over (target - (n + 1)) rest) (items.has o k when target))
      ≡ part_size n (part_of sizes near (items.has o k when target)) rest
  has_size a n rest o k when target =
      let words = word_in 0 o ∷ Small (k % 256) ∷ [] in
      labelled_size a n rest (items.has o k when target) target refl refl refl
      (label_length a no_addresses (objects_of sizes) o [] operations.TestAttribute words when)
      (label_some no_addresses (objects_of sizes) o [] operations.TestAttribute words when)

  provides_size : (a : Addresses) (n : ℕ) (rest : List ℕ) (o : items.Operand) (k : ℕ) (when : Bool) (target : ℕ)
      → length (item_bytes sizes a (offset_over (target - (n + 1)) rest) (items.provides o k when target))
      ≡ part_size n (part_of sizes near (items.provides o k when target)) rest
  provides_size a n rest o k when target =
      let before = property_address (word_in 0 o) (k % 256) (temporary 0) ∷ [] in
      let words = Variable (temporary 0) ∷ [] in
      labelled_size a n rest (items.provides o k when target) target refl refl refl
      (label_length a no_addresses (objects_of sizes) o before operations.JumpIfZero words (not when))
      (label_some no_addresses (objects_of sizes) o before operations.JumpIfZero words (not when))

  -- the bytes of an item are those of its part
  pub item_length : (a : Addresses) (n : ℕ) (rest : List ℕ) (offset : ℕ) (i : Item)
      → ((target : ℕ) → target_of i ≡ Some target → offset ≡ offset_over (target - (n + 1)) rest)
      → (is_back i ≡ true → BackForm near offset)
      → length (item_bytes sizes a offset i) ≡ part_size n (part_of sizes near i) rest
  item_length a n rest offset (items.branch test os when target) is form =
      ap (λ (k : ℕ). length (item_bytes sizes a k (items.branch test os when target))) (is target refl)
      ∙ branch_size a n rest test os when target
  item_length a n rest offset (items.case test ns when target) is form =
      ap (λ (k : ℕ). length (item_bytes sizes a k (items.case test ns when target))) (is target refl)
      ∙ case_size a n rest test ns when target
  item_length a n rest offset (items.is_in o q when target) is form =
      ap (λ (k : ℕ). length (item_bytes sizes a k (items.is_in o q when target))) (is target refl)
      ∙ is_in_size a n rest o q when target
  item_length a n rest offset (items.has o k when target) is form =
      ap (λ (j : ℕ). length (item_bytes sizes a j (items.has o k when target))) (is target refl)
      ∙ has_size a n rest o k when target
  item_length a n rest offset (items.provides o q when target) is form =
      ap (λ (k : ℕ). length (item_bytes sizes a k (items.provides o q when target))) (is target refl)
      ∙ provides_size a n rest o q when target
  item_length a n rest offset (items.branch_back test os when target) is form =
      back_length near test (take most_tested os) when offset (form refl)
  item_length a n rest offset i is form = omega (arith, same_length sizes a offset i refl refl)
