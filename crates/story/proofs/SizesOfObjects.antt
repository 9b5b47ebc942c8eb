-- How many bytes the items on objects have, but for those on properties.
use Rattle.std.proofs.Common.{◌≤◌, ◌+◌, ◌*◌, ◌%◌, ℕ, Bool, true, false, List, [], ◌∷◌, ◌++◌, length, refl, arith}
use Rattle.std.specs.Prelude.{nat_lt, if◌then◌else◌, map, ◌==◌}
use Rattle.zcore.specs.declared.instruction.Operand.{Operand}
use Rattle.zcore.specs.declared.instruction.Operand.TheVariants.{Large, Small, Variable}
use Rattle.zcore.specs.declared.instruction.Operation.TheVariants as operations
use Rattle.zcore.specs.Instruction.{Instruction}
use Rattle.zcore.specs.InstructionBytes.{operand_bytes, bytes_of}
use Rattle.syntax_trees.specs.declared.tree.Relative.{Relative}
use Rattle.syntax_trees.specs.declared.tree.Relative.TheVariants as relatives
use Rattle.meaning.specs.declared.cause.Cause.TheVariants as causes
use Rattle.meaning.specs.declared.resolved.Variable as source
use Rattle.code_drafts.specs.Items.{Destination}
use Rattle.code_drafts.specs.Items as items
use Rattle.code_drafts.specs.Addresses.{fault_address}
use Rattle.code_drafts.specs.Instructions.{plain, giving, branching, fail, result_in, temporary, number_of}
use Rattle.code_drafts.specs.Instructions.{pulled_into, word_in, store}
use Rattle.code_drafts.specs.Bytes.{bytes_of_all}
use Rattle.code_instructions.specs.Instructions.{labelled}
use Rattle.code_instructions.specs.ObjectCode as spec
use Rattle.code_instructions.specs.ObjectCode.{tests_in, assigned_takes, assigned_word, at_object, at_label, relative_of}
use Rattle.code_instructions.specs.ObjectCode.{relative_code, is_in_code, has_code, changing, give_code, climbing}
use Rattle.code_instructions.specs.ObjectCode.{moved_into, move_object_code, first_object_code, next_object_code}
use Rattle.code_instructions.specs.ObjectCode.{tested_in, jump_by}
use Rattle.code.specs.Bytes.{no_addresses}
use Rattle.code.proofs.AddressLengths.{all_length, one_length}
use Rattle.story.proofs.SizesOfInstructions.{few_bytes, one_count, two_count}
use Rattle.story.proofs.SizesOfOperands.{plain_few, store_few, pulled_into_few, word_in_few, FewAt, in_few}
use Rattle.story.proofs.SizesOfOperands.{at_few, tests_in_few, labelled_few}

-- what is done with an object
pub object_few : (objects : ℕ) (o : items.Operand) (act : Operand → List Instruction) (n : ℕ) → FewAt act n
    → length (bytes_of_all (at_object no_addresses objects o act)) ≤ 17 + n
object_few objects o act n h = at_few causes.NotAnObject 1 (objects + 1) o act n h

relation_few : (r : Relative) (x : Operand) (v : ℕ)
    → length (bytes_of (relative_of r x v)) ≤ 4 + length (operand_bytes x)
relation_few relatives.Parent x v = omega (arith, few_bytes (relative_of relatives.Parent x v) refl, one_count x)
relation_few relatives.Child x v = omega (arith, few_bytes (relative_of relatives.Child x v) refl, one_count x)
relation_few relatives.Sibling x v = omega (arith, few_bytes (relative_of relatives.Sibling x v) refl, one_count x)

pub relative_few : (objects : ℕ) (r : Relative) (o : items.Operand) (d : Destination)
    → length (bytes_of_all (relative_code no_addresses objects r o d)) ≤ 23
relative_few objects r o d = object_few objects o (λ x. relative_of r x (result_in d) ∷ []) 6
    (λ x h. omega (arith, one_length (relative_of r x (result_in d)), relation_few r x (result_in d), h))

pub remove_few : (objects : ℕ) (o : items.Operand)
    → length (bytes_of_all (spec.remove_code no_addresses objects o)) ≤ 21
remove_few objects o = object_few objects o (λ x. plain operations.RemoveObject (x ∷ []) ∷ []) 4 (λ x h. omega (
  arith,
  one_length (plain operations.RemoveObject (x ∷ [])),
  plain_few operations.RemoveObject x refl,
  h,
))

pub name_few : (objects : ℕ) (o : items.Operand)
    → length (bytes_of_all (spec.print_name_code no_addresses objects o)) ≤ 21
name_few objects o = object_few objects o (λ x. plain operations.PrintObject (x ∷ []) ∷ []) 4 (λ x h. omega (
  arith,
  one_length (plain operations.PrintObject (x ∷ [])),
  plain_few operations.PrintObject x refl,
  h,
))

-- Attributes

change_few : (set : Bool) (x : Operand) (n : ℕ) → length (operand_bytes x) ≤ 2
    → length (bytes_of (plain (if set then operations.SetAttribute else operations.ClearAttribute)
    (x ∷ Small n ∷ []))) ≤ 5
change_few true x n h =
    omega (arith, few_bytes (plain operations.SetAttribute (x ∷ Small n ∷ [])) refl, two_count x (Small n), h)
change_few false x n h =
    omega (arith, few_bytes (plain operations.ClearAttribute (x ∷ Small n ∷ [])) refl, two_count x (Small n), h)

changes_few : (changes : List (Bool × ℕ)) → FewAt (λ x. map (changing x) changes) (5 * length changes)
changes_few [] x h = omega arith
changes_few (c ∷ cs) x h = omega (
  arith,
  all_length (changing x c ∷ []) (map (changing x) cs),
  one_length (changing x c),
  change_few c.0 x (c.1 % 256) h,
  changes_few cs x h,
)

pub give_few : (objects : ℕ) (o : items.Operand) (changes : List (Bool × ℕ))
    → length (bytes_of_all (give_code no_addresses objects o changes)) ≤ 17 + 5 * length changes
give_few objects o changes =
    object_few objects o (λ x. map (changing x) changes) (5 * length changes) (changes_few changes)

-- Branches of the shortest form

pub label_few : (objects : ℕ) (o : items.Operand) (act : Operand → List Instruction) (n : ℕ) → FewAt act n
    → length (bytes_of_all (at_label no_addresses objects o act)) ≤ 17 + n
label_few objects o act n h =
    let tests = tests_in 0 no_addresses causes.NotAnObject 1 (objects + 1) o in
    omega (
      arith,
      all_length (pulled_into 0 o) (tests ++ act (word_in 0 o)),
      all_length tests (act (word_in 0 o)),
      pulled_into_few 0 o,
      tests_in_few causes.NotAnObject 1 (objects + 1) 0 o,
      h (word_in 0 o) (word_in_few 0 o),
    )

pub is_in_few : (objects : ℕ) (o q : items.Operand) (when : Bool)
    → length (bytes_of_all (is_in_code no_addresses objects o q when 2)) ≤ 27
is_in_few objects o q when =
    let word = assigned_word q in
    let act = λ (x : Operand). labelled operations.JumpIfIn (x ∷ word ∷ []) when 2 in
    omega (
      arith,
      all_length (assigned_takes q) (at_label no_addresses objects o act),
      pulled_into_few 1 q,
      label_few objects o act 7 (λ x h. omega (
        arith,
        labelled_few operations.JumpIfIn (x ∷ word ∷ []) when refl,
        two_count x word,
        word_in_few 1 q,
        h,
      )),
    )

pub has_few : (objects : ℕ) (o : items.Operand) (n : ℕ) (when : Bool)
    → length (bytes_of_all (has_code no_addresses objects o n when 2)) ≤ 23
has_few objects o n when = label_few objects o
    (λ x. labelled operations.TestAttribute (x ∷ Small n ∷ []) when 2) 6 (λ x h. omega (
      arith,
      labelled_few operations.TestAttribute (x ∷ Small n ∷ []) when refl,
      two_count x (Small n),
      h,
    ))

-- Moves

-- a round of the loop, and its fault
round_few : (text : ℕ) → length (bytes_of_all (
    branching operations.JumpIfEqual (Variable (temporary 3) ∷ Variable (temporary 2) ∷ []) true 11
    ∷ giving operations.GetParent (Variable (temporary 3) ∷ []) (temporary 3)
    ∷ branching operations.JumpIfZero (Variable (temporary 3) ∷ []) true 9
    ∷ plain operations.Jump (Large 65525 ∷ [])
    ∷ fail text)) ≤ 17
unfolding bytes_of
round_few text = omega arith

climbing_few : (y : Operand) → length (operand_bytes y) ≤ 2 → length (bytes_of_all (climbing no_addresses y)) ≤ 22
climbing_few y h =
    let text = fault_address no_addresses causes.ObjectInsideItself in
    let first = store (temporary 3) y in
    omega (
      arith,
      all_length (first ∷ [])
          (branching operations.JumpIfEqual (Variable (temporary 3) ∷ Variable (temporary 2) ∷ []) true 11
          ∷ giving operations.GetParent (Variable (temporary 3) ∷ []) (temporary 3)
          ∷ branching operations.JumpIfZero (Variable (temporary 3) ∷ []) true 9
          ∷ plain operations.Jump (Large 65525 ∷ [])
          ∷ fail text),
      one_length first,
      store_few (temporary 3) y h,
      round_few text,
    )

inserted_few : FewAt (λ y. climbing no_addresses y
    ++ plain operations.InsertObject (Variable (temporary 2) ∷ y ∷ []) ∷ []) 27
inserted_few y h =
    let last = plain operations.InsertObject (Variable (temporary 2) ∷ y ∷ []) in
    omega (
      arith,
      all_length (climbing no_addresses y) (last ∷ []),
      climbing_few y h,
      one_length last,
      few_bytes last refl,
      two_count (Variable (temporary 2)) y,
      h,
    )

moved_few : (objects : ℕ) (p : items.Operand) → FewAt (λ x. moved_into no_addresses objects x p) 46
moved_few objects p x h =
    let act = λ (y : Operand). climbing no_addresses y
    ++ plain operations.InsertObject (Variable (temporary 2) ∷ y ∷ []) ∷ [] in
    let first = store (temporary 2) x in
    let rest = tested_in 1 no_addresses causes.NotAnObject 1 (objects + 1) p act in
    omega (
      arith,
      all_length (first ∷ []) rest,
      one_length first,
      store_few (temporary 2) x h,
      in_few causes.NotAnObject 1 (objects + 1) 1 p act 27 inserted_few,
    )

pub move_object_few : (objects : ℕ) (o p : items.Operand)
    → length (bytes_of_all (move_object_code no_addresses objects o p)) ≤ 66
move_object_few objects o p =
    let act = λ (x : Operand). moved_into no_addresses objects x p in
    omega (
      arith,
      all_length (assigned_takes p) (at_object no_addresses objects o act),
      pulled_into_few 1 p,
      object_few objects o act 46 (moved_few objects p),
    )

-- Objects one after another

first_few : (none : Bool) (v offset : ℕ)
    → length (bytes_of_all ((if none then jump_by offset else store v (Small 1)) ∷ [])) ≤ 3
unfolding bytes_of
first_few true v offset = omega arith
first_few false v offset = omega arith

pub first_object_few : (objects : ℕ) (x : source.Variable) (offset : ℕ)
    → length (bytes_of_all (first_object_code objects x offset)) ≤ 3
first_object_few objects x offset = first_few (objects == 0) (number_of x) offset

next_few : (b : Bool) (objects v offset : ℕ) → length (bytes_of_all (
    branching operations.JumpIfLess (Variable v ∷ Small 1 ∷ []) true (if b then 6 else 8)
    ∷ branching operations.JumpIfLess (Variable v ∷ (if b then Small objects else Large objects) ∷ []) true 5
    ∷ jump_by offset
    ∷ plain operations.Increment (Small v ∷ [])
    ∷ [])) ≤ 15
unfolding bytes_of
next_few true objects v offset = omega arith
next_few false objects v offset = omega arith

pub next_object_few : (objects : ℕ) (x : source.Variable) (offset : ℕ)
    → length (bytes_of_all (next_object_code objects x offset)) ≤ 15
next_object_few objects x offset = next_few (nat_lt objects 256) objects (number_of x) (offset + 2)
