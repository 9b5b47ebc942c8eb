-- How many bytes the items of operations and of entries of arrays have.
use Rattle.std.proofs.Common.{◌≡◌, ◌≤◌, ◌==◌, ℕ, false, [], ◌∷◌, length, refl, arith}
use Rattle.std.specs.Prelude.{nat_lt}
use Rattle.zcore.specs.declared.instruction.Operand.{Operand}
use Rattle.zcore.specs.declared.instruction.Operand.TheVariants.{Large, Small, Variable}
use Rattle.zcore.specs.declared.instruction.Operation.{Operation}
use Rattle.zcore.specs.declared.instruction.Operation.TheVariants as operations
use Rattle.zcore.specs.Operations.{has_more_types}
use Rattle.zcore.specs.InstructionBytes.{operand_bytes, bytes_of}
use Rattle.syntax_trees.specs.declared.tree.Binary.{Binary}
use Rattle.syntax_trees.specs.declared.tree.Binary.TheVariants as binaries
use Rattle.syntax_trees.specs.declared.tree.Prefix.{Prefix}
use Rattle.syntax_trees.specs.declared.tree.Prefix.TheVariants as prefixes
use Rattle.syntax_trees.specs.declared.tree.Step.{Step}
use Rattle.syntax_trees.specs.declared.tree.Step.TheVariants as steps
use Rattle.syntax_trees.specs.declared.tree.Width.{Width}
use Rattle.syntax_trees.specs.declared.tree.Width.TheVariants as widths
use Rattle.meaning.specs.declared.resolved.Variable as source
use Rattle.meaning.specs.Meaning.{is_character}
use Rattle.meaning.specs.declared.cause.Cause.TheVariants as causes
use Rattle.code_drafts.specs.Items.{Destination}
use Rattle.code_drafts.specs.Items as items
use Rattle.code_drafts.specs.Layout.{first}
use Rattle.code_drafts.specs.Instructions as spec
use Rattle.code_drafts.specs.Instructions.{plain, giving, in_place, constant, operands, takes, result_in, fail}
use Rattle.code_drafts.specs.Instructions.{aside_variable, number_of}
use Rattle.code_drafts.specs.Bytes.{bytes_of_all}
use Rattle.code_instructions.specs.Instructions.{arithmetic, commuting, divided_by, divided, binary_code, with_aside}
use Rattle.code_instructions.specs.Instructions.{aside_global, aside_code, prefix_code, move_code, step_code, character_code}
use Rattle.code_instructions.specs.ObjectCode.{assigned_takes, assigned_word, passed_on}
use Rattle.code.specs.ItemCode.{entries_in, load_operation, store_operation, at_index, entry_code}
use Rattle.code.specs.ItemCode.{assign_entry_code, entry_aside_code, assign_entry_aside_code}
use Rattle.code.specs.Bytes.{no_addresses}
use Rattle.code.proofs.AddressLengths.{all_length, one_length}
use Rattle.story.proofs.SizesOfInstructions.{few_bytes, constant_few, operand_few, one_count, three_count}
use Rattle.story.proofs.SizesOfInstructions.{taken_few}
use Rattle.story.proofs.SizesOfOperands.{giving_few, plain_few, store_few, fail_size, either_all, pulled_into_few}
use Rattle.story.proofs.SizesOfOperands.{word_in_few, passed_few, FewAt, at_few}

-- Items

arithmetic_few : (op : Operation) (x y : items.Operand) (d : Destination) → has_more_types op ≡ false
    → length (bytes_of_all (arithmetic op x y d)) ≤ 11
arithmetic_few op x y d e =
    let i = giving op (operands (x ∷ y ∷ [])) (result_in d) in
    omega (arith, all_length (takes (x ∷ y ∷ [])) (i ∷ []), one_length i, few_bytes i e, taken_few (x ∷ y ∷ []))

commuting_few : (op : Operation) (x y : items.Operand) (d : Destination) → has_more_types op ≡ false
    → length (bytes_of_all (commuting op x y d)) ≤ 11
commuting_few op items.pushed items.pushed d e =
    let i = giving op (in_place items.pushed ∷ in_place items.pushed ∷ []) (result_in d) in
    omega (
      arith,
      giving_few op (in_place items.pushed) (in_place items.pushed) (result_in d) e,
      operand_few items.pushed,
      one_length i,
    )
commuting_few op items.pushed (items.number n) d e = arithmetic_few op items.pushed (items.number n) d e
commuting_few op items.pushed (items.variable v) d e = arithmetic_few op items.pushed (items.variable v) d e
commuting_few op (items.number n) y d e = arithmetic_few op (items.number n) y d e
commuting_few op (items.variable v) y d e = arithmetic_few op (items.variable v) y d e

divided_few : (op : Operation) (x y : items.Operand) (d : Destination) → has_more_types op ≡ false
    → length (bytes_of_all (divided no_addresses op x y d)) ≤ 16
unfolding bytes_of
divided_few op x items.pushed d e =
    let i = giving op (in_place x ∷ Variable 248 ∷ []) (result_in d) in
    omega (
      arith,
      giving_few op (in_place x) (Variable 248) (result_in d) e,
      operand_few x,
      one_length i,
    )
divided_few op x (items.number n) d e =
    let i = giving op (in_place x ∷ constant n ∷ []) (result_in d) in
    either_all (n == 0) (fail 0) (i ∷ []) 16 (omega (arith, fail_size 0))
    (omega (
      arith,
      giving_few op (in_place x) (constant n) (result_in d) e,
      operand_few x,
      constant_few (nat_lt n 256) n,
      one_length i,
    ))
divided_few op x (items.variable v) d e =
    let i = giving op (in_place x ∷ in_place (items.variable v) ∷ []) (result_in d) in
    omega (
      arith,
      giving_few op (in_place x) (in_place (items.variable v)) (result_in d) e,
      operand_few x,
      one_length i,
    )

pub binary_few : (op : Binary) (x y : items.Operand) (d : Destination)
    → length (bytes_of_all (binary_code no_addresses op x y d)) ≤ 16
binary_few binaries.AndAlso x y d = omega arith
binary_few binaries.OrElse x y d = omega arith
binary_few binaries.Add x y d = omega (arith, commuting_few operations.Add x y d refl)
binary_few binaries.Subtract x y d = omega (arith, arithmetic_few operations.Sub x y d refl)
binary_few binaries.Multiply x y d = omega (arith, commuting_few operations.Mul x y d refl)
binary_few binaries.Divide x y d = divided_few operations.Div x y d refl
binary_few binaries.Remainder x y d = divided_few operations.Mod x y d refl
binary_few binaries.And x y d = omega (arith, commuting_few operations.And x y d refl)
binary_few binaries.Or x y d = omega (arith, commuting_few operations.Or x y d refl)

with_aside_few : (op : Operation) (x : items.Operand) (d : Destination) → has_more_types op ≡ false
    → length (bytes_of_all (with_aside op x d)) ≤ 11
with_aside_few op x d e =
    let i = giving op (in_place x ∷ Variable aside_variable ∷ []) (result_in d) in
    omega (
      arith,
      giving_few op (in_place x) (Variable aside_variable) (result_in d) e,
      operand_few x,
      one_length i,
    )

divided_by_few : (op : Operation) (x : items.Operand) (d : Destination) → has_more_types op ≡ false
    → length (bytes_of_all (divided_by no_addresses op x aside_variable d)) ≤ 16
unfolding bytes_of
divided_by_few op x d e =
    let i = giving op (in_place x ∷ Variable aside_variable ∷ []) (result_in d) in
    omega (
      arith,
      giving_few op (in_place x) (Variable aside_variable) (result_in d) e,
      operand_few x,
      one_length i,
    )

pub aside_few : (op : Binary) (x : items.Operand) (d : Destination)
    → length (bytes_of_all (aside_code no_addresses op x d)) ≤ 16
aside_few binaries.AndAlso x d = omega arith
aside_few binaries.OrElse x d = omega arith
aside_few binaries.Add x d = omega (arith, with_aside_few operations.Add x d refl)
aside_few binaries.Subtract x d = omega (arith, with_aside_few operations.Sub x d refl)
aside_few binaries.Multiply x d = omega (arith, with_aside_few operations.Mul x d refl)
aside_few binaries.Divide x d = divided_by_few operations.Div x d refl
aside_few binaries.Remainder x d = divided_by_few operations.Mod x d refl
aside_few binaries.And x d = omega (arith, with_aside_few operations.And x d refl)
aside_few binaries.Or x d = omega (arith, with_aside_few operations.Or x d refl)

pub prefix_few : (op : Prefix) (o : items.Operand) (d : Destination) → length (bytes_of_all (prefix_code op o d)) ≤ 6
prefix_few prefixes.Minus o d =
    let i = giving operations.Sub (Small 0 ∷ in_place o ∷ []) (result_in d) in
    omega (
      arith,
      giving_few operations.Sub (Small 0) (in_place o) (result_in d) refl,
      operand_few o,
      one_length i,
    )
prefix_few prefixes.Complement o d =
    let i = giving operations.Not (in_place o ∷ []) (result_in d) in
    omega (arith, few_bytes i refl, one_count (in_place o), operand_few o, one_length i)
prefix_few prefixes.Not o d = omega arith

pub move_few : (o : items.Operand) (d : Destination) → length (bytes_of (move_code o d)) ≤ 5
move_few o items.push = omega (arith, plain_few operations.Push (in_place o) refl, operand_few o)
move_few items.pushed (items.into x) = omega (arith, plain_few operations.Pull (Small (spec.number_of x)) refl)
move_few (items.number n) (items.into x) = store_few _ (constant n) (constant_few (nat_lt n 256) n)
move_few (items.variable y) (items.into x) = store_few _ (Variable _) (omega arith)
move_few items.pushed items.aside = omega (arith, plain_few operations.Pull (Small aside_variable) refl)
move_few (items.number n) items.aside = store_few aside_variable (constant n) (constant_few (nat_lt n 256) n)
move_few (items.variable y) items.aside = store_few aside_variable (Variable _) (omega arith)
move_few items.pushed items.nowhere = store_few 248 (Variable 0) (omega arith)
move_few (items.number n) items.nowhere = store_few 248 (constant n) (constant_few (nat_lt n 256) n)
move_few (items.variable y) items.nowhere = store_few 248 (Variable _) (omega arith)

pub step_few : (op : Step) (x : source.Variable) (d : Destination) → length (bytes_of_all (step_code op x d)) ≤ 5
unfolding bytes_of
step_few steps.Increment x items.push = omega arith
step_few steps.Increment x (items.into y) = omega arith
step_few steps.Increment x items.aside = omega arith
step_few steps.Increment x items.nowhere = omega arith
step_few steps.Decrement x items.push = omega arith
step_few steps.Decrement x (items.into y) = omega arith
step_few steps.Decrement x items.aside = omega arith
step_few steps.Decrement x items.nowhere = omega arith

pub character_few : (o : items.Operand) → length (bytes_of_all (character_code no_addresses o)) ≤ 24
unfolding bytes_of
character_few items.pushed = omega arith
character_few (items.number n) =
    let i = plain operations.PrintCharacter (constant n ∷ []) in
    either_all (is_character n) (i ∷ []) (fail 0) 24
    (omega (
      arith,
      plain_few operations.PrintCharacter (constant n) refl,
      constant_few (nat_lt n 256) n,
      one_length
          i,
    ))
    (omega (arith, fail_size 0))
character_few (items.variable x) = omega arith

-- Arrays

load_few : (width : Width) (place : ℕ) (d : Destination)
    → FewAt (λ i. giving (load_operation width) (Large place ∷ i ∷ []) (result_in d) ∷ []) 7
load_few widths.Byte place d i h = omega (
  arith,
  one_length (giving operations.LoadByte (Large place ∷ i ∷ []) (result_in d)),
  giving_few operations.LoadByte (Large place) i (result_in d) refl,
  h,
)
load_few widths.Word place d i h = omega (
  arith,
  one_length (giving operations.LoadWord (Large place ∷ i ∷ []) (result_in d)),
  giving_few operations.LoadWord (Large place) i (result_in d) refl,
  h,
)

pub entry_few : (width : Width) (size place : ℕ) (o : items.Operand) (d : Destination)
    → length (bytes_of_all (entry_code no_addresses width size place o d)) ≤ 24
entry_few width size place o d = at_few causes.IndexOutOfRange 0 (entries_in width size) o
    (λ i. giving (load_operation width) (Large place ∷ i ∷ []) (result_in d) ∷ []) 7 (load_few width place d)

no_more_types : (width : Width) → has_more_types (store_operation width) ≡ false
no_more_types widths.Byte = refl
no_more_types widths.Word = refl

stored_few : (width : Width) (place : ℕ) (word : Operand) (d : Destination) → length (operand_bytes word) ≤ 2
    → FewAt (λ i. plain (store_operation width) (Large place ∷ i ∷ word ∷ []) ∷ passed_on d word) 13
stored_few width place word d w i h =
    let first = plain (store_operation width) (Large place ∷ i ∷ word ∷ []) in
    omega (
      arith,
      all_length (first ∷ []) (passed_on d word),
      one_length first,
      few_bytes first (no_more_types width),
      three_count (Large place) i word,
      passed_few d word w,
      w,
      h,
    )

-- an index that was put aside is a variable of the compiler
pub entry_aside_few : (width : Width) (size place : ℕ) (d : Destination)
    → length (bytes_of_all (entry_aside_code no_addresses width size place d)) ≤ 24
entry_aside_few width size place d = entry_few width size place (items.variable aside_global) d

stored_at_few : (width : Width) (size place : ℕ) (o : items.Operand) (word : Operand) (d : Destination)
    → length (operand_bytes word) ≤ 2
    → length (bytes_of_all (at_index no_addresses (entries_in width size) o (λ i.
    plain (store_operation width) (Large place ∷ i ∷ word ∷ []) ∷ passed_on d word))) ≤ 30
stored_at_few width size place o word d few = at_few causes.IndexOutOfRange 0 (entries_in width size) o
    (λ i. plain (store_operation width) (Large place ∷ i ∷ word ∷ []) ∷ passed_on d word) 13
    (stored_few width place word d few)

pub assign_few : (width : Width) (size place : ℕ) (o q : items.Operand) (d : Destination)
    → length (bytes_of_all (assign_entry_code no_addresses width size place o q d)) ≤ 33
assign_few width size place o q d =
    let word = assigned_word q in
    omega (
      arith,
      all_length (assigned_takes q) (at_index no_addresses (entries_in width size) o
          (λ i. plain (store_operation width) (Large place ∷ i ∷ word ∷ []) ∷ passed_on d word)),
      pulled_into_few 1 q,
      stored_at_few width size place o word d (word_in_few 1 q),
    )

pub assign_aside_few : (width : Width) (size place : ℕ) (o q : items.Operand) (d : Destination)
    → length (bytes_of_all (assign_entry_aside_code no_addresses width size place o q d)) ≤ 33
assign_aside_few width size place o items.pushed d =
    omega (arith, stored_at_few width size place o (Variable aside_variable) d (omega arith))
assign_aside_few width size place o (items.number k) d =
    omega (
      arith,
      stored_at_few width size place (items.variable aside_global) (constant k) d
          (word_in_few 1 (items.number k)),
    )
assign_aside_few width size place o (items.variable x) d =
    omega (
      arith,
      stored_at_few width size place (items.variable aside_global) (Variable (number_of x)) d
          (word_in_few 1 (items.variable x)),
    )
