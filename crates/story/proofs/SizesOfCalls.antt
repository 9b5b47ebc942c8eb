-- How many bytes the items have that read a line, return or call.
use Rattle.std.proofs.Common.{◌≤◌, ◌+◌, ◌*◌, ◌==◌, ℕ, Bool, true, false, List, [], ◌∷◌, ◌++◌, length, take, refl, arith}
use Rattle.std.specs.Prelude.{nat_lt, if◌then◌else◌}
use Rattle.std.proofs.lemmas.List.{length-take}
use Rattle.zcore.specs.declared.instruction.Operand.TheVariants.{Large, Small, Variable}
use Rattle.zcore.specs.declared.instruction.Operation.TheVariants as operations
use Rattle.zcore.specs.Operations.{count_of, number_of, has_more_types}
use Rattle.zcore.specs.Instruction.{Instruction}
use Rattle.zcore.specs.InstructionBytes.{result_bytes, bytes_of}
use Rattle.meaning.specs.declared.cause.Cause.TheVariants as causes
use Rattle.code_drafts.specs.Items.{Destination}
use Rattle.code_drafts.specs.Items as items
use Rattle.code_drafts.specs.Instructions as spec
use Rattle.code_drafts.specs.Instructions.{plain, constant, takes}
use Rattle.code_drafts.specs.Bytes.{bytes_of_all}
use Rattle.code_instructions.specs.Instructions.{call_result, calling, call_code, return_code}
use Rattle.code.specs.ItemCode.{first_byte, tested_first, letters_in, words_in, line_code, read_code}
use Rattle.code.specs.Bytes.{no_addresses}
use Rattle.code.proofs.AddressLengths.{all_length, one_length}
use Rattle.story.proofs.Most.{most}
use Rattle.story.proofs.SizesOfInstructions.{opcode_most, parts_length, few_bytes, constant_few, two_count}
use Rattle.story.proofs.SizesOfInstructions.{taken_few}
use Rattle.story.proofs.SizesOfOperands.{plain_few, between_few}

-- Lines

tested_first_few : (most : ℕ) → length (bytes_of_all (tested_first no_addresses most)) ≤ 14
tested_first_few most = between_few causes.BufferTooSmall 1 (most + 1) (spec.temporary 0)

first_few : (place most : ℕ) → length (bytes_of_all (first_byte place ∷ tested_first no_addresses most)) ≤ 20
first_few place most =
    omega (
      arith,
      all_length (first_byte place ∷ []) (tested_first no_addresses most),
      one_length (first_byte place),
      few_bytes (first_byte place) refl,
      two_count (Large place) (Small 0),
      tested_first_few most,
    )

line_few : (text parse : ℕ) → length (bytes_of_all (line_code text parse)) ≤ 13
unfolding bytes_of
line_few text parse = omega arith

pub read_few : (text_size text parse_size parse : ℕ)
    → length (bytes_of_all (read_code no_addresses text_size text parse_size parse)) ≤ 53
read_few text_size text parse_size parse =
    let letters = letters_in text_size in
    let words = words_in parse_size in
    omega (
      arith,
      all_length (first_byte text ∷ tested_first no_addresses letters)
          (first_byte parse ∷ (tested_first no_addresses words ++ line_code text parse)),
      all_length (first_byte parse ∷ tested_first no_addresses words) (line_code text parse),
      first_few text letters,
      first_few parse words,
      line_few text parse,
    )

either_return : (b c : Bool) (i : Instruction) → length (bytes_of i) ≤ 4
    → length (bytes_of (if b then plain operations.ReturnTrue []
    else (if c then plain operations.ReturnFalse [] else i))) ≤ 4
unfolding bytes_of
either_return true c i h = omega arith
either_return false true i h = omega arith
either_return false false i h = h

pub return_few : (o : items.Operand) → length (bytes_of (return_code o)) ≤ 4
return_few items.pushed = omega (arith, few_bytes (plain operations.ReturnPopped []) refl)
return_few (items.number n) = either_return (n == 1) (n == 0) (plain operations.Return (constant n ∷ []))
    (omega (arith, plain_few operations.Return (constant n) refl, constant_few (nat_lt n 256) n))
return_few (items.variable x) = omega (arith, plain_few operations.Return (Variable (spec.number_of x)) refl)

result_few : (d : Destination) → length (result_bytes (call_result d)) ≤ 1
result_few items.push = omega arith
result_few (items.into x) = omega arith
result_few items.aside = omega arith
result_few items.nowhere = omega arith

pub taken_length : (n : ℕ) (os : List items.Operand) → length (take n os) ≤ length os
taken_length n os = omega (arith, length-take n os)

pub call_few : (r : ℕ) (os : List items.Operand) (d : Destination)
    → length (bytes_of_all (call_code r os d)) ≤ 9 + 4 * length os
call_few r os d =
    let i = calling r os d in
    omega (
      arith,
      all_length (takes os) (i ∷ []),
      one_length i,
      parts_length i,
      opcode_most (count_of i.operation) (number_of i.operation) (has_more_types i.operation) i.operands,
      taken_few os,
      result_few d,
    )
