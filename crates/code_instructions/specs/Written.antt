-- What the values of the code stand for.
use Rattle.std.specs.Prelude.{if◌then◌else◌, Bool, Option, Some, None, ℕ}
use Rattle.zcore.specs.declared.instruction.Operand.{Operand}
use Rattle.code_drafts.specs.Items as items
use Rattle.code_instructions.specs.Instructions.{is_between}
use Rattle.code_drafts.specs.Addresses.{has_one_word}
use Rattle.code_drafts.specs.Instructions.{constant, word_in}
use Rattle.code_drafts.specs.Written.{sizes_in}
use Rattle.code_drafts.specs.declared.addresses.Sizes as counted
use Rattle.code_instructions.specs.ObjectCode.{objects_of}

-- what stands for an operand that is tested; none for a number that is none of those
abbrev pub found_in : ℕ → ℕ → ℕ → items.Operand → Option Operand
found_in n low end items.pushed = Some (word_in n items.pushed)
found_in n low end (items.number i) = if is_between low end i then Some (constant i) else None
found_in n low end (items.variable x) = Some (word_in n (items.variable x))

abbrev pub objects_in : counted.Sizes → ℕ
objects_in s = objects_of (sizes_in s)

-- the property of a number has one word wherever an object provides it
abbrev pub single_in : counted.Sizes → ℕ → Bool
single_in s q = has_one_word (sizes_in s) q
