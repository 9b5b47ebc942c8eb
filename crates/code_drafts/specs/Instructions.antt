-- Instructions, and how they name operands (Z-Machine Standards Document 1.1, sections 4 and 15). Numbers and variables
-- stand in place in an instruction; the other operands are on the stack of the routine's frame. Variables from 248 on
-- are the compiler's; none keeps its value beyond an item but the last, which holds the word that is put aside for the
-- next item.
use Rattle.std.specs.Prelude.{◌+◌, ◌-◌, ◌%◌, ℕ, zero, suc, nat_lt, Bool, if◌then◌else◌, List, [], ◌∷◌, Some, None}
use Rattle.zcore.specs.declared.instruction.Operand.{Operand}
use Rattle.zcore.specs.declared.instruction.Operand.TheVariants.{Large, Small, Variable}
use Rattle.zcore.specs.declared.instruction.Operation.{Operation}
use Rattle.zcore.specs.declared.instruction.Operation.TheVariants.{Store, PrintPacked, Load, Quit, Push, Pull}
use Rattle.zcore.specs.Instruction.{Instruction}
use Rattle.meaning.specs.declared.resolved.Variable as source
use Rattle.meaning.specs.declared.resolved.Variable.TheVariants as variables
use Rattle.code_drafts.specs.Items.{Destination}
use Rattle.code_drafts.specs.Items as items

-- Instructions

-- one that stores no result and does not branch
abbrev pub plain : Operation → List Operand → Instruction
plain operation operands = record { operation = operation; operands = operands; result = None; branch = None }

-- one that stores its result in a variable
abbrev pub giving : Operation → List Operand → ℕ → Instruction
giving operation operands variable =
    record { operation = operation; operands = operands; result = Some variable; branch = None }

-- one that branches where its condition is as asked
abbrev pub branching : Operation → List Operand → Bool → ℕ → Instruction
branching operation operands when offset =
    record {
      operation = operation;
      operands = operands;
      result = None;
      branch = Some (record { when = when; offset = offset });
    }

-- the number of a variable of the source: locals from 1 on, globals from 16 on (4.2.2), in a byte
abbrev pub number_of : source.Variable → ℕ
number_of (variables.Local i) = (1 + i) % 256
number_of (variables.Global g) = (16 + g) % 256

-- the word on the top of the stack, which is taken
abbrev pub top : Operand
top = Variable 0

-- the compiler's variables
abbrev pub temporary : ℕ → ℕ
temporary n = 248 + n

abbrev pub constant : ℕ → Operand
constant n = if nat_lt n 256 then Small n else Large n

abbrev pub push : Operand → Instruction
push operand = plain Push (operand ∷ [])

-- the word on the top of the stack goes to a variable
abbrev pub pull : ℕ → Instruction
pull variable = plain Pull (Small variable ∷ [])

-- the word on the top of the stack goes to a variable too
abbrev pub copy : ℕ → Instruction
copy variable = giving Load (Small 0 ∷ []) variable

abbrev pub store : ℕ → Operand → Instruction
store variable operand = plain Store (Small variable ∷ operand ∷ [])

-- a fault's text is printed, and the story ends: 4 bytes
abbrev pub fail : ℕ → List Instruction
fail text = plain PrintPacked (Large text ∷ []) ∷ plain Quit [] ∷ []

-- the offset of a jump that leads from the address after it to another (section 15, `jump`)
abbrev pub jump_offset : ℕ → ℕ → ℕ
jump_offset after target = (target + 65538 - after) % 65536

-- Operands

-- an operand that is pushed is on the top of the stack
abbrev pub in_place : items.Operand → Operand
in_place items.pushed = top
in_place (items.number n) = constant n
in_place (items.variable x) = Variable (number_of x)

-- Of several operands that are pushed all but the first are pulled into temporaries, the last first. How many are
-- pushed
abbrev pub pushed_count : List items.Operand → ℕ
pushed_count [] = 0
pushed_count (items.pushed ∷ os) = 1 + pushed_count os
pushed_count (items.number n ∷ os) = pushed_count os
pushed_count (items.variable x ∷ os) = pushed_count os

-- `pull` into the temporaries from n - 1 down to 0
abbrev pub take_words : ℕ → List Instruction
take_words zero = []
take_words (suc n) = pull (temporary n) ∷ take_words n

abbrev pub takes : List items.Operand → List Instruction
takes os = take_words (pushed_count os - 1)

-- operands after the first that is pushed, whose words are in the temporaries from one on
abbrev pub named_from : ℕ → List items.Operand → List Operand
named_from n [] = []
named_from n (items.pushed ∷ os) = Variable (temporary n) ∷ named_from (n + 1) os
named_from n (items.number k ∷ os) = constant k ∷ named_from n os
named_from n (items.variable x ∷ os) = Variable (number_of x) ∷ named_from n os

abbrev pub operands : List items.Operand → List Operand
operands [] = []
operands (items.pushed ∷ os) = top ∷ named_from 0 os
operands (items.number k ∷ os) = constant k ∷ operands os
operands (items.variable x ∷ os) = Variable (number_of x) ∷ operands os

-- an operand that is tested or used twice goes to a temporary where it is pushed
abbrev pub pulled_into : ℕ → items.Operand → List Instruction
pulled_into n items.pushed = pull (temporary n) ∷ []
pulled_into n (items.number k) = []
pulled_into n (items.variable x) = []

-- its word then
abbrev pub word_in : ℕ → items.Operand → Operand
word_in n items.pushed = Variable (temporary n)
word_in n (items.number k) = constant k
word_in n (items.variable x) = Variable (number_of x)

-- the most operands of an instruction that branches, and of a call beside its routine; an accepted program has no
-- more
abbrev pub most_tested : ℕ
most_tested = 4

-- the variable of the word that is put aside for the next item
abbrev pub aside_variable : ℕ
aside_variable = 255

-- Where a word goes: the result of an instruction. One that goes nowhere goes to a temporary.
abbrev pub result_in : Destination → ℕ
result_in items.push = 0
result_in (items.into x) = number_of x
result_in items.aside = aside_variable
result_in items.nowhere = temporary 0
