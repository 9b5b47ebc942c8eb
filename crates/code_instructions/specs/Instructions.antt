-- The instructions of items on words, of calls, branches and prints (Z-Machine Standards Document 1.1, sections 4 and
-- 15).
use Rattle.std.specs.Prelude.{◌+◌, ◌%◌, ◌==◌, ◌&&◌, not, ℕ, nat_le, nat_lt, Bool, true, false, if◌then◌else◌, List}
use Rattle.std.specs.Prelude.{[], ◌∷◌, ◌++◌, map, take, length, Option, Some, None}
use Rattle.zcore.specs.declared.instruction.Operand.{Operand}
use Rattle.zcore.specs.declared.instruction.Operand.TheVariants.{Large, Small, Variable}
use Rattle.zcore.specs.declared.instruction.Operation.{Operation}
use Rattle.zcore.specs.declared.instruction.Operation.TheVariants.{JumpIfEqual, JumpIfLess, JumpIfGreater, Or, And, Add}
use Rattle.zcore.specs.declared.instruction.Operation.TheVariants.{Sub, Mul, Div, Mod, JumpIfZero, Increment, Decrement}
use Rattle.zcore.specs.declared.instruction.Operation.TheVariants.{Call1s, Call2s, Return, Jump, Call1n, Call2n}
use Rattle.zcore.specs.declared.instruction.Operation.TheVariants.{ReturnTrue, ReturnFalse, ReturnPopped, CallVs}
use Rattle.zcore.specs.declared.instruction.Operation.TheVariants.{PrintCharacter, CallVs2, Not, CallVn, CallVn2}
use Rattle.zcore.specs.Instruction.{Instruction}
use Rattle.syntax_trees.specs.declared.tree.Binary.{Binary}
use Rattle.syntax_trees.specs.declared.tree.Binary.TheVariants as binaries
use Rattle.syntax_trees.specs.declared.tree.Prefix.{Prefix}
use Rattle.syntax_trees.specs.declared.tree.Prefix.TheVariants as prefixes
use Rattle.syntax_trees.specs.declared.tree.Step.{Step}
use Rattle.syntax_trees.specs.declared.tree.Step.TheVariants as steps
use Rattle.meaning.specs.declared.cause.Cause.{Cause}
use Rattle.meaning.specs.declared.cause.Cause.TheVariants as causes
use Rattle.meaning.specs.declared.resolved.Variable as source
use Rattle.meaning.specs.declared.resolved.Variable.TheVariants as variables
use Rattle.ztext.specs.Alphabets.{is_printable}
use Rattle.meaning.specs.Meaning.{is_character}
use Rattle.code_drafts.specs.Items.{Destination, Test, is_any_pushed}
use Rattle.code_drafts.specs.Items as items
use Rattle.code_drafts.specs.Addresses.{Addresses, fault_address}
use Rattle.meaning.specs.Places.{machine_character}
use Rattle.code_drafts.specs.Instructions.{plain, giving, branching, number_of, temporary, constant, push, pull, copy}
use Rattle.code_drafts.specs.Instructions.{store, fail, in_place, takes, operands, aside_variable, result_in, top}

-- 1 is pushed where a branch leads to the last of these, by 8 from the one before them, and else 0
abbrev pub flag : List Instruction
flag = push (Small 0) ∷ plain Jump (Large 5 ∷ []) ∷ push (Small 1) ∷ []

-- Words

-- a word goes to the variable of a number
abbrev pub move_to : items.Operand → ℕ → Instruction
move_to items.pushed variable = pull variable
move_to (items.number n) variable = store variable (constant n)
move_to (items.variable y) variable = store variable (Variable (number_of y))

abbrev pub move_code : items.Operand → Destination → Instruction
move_code o items.push = push (in_place o)
move_code o (items.into x) = move_to o (number_of x)
move_code o items.aside = move_to o aside_variable
move_code o items.nowhere = store (temporary 0) (in_place o)

-- `~~` is a branch, and no item
abbrev pub prefix_code : Prefix → items.Operand → Destination → List Instruction
prefix_code prefixes.Minus o d = giving Sub (Small 0 ∷ in_place o ∷ []) (result_in d) ∷ []
prefix_code prefixes.Complement o d = giving Not (in_place o ∷ []) (result_in d) ∷ []
prefix_code prefixes.Not o d = []

abbrev pub arithmetic : Operation → items.Operand → items.Operand → Destination → List Instruction
arithmetic operation a b d = takes (a ∷ b ∷ []) ++ giving operation (operands (a ∷ b ∷ [])) (result_in d) ∷ []

-- Of two pushed words the right one is on the top. Where it does not matter which stands first, they are taken from the
-- stack as they stand there.
abbrev pub commuting : Operation → items.Operand → items.Operand → Destination → List Instruction
commuting operation items.pushed items.pushed d = giving operation (top ∷ top ∷ []) (result_in d) ∷ []
commuting operation a b d = arithmetic operation a b d

-- a division by the word of a variable, which is tested first
abbrev pub divided_by : Addresses → Operation → items.Operand → ℕ → Destination → List Instruction
divided_by a operation x variable d =
    branching JumpIfZero (Variable variable ∷ []) false 6 ∷ (fail (fault_address a causes.DivisionByZero)
    ++ giving operation (in_place x ∷ Variable variable ∷ []) (result_in d) ∷ [])

-- a number as divisor is not tested
abbrev pub divided : Addresses → Operation → items.Operand → items.Operand → Destination → List Instruction
divided a operation x items.pushed d = pull (temporary 0) ∷ divided_by a operation x (temporary 0) d
divided a operation x (items.number n) d =
    if n == 0 then fail (fault_address a causes.DivisionByZero)
    else giving operation (in_place x ∷ constant n ∷ []) (result_in d) ∷ []
divided a operation x (items.variable y) d = divided_by a operation x (number_of y) d

-- `&&` and `||` are branches, and no item
abbrev pub binary_code : Addresses → Binary → items.Operand → items.Operand → Destination → List Instruction
binary_code a binaries.AndAlso x y d = []
binary_code a binaries.OrElse x y d = []
binary_code a binaries.Add x y d = commuting Add x y d
binary_code a binaries.Subtract x y d = arithmetic Sub x y d
binary_code a binaries.Multiply x y d = commuting Mul x y d
binary_code a binaries.Divide x y d = divided a Div x y d
binary_code a binaries.Remainder x y d = divided a Mod x y d
binary_code a binaries.And x y d = commuting And x y d
binary_code a binaries.Or x y d = commuting Or x y d

-- an operation whose right operand was put aside
abbrev pub with_aside : Operation → items.Operand → Destination → List Instruction
with_aside operation x d = giving operation (in_place x ∷ Variable aside_variable ∷ []) (result_in d) ∷ []

-- the same of each operator
abbrev pub aside_code : Addresses → Binary → items.Operand → Destination → List Instruction
aside_code a binaries.AndAlso x d = []
aside_code a binaries.OrElse x d = []
aside_code a binaries.Add x d = with_aside Add x d
aside_code a binaries.Subtract x d = with_aside Sub x d
aside_code a binaries.Multiply x d = with_aside Mul x d
aside_code a binaries.Divide x d = divided_by a Div x aside_variable d
aside_code a binaries.Remainder x d = divided_by a Mod x aside_variable d
aside_code a binaries.And x d = with_aside And x d
aside_code a binaries.Or x d = with_aside Or x d

abbrev pub step_operation : Step → Operation
step_operation steps.Increment = Increment
step_operation steps.Decrement = Decrement

abbrev pub stepping : Step → source.Variable → Instruction
stepping op x = plain (step_operation op) (Small (number_of x) ∷ [])

-- the new word is read from the variable
abbrev pub step_code : Step → source.Variable → Destination → List Instruction
step_code op x items.push = stepping op x ∷ push (Variable (number_of x)) ∷ []
step_code op x (items.into y) = stepping op x ∷ store (number_of y) (Variable (number_of x)) ∷ []
step_code op x items.aside = stepping op x ∷ store aside_variable (Variable (number_of x)) ∷ []
step_code op x items.nowhere = stepping op x ∷ []

-- the left side stays below; it is compared with the right side that is taken
abbrev pub first_equal_code : List Instruction
first_equal_code =
    pull (temporary 0)
    ∷ copy (temporary 1)
    ∷ branching JumpIfEqual (Variable (temporary 1) ∷ Variable (temporary 0) ∷ []) true 8
    ∷ flag

-- the left side stays below; the flag is taken too
abbrev pub also_equal_code : List Instruction
also_equal_code =
    pull (temporary 0)
    ∷ pull (temporary 1)
    ∷ copy (temporary 2)
    ∷ branching JumpIfEqual (Variable (temporary 2) ∷ Variable (temporary 0) ∷ []) true 11
    ∷ branching JumpIfZero (Variable (temporary 1) ∷ []) false 8
    ∷ flag

-- Tests

-- a number is, as a signed number, from one number on and below another
abbrev pub is_between : ℕ → ℕ → ℕ → Bool
is_between low end i = nat_lt i 32768 && (nat_le low i && nat_lt i end)

-- how far a branch leads to after a comparison with a constant: it has 4 bytes, or 6 where the constant takes two
abbrev pub offset_over_comparison : ℕ → ℕ
offset_over_comparison n = if nat_lt n 256 then 6 else 8

-- a word in a variable is tested: where it is not, as a signed number, from one number on and below another, a fault's
-- text is printed
abbrev pub tested_between : Addresses → Cause → ℕ → ℕ → ℕ → List Instruction
tested_between a cause low end variable =
    branching JumpIfLess (Variable variable ∷ Small low ∷ []) true (offset_over_comparison end)
    ∷ branching JumpIfLess (Variable variable ∷ constant end ∷ []) true 6
    ∷ fail (fault_address a cause)

-- Printing

-- a byte between the quotes of a text that is printed as it is
abbrev pub prints_itself : ℕ → Bool
prints_itself byte = is_printable byte && machine_character byte == byte

-- a character is 0, 13 or from 32 to 126, and else the fault's text is printed
abbrev pub tested_character : Addresses → ℕ → List Instruction
tested_character a variable =
    branching JumpIfEqual (Variable variable ∷ Small 0 ∷ Small 13 ∷ []) true 14
    ∷ branching JumpIfLess (Variable variable ∷ Small 32 ∷ []) true 6
    ∷ branching JumpIfGreater (Variable variable ∷ Small 126 ∷ []) false 6
    ∷ (fail (fault_address a causes.NotACharacter) ++ plain PrintCharacter (Variable variable ∷ []) ∷ [])

abbrev pub character_code : Addresses → items.Operand → List Instruction
character_code a items.pushed = pull (temporary 0) ∷ tested_character a (temporary 0)
character_code a (items.number n) =
    if is_character n then plain PrintCharacter (constant n ∷ []) ∷ [] else fail (fault_address a causes.NotACharacter)
character_code a (items.variable x) = tested_character a (number_of x)

-- Branches to labels

abbrev pub test_operation : Test → Operation
test_operation items.is_zero = JumpIfZero
test_operation items.less = JumpIfLess
test_operation items.greater = JumpIfGreater
test_operation items.same = JumpIfEqual

-- below a limit the branch itself, and else the opposite branch over a jump
abbrev pub labelled_below : ℕ → Operation → List Operand → Bool → ℕ → List Instruction
labelled_below limit operation os when offset =
    if nat_lt offset limit then branching operation os when offset ∷ []
    else branching operation os (not when) 5 ∷ plain Jump (Large (offset % 65536) ∷ []) ∷ []

-- a branch ahead reaches to 8,191
abbrev pub ahead_limit : ℕ
ahead_limit = 8192

-- the offset of a branch back has 14 bits; where a jump goes back instead, it is 65,536 more than the jump's
abbrev pub back_limit : ℕ
back_limit = 16384

abbrev pub labelled : Operation → List Operand → Bool → ℕ → List Instruction
labelled operation os when offset = labelled_below ahead_limit operation os when offset

abbrev pub ordered_below : ℕ → Test → List items.Operand → Bool → ℕ → List Instruction
ordered_below limit test os when offset =
    takes os ++ labelled_below limit (test_operation test) (operands os) when offset

abbrev pub ordered_code : Test → List items.Operand → Bool → ℕ → List Instruction
ordered_code test os when offset = ordered_below ahead_limit test os when offset

-- the test of two operands that stand the other way round
abbrev pub reverse_test : Test → Test
reverse_test items.is_zero = items.is_zero
reverse_test items.less = items.greater
reverse_test items.greater = items.less
reverse_test items.same = items.same

abbrev pub are_both_pushed : List items.Operand → Bool
are_both_pushed (items.pushed ∷ items.pushed ∷ []) = true
are_both_pushed os = false

-- of two pushed words the right one is on the top: they are taken as they stand, by the turned test
abbrev pub tested_below : ℕ → Test → List items.Operand → Bool → ℕ → List Instruction
tested_below limit test os when offset =
    if are_both_pushed os then labelled_below limit (test_operation (reverse_test test)) (top ∷ top ∷ []) when offset
    else ordered_below limit test os when offset

abbrev pub tested_code : Test → List items.Operand → Bool → ℕ → List Instruction
tested_code test os when offset = tested_below ahead_limit test os when offset

-- the test that a word equals one of none is never so
abbrev pub asks_none : Test → List items.Operand → Bool
asks_none items.same (o ∷ []) = true
asks_none test os = false

-- the signed word that no word is less than
abbrev pub least_word : ℕ
least_word = 32768

abbrev pub branch_below : ℕ → Test → List items.Operand → Bool → ℕ → List Instruction
branch_below limit test os when offset =
    if asks_none test os then tested_below limit items.less (os ++ items.number least_word ∷ []) when offset
    else tested_below limit test os when offset

abbrev pub branch_code : Test → List items.Operand → Bool → ℕ → List Instruction
branch_code test os when offset = branch_below ahead_limit test os when offset

-- `switch`

-- the most numbers that a word is compared with; an accepted program has no more
abbrev pub most_compared : ℕ
most_compared = 3

-- the word that was put aside, and some numbers
abbrev pub case_operands : List ℕ → List Operand
case_operands ns = Variable aside_variable ∷ map constant (take most_compared ns)

abbrev pub case_code : Test → List ℕ → Bool → ℕ → List Instruction
case_code test ns when offset = labelled (test_operation test) (case_operands ns) when offset

-- Calls and returns

-- an operation for no argument, one for one, one for up to three, and one for more (section 15, `call_1s` and others)
abbrev pub by_arguments : ℕ → Operation → Operation → Operation → Operation → Operation
by_arguments n none one few many =
    if n == 0 then none else (if n == 1 then one else (if nat_le n 3 then few else many))

abbrev pub call_operation : ℕ → Destination → Operation
call_operation n items.nowhere = by_arguments n Call1n Call2n CallVn CallVn2
call_operation n d = by_arguments n Call1s Call2s CallVs CallVs2

abbrev pub call_result : Destination → Option ℕ
call_result items.push = Some 0
call_result (items.into x) = Some (number_of x)
call_result items.aside = Some aside_variable
call_result items.nowhere = None

abbrev pub calling : ℕ → List items.Operand → Destination → Instruction
calling routine os d = record {
  operation = call_operation (length os) d;
  operands = Large routine ∷ operands os;
  result = call_result d;
  branch = None;
}

abbrev pub call_code : ℕ → List items.Operand → Destination → List Instruction
call_code routine os d = takes os ++ calling routine os d ∷ []

-- the global that would stand in the variable of the word that is put aside; a program has none of this number
abbrev pub aside_global : source.Variable
aside_global = variables.Global 239

-- an operand that was put aside, if it is pushed
abbrev pub read_aside : items.Operand → items.Operand
read_aside items.pushed = items.variable aside_global
read_aside o = o

-- operands of which the last that is pushed was put aside
abbrev pub with_last_aside : List items.Operand → List items.Operand
with_last_aside [] = []
with_last_aside (o ∷ os) = (if is_any_pushed os then o else read_aside o) ∷ with_last_aside os

abbrev pub return_code : items.Operand → Instruction
return_code items.pushed = plain ReturnPopped []
return_code (items.number n) =
    if n == 1 then plain ReturnTrue [] else (if n == 0 then plain ReturnFalse [] else plain Return (constant n ∷ []))
return_code (items.variable x) = plain Return (Variable (number_of x) ∷ [])
