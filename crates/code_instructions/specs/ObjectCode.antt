-- The instructions of items on objects (Z-Machine Standards Document 1.1, sections 4 and 15).
use Rattle.std.specs.Prelude.{◌+◌, ◌%◌, ◌==◌, not, ℕ, Bool, true, false, if◌then◌else◌, List, [], ◌∷◌, ◌++◌, map}
use Rattle.std.specs.Prelude.{Some}
use Rattle.zcore.specs.declared.instruction.Operand.{Operand}
use Rattle.zcore.specs.declared.instruction.Operand.TheVariants.{Large, Small, Variable}
use Rattle.zcore.specs.declared.instruction.Operation.{Operation}
use Rattle.zcore.specs.declared.instruction.Operation.TheVariants.{JumpIfEqual, JumpIfLess, Div, JumpIfZero, Increment}
use Rattle.zcore.specs.declared.instruction.Operation.TheVariants.{Jump, LoadWord, StoreWord, JumpIfIn, GetParent}
use Rattle.zcore.specs.declared.instruction.Operation.TheVariants.{GetChild, GetSibling, TestAttribute, SetAttribute}
use Rattle.zcore.specs.declared.instruction.Operation.TheVariants.{ClearAttribute, GetProperty, GetPropertyAddress}
use Rattle.zcore.specs.declared.instruction.Operation.TheVariants.{GetPropertyLength, InsertObject, RemoveObject}
use Rattle.zcore.specs.declared.instruction.Operation.TheVariants.{PrintObject}
use Rattle.zcore.specs.Instruction.{Instruction}
use Rattle.syntax_trees.specs.declared.tree.Relative.{Relative}
use Rattle.syntax_trees.specs.declared.tree.Relative.TheVariants as relatives
use Rattle.meaning.specs.declared.cause.Cause.{Cause}
use Rattle.meaning.specs.declared.cause.Cause.TheVariants as causes
use Rattle.meaning.specs.declared.resolved.Variable as source
use Rattle.code_drafts.specs.Items.{Destination}
use Rattle.code_drafts.specs.Items as items
use Rattle.code_drafts.specs.Addresses.{Addresses, Sizes, fault_address}
use Rattle.code_drafts.specs.Instructions.{plain, giving, branching, number_of, temporary, constant, push, store}
use Rattle.code_drafts.specs.Instructions.{fail, operands, pulled_into, word_in, aside_variable, result_in}
use Rattle.code_instructions.specs.Instructions.{is_between, offset_over_comparison, tested_between, labelled}

-- Instructions

-- one that stores its result in a variable and branches too, to the next instruction in either case
abbrev pub giving_on : Operation → List Operand → ℕ → Instruction
giving_on operation operands variable =
    record {
      operation = operation;
      operands = operands;
      result = Some variable;
      branch = Some (record { when = true; offset = 2 });
    }

-- Tests

-- the tests of an operand; a pushed one is in the temporary of a number. A number is not tested in code: it is the
-- fault where it is none of those
abbrev pub tests_in : ℕ → Addresses → Cause → ℕ → ℕ → items.Operand → List Instruction
tests_in n a cause low end items.pushed = tested_between a cause low end (temporary n)
tests_in n a cause low end (items.number i) = if is_between low end i then [] else fail (fault_address a cause)
tests_in n a cause low end (items.variable x) = tested_between a cause low end (number_of x)

-- what is done with an operand that is tested: nothing after the fault of a number
abbrev pub tested_in : ℕ → Addresses → Cause → ℕ → ℕ → items.Operand → (Operand → List Instruction) → List Instruction
tested_in n a cause low end items.pushed act =
    tested_between a cause low end (temporary n) ++ act (Variable (temporary n))
tested_in n a cause low end (items.number i) act =
    if is_between low end i then act (constant i) else fail (fault_address a cause)
tested_in n a cause low end (items.variable x) act =
    tested_between a cause low end (number_of x) ++ act (Variable (number_of x))

-- the same where a pushed operand is on the stack
abbrev pub at_tested : Addresses → Cause → ℕ → ℕ → items.Operand → (Operand → List Instruction) → List Instruction
at_tested a cause low end o act = pulled_into 0 o ++ tested_in 0 a cause low end o act

-- Words that are assigned

-- the word to assign, above a pushed index: it is taken first
abbrev pub assigned_takes : items.Operand → List Instruction
assigned_takes o = pulled_into 1 o

abbrev pub assigned_word : items.Operand → Operand
assigned_word o = word_in 1 o

-- the word that was assigned goes on
abbrev pub passed_on : Destination → Operand → List Instruction
passed_on items.push word = push word ∷ []
passed_on (items.into x) word = store (number_of x) word ∷ []
passed_on items.aside word = store aside_variable word ∷ []
passed_on items.nowhere word = []

-- Objects, of which there are so many

-- a number is that of an object
abbrev pub is_object : ℕ → ℕ → Bool
is_object objects o = is_between 1 (objects + 1) o

-- what is done with an object, which is tested first
abbrev pub at_object : Addresses → ℕ → items.Operand → (Operand → List Instruction) → List Instruction
at_object a objects o act = at_tested a causes.NotAnObject 1 (objects + 1) o act

-- the same of what ends in a branch to a label: a branch is laid out, and so it stands after the fault of a number too
abbrev pub at_label : Addresses → ℕ → items.Operand → (Operand → List Instruction) → List Instruction
at_label a objects o act =
    pulled_into 0 o ++ (tests_in 0 a causes.NotAnObject 1 (objects + 1) o ++ act (word_in 0 o))

-- `get_sibling` and `get_child` branch too
abbrev pub relative_of : Relative → Operand → ℕ → Instruction
relative_of relatives.Parent x variable = giving GetParent (x ∷ []) variable
relative_of relatives.Child x variable = giving_on GetChild (x ∷ []) variable
relative_of relatives.Sibling x variable = giving_on GetSibling (x ∷ []) variable

abbrev pub relative_code : Addresses → ℕ → Relative → items.Operand → Destination → List Instruction
relative_code a objects r o d = at_object a objects o (λ x. relative_of r x (result_in d) ∷ [])

-- an object, and the word that its parent is to be, which is above it where both are pushed
abbrev pub is_in_code : Addresses → ℕ → items.Operand → items.Operand → Bool → ℕ → List Instruction
is_in_code a objects o q when offset =
    assigned_takes q ++ at_label a objects o (λ x. labelled JumpIfIn (x ∷ assigned_word q ∷ []) when offset)

abbrev pub has_code : Addresses → ℕ → items.Operand → ℕ → Bool → ℕ → List Instruction
has_code a objects o attribute when offset =
    at_label a objects o (λ x. labelled TestAttribute (x ∷ Small attribute ∷ []) when offset)

abbrev pub changing : Operand → Bool × ℕ → Instruction
changing x change =
    plain (if change.0 then SetAttribute else ClearAttribute) (x ∷ Small (change.1 % 256) ∷ [])

abbrev pub give_code : Addresses → ℕ → items.Operand → List (Bool × ℕ) → List Instruction
give_code a objects o changes = at_object a objects o (λ x. map (changing x) changes)

abbrev pub remove_code : Addresses → ℕ → items.Operand → List Instruction
remove_code a objects o = at_object a objects o (λ x. plain RemoveObject (x ∷ []) ∷ [])

abbrev pub print_name_code : Addresses → ℕ → items.Operand → List Instruction
print_name_code a objects o = at_object a objects o (λ x. plain PrintObject (x ∷ []) ∷ [])

-- Properties, each by its number

-- where the words of an object's property stand, 0 where the object does not provide it
abbrev pub property_address : Operand → ℕ → ℕ → Instruction
property_address x q variable = giving GetPropertyAddress (x ∷ Small q ∷ []) variable

-- how many bytes the words have that stand where a variable says, 0 at 0
abbrev pub length_at : ℕ → ℕ → Instruction
length_at place variable = giving GetPropertyLength (Variable place ∷ []) variable

abbrev pub branching_zero : ℕ → Bool → ℕ → Instruction
branching_zero variable when offset = branching JumpIfZero (Variable variable ∷ []) when offset

-- over a fault where words have two bytes
abbrev pub branching_single : ℕ → Instruction
branching_single variable = branching JumpIfEqual (Variable variable ∷ Small 2 ∷ []) true 6

abbrev pub provides_code : Addresses → ℕ → items.Operand → ℕ → Bool → ℕ → List Instruction
provides_code a objects o q when offset = at_label a objects o (λ x.
    property_address x q (temporary 0) ∷ labelled JumpIfZero (Variable (temporary 0) ∷ []) (not when) offset)

-- the word of a property, or its default
abbrev pub read_property : Operand → ℕ → ℕ → Instruction
read_property x q variable = giving GetProperty (x ∷ Small q ∷ []) variable

-- A property that is provided has one word, and else the fault's text is printed. It is not tested where it has one
-- word wherever it is provided.
abbrev pub property_value : Addresses → Bool → Operand → ℕ → ℕ → List Instruction
property_value a single x q variable =
    if single then read_property x q variable ∷ []
    else (property_address x q (temporary 1)
    ∷ branching_zero (temporary 1) true 13
    ∷ length_at (temporary 1) (temporary 1)
    ∷ branching_single (temporary 1)
    ∷ (fail (fault_address a causes.PropertyOfManyWords) ++ read_property x q variable ∷ []))

abbrev pub property_code : Addresses → ℕ → Bool → items.Operand → ℕ → Destination → List Instruction
property_code a objects single o q d = at_object a objects o (λ x. property_value a single x q (result_in d))

abbrev pub property_size_code : Addresses → ℕ → items.Operand → ℕ → Destination → List Instruction
property_size_code a objects o q d = at_object a objects o (λ x.
    property_address x q (temporary 1) ∷ length_at (temporary 1) (result_in d) ∷ [])

-- where the words of a property stand goes to a temporary; where it is not provided, the fault's text is printed
abbrev pub provided : Addresses → Operand → ℕ → List Instruction
provided a x q =
    property_address x q (temporary 2)
    ∷ branching_zero (temporary 2) false 6
    ∷ fail (fault_address a causes.NoSuchProperty)

-- there is one word, and else the fault's text is printed; not tested where there is one wherever it is provided
abbrev pub tested_single : Addresses → Bool → List Instruction
tested_single a single =
    if single then []
    else (length_at (temporary 2) (temporary 3)
    ∷ branching_single (temporary 3)
    ∷ fail (fault_address a causes.PropertyOfManyWords))

-- how far a branch leads to after a comparison of an operand with a variable: it has 4 bytes, or 6 where the operand
-- takes two
abbrev pub offset_over_operand : Operand → ℕ
offset_over_operand (Large n) = 8
offset_over_operand (Small n) = 6
offset_over_operand (Variable v) = 6

-- an index is one of a word, and else the fault's text is printed
abbrev pub tested_word : Addresses → Operand → List Instruction
tested_word a i =
    length_at (temporary 2) (temporary 3)
    ∷ giving Div (Variable (temporary 3) ∷ Small 2 ∷ []) (temporary 3)
    ∷ branching JumpIfLess (i ∷ Small 0 ∷ []) true (offset_over_operand i)
    ∷ branching JumpIfLess (i ∷ Variable (temporary 3) ∷ []) true 6
    ∷ fail (fault_address a causes.IndexOutOfRange)

-- a word of those of a property, at an index
abbrev pub loaded_at : Addresses → Operand → ℕ → Operand → ℕ → List Instruction
loaded_at a x q i variable =
    provided a x q ++ (tested_word a i ++ giving LoadWord (Variable (temporary 2) ∷ i ∷ []) variable ∷ [])

abbrev pub property_word_code : Addresses → ℕ → ℕ → items.Operand → items.Operand → Destination → List Instruction
property_word_code a objects q o i d =
    assigned_takes i ++ at_object a objects o (λ x. loaded_at a x q (assigned_word i) (result_in d))

-- a word goes to the only one of a property, and on
abbrev pub assigned_single : Addresses → Bool → Operand → ℕ → Operand → Destination → List Instruction
assigned_single a single x q word d =
    provided a x q
    ++ (tested_single a single ++ plain StoreWord (Variable (temporary 2) ∷ Small 0 ∷ word ∷ []) ∷ passed_on d word)

abbrev pub assign_property_code : Addresses → ℕ → Bool → ℕ → items.Operand → items.Operand → Destination
    → List Instruction
assign_property_code a objects single q o w d =
    assigned_takes w ++ at_object a objects o (λ x. assigned_single a single x q (assigned_word w) d)

-- to the one at an index
abbrev pub assigned_at : Addresses → Operand → ℕ → Operand → Operand → Destination → List Instruction
assigned_at a x q i word d =
    provided a x q
    ++ (tested_word a i ++ plain StoreWord (Variable (temporary 2) ∷ i ∷ word ∷ []) ∷ passed_on d word)

-- object, index and word
abbrev pub assign_property_word_code : Addresses → ℕ → ℕ → items.Operand → items.Operand → items.Operand → Destination
    → List Instruction
assign_property_word_code a objects q o i w d = assigned_takes w
    ++ (pulled_into 4 i ++ at_object a objects o (λ x. assigned_at a x q (word_in 4 i) (assigned_word w) d))

-- Moves

-- From the object into which another is to go, up to its parents: where one is that other, which is in a temporary, the
-- fault's text is printed. The jump leads back by 13 bytes.
abbrev pub climbing : Addresses → Operand → List Instruction
climbing a into =
    store (temporary 3) into
    ∷ branching JumpIfEqual (Variable (temporary 3) ∷ Variable (temporary 2) ∷ []) true 11
    ∷ giving GetParent (Variable (temporary 3) ∷ []) (temporary 3)
    ∷ branching JumpIfZero (Variable (temporary 3) ∷ []) true 9
    ∷ plain Jump (Large 65525 ∷ [])
    ∷ fail (fault_address a causes.ObjectInsideItself)

-- an object goes into another, which is tested
abbrev pub moved_into : Addresses → ℕ → Operand → items.Operand → List Instruction
moved_into a objects x into =
    store (temporary 2) x ∷ tested_in 1 a causes.NotAnObject 1 (objects + 1) into (λ y.
    climbing a y ++ plain InsertObject (Variable (temporary 2) ∷ y ∷ []) ∷ [])

-- the first goes into the second
abbrev pub move_object_code : Addresses → ℕ → items.Operand → items.Operand → List Instruction
move_object_code a objects o into =
    assigned_takes into ++ at_object a objects o (λ x. moved_into a objects x into)

-- Objects one after another

abbrev pub jump_by : ℕ → Instruction
jump_by offset = plain Jump (Large (offset % 65536) ∷ [])

-- a variable gets object 1, or the jump is made where there is none
abbrev pub first_object_code : ℕ → source.Variable → ℕ → List Instruction
first_object_code objects x offset =
    (if objects == 0 then jump_by offset else store (number_of x) (Small 1)) ∷ []

-- a variable gets the next object, or the jump is made where there is none: over the two bytes after it
abbrev pub next_object_code : ℕ → source.Variable → ℕ → List Instruction
next_object_code objects x offset =
    branching JumpIfLess (Variable (number_of x) ∷ Small 1 ∷ []) true (offset_over_comparison objects)
    ∷ branching JumpIfLess (Variable (number_of x) ∷ constant objects ∷ []) true 5
    ∷ jump_by (offset + 2)
    ∷ plain Increment (Small (number_of x) ∷ [])
    ∷ []

-- Sizes

-- How many objects there are; an accepted program has no 32,768
abbrev pub objects_of : Sizes → ℕ
objects_of sizes = sizes.objects % 32768
