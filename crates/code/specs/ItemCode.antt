-- The instructions of each item (Z-Machine Standards Document 1.1, sections 4 and 15): those on arrays and lines beside
-- those on words and on objects.
use Rattle.std.specs.Prelude.{◌+◌, ◌-◌, ◌/◌, ◌%◌, ◌&&◌, ℕ, nat_lt, Bool, List, [], ◌∷◌, ◌++◌, take, slice_index}
use Rattle.zcore.specs.declared.instruction.Operand.{Operand}
use Rattle.zcore.specs.declared.instruction.Operand.TheVariants.{Large, Small, Variable}
use Rattle.zcore.specs.declared.instruction.Operation.{Operation}
use Rattle.zcore.specs.declared.instruction.Operation.TheVariants.{Print, Quit, NewLine, PrintNumber, LoadWord}
use Rattle.zcore.specs.declared.instruction.Operation.TheVariants.{LoadByte, StoreWord, StoreByte, Read}
use Rattle.zcore.specs.Instruction.{Instruction}
use Rattle.syntax_trees.specs.declared.tree.Width.{Width}
use Rattle.syntax_trees.specs.declared.tree.Width.TheVariants as widths
use Rattle.meaning.specs.declared.cause.Cause.TheVariants as causes
use Rattle.code_drafts.specs.Items.{Item, Destination}
use Rattle.code_drafts.specs.Items as items
use Rattle.code_drafts.specs.Addresses.{Addresses, Sizes, has_one_word}
use Rattle.code_drafts.specs.Instructions.{plain, giving, number_of, temporary, pull, copy, in_place, most_tested}
use Rattle.code_drafts.specs.Instructions.{aside_variable, result_in}
use Rattle.meaning.specs.Limits.{most_arguments}
use Rattle.code_instructions.specs.Instructions.{move_code, prefix_code, binary_code, step_code, first_equal_code}
use Rattle.code_instructions.specs.Instructions.{also_equal_code, tested_between, character_code, branch_code}
use Rattle.code_instructions.specs.Instructions.{aside_code, case_code, call_code, with_last_aside}
use Rattle.code_instructions.specs.Instructions.{return_code, branch_below, back_limit}
use Rattle.code_instructions.specs.ObjectCode.{at_tested, assigned_takes, assigned_word, passed_on, relative_code}
use Rattle.code_instructions.specs.ObjectCode.{is_in_code, has_code, give_code, remove_code, print_name_code}
use Rattle.code_instructions.specs.ObjectCode.{provides_code, property_code, property_size_code, property_word_code}
use Rattle.code_instructions.specs.ObjectCode.{assign_property_code, assign_property_word_code, move_object_code}
use Rattle.code_instructions.specs.ObjectCode.{jump_by, first_object_code, next_object_code, objects_of}

-- Arrays, of which each has so many bytes

-- how many entries of this width an array of so many bytes has
abbrev pub entries_in : Width → ℕ → ℕ
entries_in widths.Byte size = size
entries_in widths.Word size = size / 2

-- an index is at least 0, as a signed number, and below the number of entries
abbrev pub is_entry : ℕ → ℕ → Bool
is_entry count i = nat_lt i 32768 && nat_lt i count

abbrev pub load_operation : Width → Operation
load_operation widths.Byte = LoadByte
load_operation widths.Word = LoadWord

abbrev pub store_operation : Width → Operation
store_operation widths.Byte = StoreByte
store_operation widths.Word = StoreWord

-- an index in a variable, which is tested: where it is out of range, the fault's text is printed
abbrev pub tested_index : Addresses → ℕ → ℕ → List Instruction
tested_index a count variable = tested_between a causes.IndexOutOfRange 0 count variable

-- what is done at an index of an array of so many entries; a number as index is not tested
abbrev pub at_index : Addresses → ℕ → items.Operand → (Operand → List Instruction) → List Instruction
at_index a count o act = at_tested a causes.IndexOutOfRange 0 count o act

-- an entry of an array of so many bytes, which stands at an address
abbrev pub entry_code : Addresses → Width → ℕ → ℕ → items.Operand → Destination → List Instruction
entry_code a width size place o d = at_index a (entries_in width size) o (λ i.
    giving (load_operation width) (Large place ∷ i ∷ []) (result_in d) ∷ [])

abbrev pub assign_entry_code : Addresses → Width → ℕ → ℕ → items.Operand → items.Operand → Destination
    → List Instruction
assign_entry_code a width size place o q d = assigned_takes q ++ at_index a (entries_in width size) o (λ i.
    plain (store_operation width) (Large place ∷ i ∷ assigned_word q ∷ []) ∷ passed_on d (assigned_word q))

-- the same where the index was put aside
abbrev pub entry_aside_code : Addresses → Width → ℕ → ℕ → Destination → List Instruction
entry_aside_code a width size place d =
    tested_index a (entries_in width size) aside_variable
    ++ giving (load_operation width) (Large place ∷ Variable aside_variable ∷ []) (result_in d) ∷ []

-- and where the last of index and word that is pushed was: the word, or the index
abbrev pub assign_entry_aside_code : Addresses → Width → ℕ → ℕ → items.Operand → items.Operand → Destination
    → List Instruction
assign_entry_aside_code a width size place o items.pushed d =
    at_index a (entries_in width size) o (λ i.
    plain (store_operation width) (Large place ∷ i ∷ Variable aside_variable ∷ [])
    ∷ passed_on d (Variable aside_variable))
assign_entry_aside_code a width size place o q d =
    tested_index a (entries_in width size) aside_variable
    ++ plain (store_operation width) (Large place ∷ Variable aside_variable ∷ in_place q ∷ [])
    ∷ passed_on d (in_place q)

-- Lines

-- byte 0 of the array at an address goes to a temporary
abbrev pub first_byte : ℕ → Instruction
first_byte place = giving LoadByte (Large place ∷ Small 0 ∷ []) (temporary 0)

-- it is from 1 to the most, and else the fault's text is printed
abbrev pub tested_first : Addresses → ℕ → List Instruction
tested_first a most = tested_between a causes.BufferTooSmall 1 (most + 1) (temporary 0)

-- how many letters, and how many words, an array of so many bytes has room for

abbrev pub letters_in : ℕ → ℕ
letters_in size = size - 2

abbrev pub words_in : ℕ → ℕ
words_in size = (size - 2) / 4

-- an array for letters and an array for words: each by its size and its address. Byte 1 of the first is cleared, since
-- `aread` would go on after the letters that stand there (section 15); its result is 13, and goes to a temporary.
abbrev pub line_code : ℕ → ℕ → List Instruction
line_code text parse =
    plain StoreByte (Large text ∷ Small 1 ∷ Small 0 ∷ [])
    ∷ giving Read (Large text ∷ Large parse ∷ []) (temporary 0)
    ∷ []

abbrev pub read_code : Addresses → ℕ → ℕ → ℕ → ℕ → List Instruction
read_code a text_size text parse_size parse =
    first_byte text
    ∷ (tested_first a (letters_in text_size)
    ++ first_byte parse
    ∷ (tested_first a (words_in parse_size) ++ line_code text parse))

-- Items

-- The instructions of an item of a program of these sizes, whose branch or jump has this offset; an accepted program
-- has no array of 65,536 bytes
abbrev pub item_code : Sizes → Addresses → ℕ → Item → List Instruction
item_code sizes a offset (items.move o d) = move_code o d ∷ []
item_code sizes a offset (items.apply_prefix op o d) = prefix_code op o d
item_code sizes a offset (items.operate op x y d) = binary_code a op x y d
item_code sizes a offset (items.operate_aside op x d) = aside_code a op x d
item_code sizes a offset (items.step op x d) = step_code op x d
item_code sizes a offset (items.entry width n o d) =
    entry_code a width (slice_index sizes.arrays n % 65536) (slice_index a.arrays n) o d
item_code sizes a offset (items.entry_aside width n d) =
    entry_aside_code a width (slice_index sizes.arrays n % 65536) (slice_index a.arrays n) d
item_code sizes a offset (items.assign_entry width n o q d) =
    assign_entry_code a width (slice_index sizes.arrays n % 65536) (slice_index a.arrays n) o q d
item_code sizes a offset (items.assign_entry_aside width n o q d) =
    assign_entry_aside_code a width (slice_index sizes.arrays n % 65536) (slice_index a.arrays n) o q d
item_code sizes a offset (items.relative r o d) = relative_code a (objects_of sizes) r o d
item_code sizes a offset (items.property o q d) =
    property_code a (objects_of sizes) (has_one_word sizes (q % 256)) o (q % 256) d
item_code sizes a offset (items.property_size o q d) = property_size_code a (objects_of sizes) o (q % 256) d
item_code sizes a offset (items.property_word q o i d) = property_word_code a (objects_of sizes) (q % 256) o i d
item_code sizes a offset (items.assign_property q o w d) =
    assign_property_code a (objects_of sizes) (has_one_word sizes (q % 256)) (q % 256) o w d
item_code sizes a offset (items.assign_property_word q o i w d) =
    assign_property_word_code a (objects_of sizes) (q % 256) o i w d
item_code sizes a offset (items.give o changes) = give_code a (objects_of sizes) o changes
item_code sizes a offset (items.move_object o into) = move_object_code a (objects_of sizes) o into
item_code sizes a offset (items.remove_object o) = remove_code a (objects_of sizes) o
item_code sizes a offset (items.keep x) = copy (number_of x) ∷ []
item_code sizes a offset items.first_equal = first_equal_code
item_code sizes a offset items.also_equal = also_equal_code
item_code sizes a offset items.drop_below = pull 0 ∷ []
item_code sizes a offset (items.print_text bytes) = plain Print [] ∷ []
item_code sizes a offset (items.print_character o) = character_code a o
item_code sizes a offset (items.print_number o) = plain PrintNumber (in_place o ∷ []) ∷ []
item_code sizes a offset (items.print_name o) = print_name_code a (objects_of sizes) o
item_code sizes a offset items.new_line = plain NewLine [] ∷ []
item_code sizes a offset (items.read_line t q) =
    read_code a (slice_index sizes.arrays t % 65536) (slice_index a.arrays t) (slice_index sizes.arrays q % 65536)
    (slice_index a.arrays q)
item_code sizes a offset items.quit = plain Quit [] ∷ []
item_code sizes a offset (items.branch test os when target) = branch_code test (take most_tested os) when offset
item_code sizes a offset (items.is_in o q when target) = is_in_code a (objects_of sizes) o q when offset
item_code sizes a offset (items.has o n when target) = has_code a (objects_of sizes) o (n % 256) when offset
item_code sizes a offset (items.provides o q when target) = provides_code a (objects_of sizes) o (q % 256) when offset
item_code sizes a offset (items.first_object x target) = first_object_code (objects_of sizes) x offset
item_code sizes a offset (items.next_object x target) = next_object_code (objects_of sizes) x offset
item_code sizes a offset (items.case test ns when target) = case_code test ns when offset
item_code sizes a offset (items.jump target) = jump_by offset ∷ []
item_code sizes a offset (items.back target) = jump_by offset ∷ []
item_code sizes a offset (items.branch_back test os when target) =
    branch_below back_limit test (take most_tested os) when offset
item_code sizes a offset (items.call r os d) = call_code (slice_index a.routines r) (take most_arguments os) d
item_code sizes a offset (items.call_aside r os d) =
    call_code (slice_index a.routines r) (take most_arguments (with_last_aside os)) d
item_code sizes a offset (items.return o) = return_code o ∷ []
