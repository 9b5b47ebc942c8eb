-- Small stories that hold programs, run by the machine.
use Rattle.std.proofs.Common.{◌≡◌, ℕ, List, [], ◌∷◌, ◌++◌, length, take, refl}
use Rattle.std.specs.Prelude.{codes, map, replicate}
use Rattle.std.specs.List.{flat_map}
use Rattle.ztext.specs.Abbreviations.{encoded_with}
use Rattle.ztext.specs.Text.{decoded, abbreviation, encoded}
use Rattle.ztext.specs.Reading.{reads}
use Rattle.ztext.specs.Words.{packed, unpacked_text}
use Rattle.ztext.specs.Alphabets.{spelling_of}
use Rattle.zcore.specs.declared.place.Place.TheVariants as places
use Rattle.zcore.specs.declared.place.Limit.TheVariants as limits
use Rattle.zcore.specs.Instruction.{decode, opcode, operands, operand, byte, large, result_variable, branch}
use Rattle.zcore.specs.InstructionBytes.{bytes_of}
use Rattle.zcore.specs.Turn.{Whole, opening, plays, last_place, turn_from, weight}
use Rattle.zcore.specs.Execution.{step, perform, give_result, divide, load, increment, decrement, push_word, pull}
use Rattle.zcore.specs.Execution.{load_word, load_byte, store_word, store_byte, store, jump, call_packed, return_popped}
use Rattle.zcore.specs.Execution.{print_characters, print_inline, print_packed, print_character, text_at}
use Rattle.zcore.specs.Parts.{read_word, read_byte, write_word, write_byte, read_in_place, write_in_place, push, pop}
use Rattle.zcore.specs.Parts.{read_local, write_local, read_global, write_global, read_variable, write_variable}
use Rattle.zcore.specs.Parts.{test_variable, test_pull, operand_value, operand_values, test_result, store_result}
use Rattle.zcore.specs.Parts.{test_target, spend, go, test_routine, test_calls, enter, call, test_return, leave}
use Rattle.zcore.specs.Parts.{give_back, take_branch, branch_on, print}
use Rattle.zcore.specs.Arithmetic.{quotient, decimal, signed_text}
use Rattle.tables.specs.Dictionary.{dictionary_bytes}
use Rattle.syntax_trees.specs.declared.tree.Binary.TheVariants as binaries
use Rattle.syntax_trees.specs.declared.tree.Comparison.TheVariants as comparisons
use Rattle.syntax_trees.specs.declared.tree.Step.TheVariants as steps
use Rattle.syntax_trees.specs.declared.tree.Width.TheVariants as widths
use Rattle.meaning.specs.declared.cause.Cause.{Cause}
use Rattle.meaning.specs.World.{words_of}
use Rattle.meaning.specs.declared.resolved.Variable.TheVariants as variables
use Rattle.meaning.specs.Objects.{ObjectOf}
use Rattle.meaning.specs.Resolved as source
use Rattle.meaning.specs.Resolved.{Action, Actions, RoutineOf, ProgramOf}
use Rattle.meaning.specs.Views.{actions_of}
use Rattle.meaning.specs.Meaning.{meaning}
use Rattle.code_items.specs.Statements.{routine_items}
use Rattle.code.specs.Rows.{rows_of, rows_bytes}
use Rattle.code_drafts.specs.Addresses.{Addresses, Sizes, all_causes}
use Rattle.code.specs.Bytes.{code_bytes}
use Rattle.code.specs.HeldProgram.{start_code, fault_line, singles_of}

-- so many bytes, of which the first are these
abbrev slot : ℕ → List ℕ → List ℕ
slot size bytes = take size (bytes ++ replicate size 0)

abbrev routine_bytes : Sizes → Addresses → RoutineOf → List ℕ
routine_bytes sizes a r = r.locals ∷ code_bytes sizes a (routine_items r)

-- Version 5; the table of abbreviations at 64, globals at 256, an array at 736, objects at 740, static memory from 909
-- on, which begins with the dictionary, texts of faults from 928 on, code from 1440 on, Main at 1448, another routine
-- at 1608.
abbrev pub a : Addresses
a = record {
  routines = 362 ∷ 402 ∷ [];
  arrays = 736 ∷ [];
  faults = 232 ∷ 248 ∷ 264 ∷ 280 ∷ 296 ∷ 312 ∷ 328 ∷ 344 ∷ [];
}

abbrev pub defaults : List ℕ
defaults = replicate 63 0

-- Object box "box" with number 7, has flag; Object -> ball "ball";  where `number` is property 5 and `flag` attribute 3
abbrev pub box : ObjectOf
box = record { parent = 0; name = codes "box"; attributes = 3 ∷ []; properties = (5, 7 ∷ []) ∷ [] }

abbrev pub ball : ObjectOf
ball = record { parent = 1; name = codes "ball"; attributes = []; properties = [] }

abbrev pub objects : List ObjectOf
objects = box ∷ ball ∷ []

abbrev head : List ℕ
head = slot 64 (5 ∷ 0 ∷ 0 ∷ 1 ∷ 5 ∷ 0xA0 ∷ 5 ∷ 0xA0 ∷ 3 ∷ 0x8D ∷ 2 ∷ 0xE4 ∷ 1 ∷ 0 ∷ 3 ∷ 0x8D ∷ 0 ∷ 0 ∷ 0 ∷ 0 ∷ 0 ∷ 0 ∷ 0
    ∷ 0 ∷ 0 ∷ 0x40 ∷ [])

-- the text of a fault
abbrev line_slot : Cause → List ℕ
line_slot cause = slot 64 (encoded (fault_line (words_of cause)))

abbrev sizes_with : List ℕ → Sizes
sizes_with array = record {
  arrays = length array ∷ [];
  objects = 2;
  abbreviations = [];
  singles = singles_of objects;
}

abbrev pub story_of : List ℕ → List ℕ → RoutineOf → RoutineOf → List ℕ
story_of globals array main other =
    head ++ (replicate 192 0
    ++ (slot 480 globals
    ++ (slot 4 array
    ++ (slot 169 (rows_bytes (rows_of objects) defaults 740)
    ++ (slot 19 (dictionary_bytes [])
    ++ (flat_map line_slot all_causes
    ++ (slot 8 (start_code 362)
    ++ (slot 160 (routine_bytes (sizes_with array) a main)
    ++ (slot 160 (routine_bytes (sizes_with array) a other) ++ 0 ∷ [])))))))))

abbrev pub list : List Action → Actions
list xs = actions_of xs

abbrev pub local : ℕ → source.Value
local i = source.read (variables.Local i)

abbrev pub global : ℕ → source.Value
global g = source.read (variables.Global g)

abbrev pub greeting : List source.Printed
greeting =
    source.text (codes "Hi^") ∷ source.number_of
    (source.call 1 (source.more (source.number 20) (source.more (source.number 22) source.none)))
    ∷ source.character_of (source.number 65) ∷ []

abbrev pub count_down : List source.Printed
count_down = source.number_of (source.entry widths.Byte 0 (global 0)) ∷ []

abbrev pub quotient_of_seven : List source.Printed
quotient_of_seven = source.number_of (source.binary binaries.Divide (source.number 7) (global 0)) ∷ []

-- the bytes of the array t
abbrev pub table : List ℕ
table = 0 ∷ 1 ∷ 2 ∷ 0 ∷ []

-- [ Main; print "Hi^", f(20, 22), (char) 65; g = 3; t->g = g; while (g > 0) { print t->g; g--; } print 7 / g; ];
-- [ f a b; return a + b; ];
abbrev pub main : RoutineOf
main = record {
  locals = 0;
  body = list (
      source.print greeting
      ∷ source.effect (source.assign (variables.Global 0) (source.number 3))
      ∷ source.effect (source.assign_entry widths.Byte 0 (global 0) (global 0))
      ∷ source.while_do (source.compare comparisons.Greater (global 0) (source.number 0)) (source.block (list (
      source.print count_down
      ∷ source.effect (source.step_after (variables.Global 0) steps.Decrement)
      ∷ [])))
      ∷ source.print quotient_of_seven
      ∷ []);
}

abbrev pub sum_of_two : RoutineOf
sum_of_two = record {
  locals = 2;
  body = list (source.return_value (source.binary binaries.Add (local 0) (local 1)) ∷ []);
}

abbrev pub program : ProgramOf
program = record {
  globals = 9 ∷ [];
  arrays = table ∷ [];
  defaults = defaults;
  objects = objects;
  keys = [];
  abbreviations = [];
  routines = main ∷ sum_of_two ∷ [];
  main = 0;
}

abbrev pub story : List ℕ
story = story_of (0 ∷ 9 ∷ []) table main sum_of_two

abbrev pub texts : List Whole → List (List ℕ)
texts wholes = map (λ (w : Whole). w.text) wholes

means : (meaning program 1000 []).texts ≡ (codes "Hi" ++ 10 ∷ codes "42A321" ++ 10 ∷ codes "[Fault: division by zero]"
    ++ 10 ∷ []) ∷ []
unfolding meaning signed_text decimal
means = refl

played : texts (plays story 1000 []) ≡ (codes "Hi" ++ 10 ∷ codes "42A321" ++ 10 ∷ codes "[Fault: division by zero]"
    ++ 10 ∷ []) ∷ []
unfolding bytes_of encoded encoded_with packed spelling_of opening turn_from weight step perform give_result divide
    load increment decrement push_word pull store jump call_packed return_popped print_characters print_inline
    print_packed print_character text_at read_in_place write_in_place push pop read_local write_local read_global
    write_global read_variable write_variable test_variable test_pull operand_value operand_values test_result
    store_result test_target spend go test_routine test_calls enter call test_return leave give_back take_branch
    branch_on print decoded abbreviation reads unpacked_text decode opcode operands operand byte large result_variable
    branch signed_text decimal quotient load_word load_byte store_word store_byte read_word read_byte write_word
    write_byte
played = refl

ends : last_place (plays story 1000 []) ≡ places.Quit
unfolding bytes_of encoded encoded_with packed spelling_of opening turn_from weight step perform give_result divide
    load increment decrement push_word pull store jump call_packed return_popped print_characters print_inline
    print_packed print_character text_at read_in_place write_in_place push pop read_local write_local read_global
    write_global read_variable write_variable test_variable test_pull operand_value operand_values test_result
    store_result test_target spend go test_routine test_calls enter call test_return leave give_back take_branch
    branch_on print decoded abbreviation reads unpacked_text decode opcode operands operand byte large result_variable
    branch signed_text decimal quotient load_word load_byte store_word store_byte read_word read_byte write_word
    write_byte
ends = refl

-- with 4 units the call of Main, that of the other routine and two rounds of the loop are paid, and no third
means_stopped : meaning program 4 [] ≡ record {
  texts = (codes "Hi" ++ 10 ∷ codes "42A321" ++ 10 ∷ codes "[Limit: turn too long]" ++ 10 ∷ []) ∷ [];
  place = places.Limit limits.Fuel;
}
unfolding meaning signed_text decimal
means_stopped = refl

stopped : texts (plays story 4 []) ≡ (codes "Hi" ++ 10 ∷ codes "42A321" ++ 10 ∷ codes "[Limit: turn too long]"
    ++ 10 ∷ []) ∷ []
unfolding bytes_of encoded encoded_with packed spelling_of opening turn_from weight step perform give_result divide
    load increment decrement push_word pull store jump call_packed return_popped print_characters print_inline
    print_packed print_character text_at read_in_place write_in_place push pop read_local write_local read_global
    write_global read_variable write_variable test_variable test_pull operand_value operand_values test_result
    store_result test_target spend go test_routine test_calls enter call test_return leave give_back take_branch
    branch_on print decoded abbreviation reads unpacked_text decode opcode operands operand byte large result_variable
    branch signed_text decimal quotient load_word load_byte store_word store_byte read_word read_byte write_word
    write_byte
stopped = refl
