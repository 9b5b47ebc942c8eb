-- Small stories that hold programs on objects, run by the machine.
use Rattle.std.proofs.Common.{◌≡◌, [], ◌∷◌, ◌++◌, refl}
use Rattle.std.specs.Prelude.{codes}
use Rattle.ztext.specs.Abbreviations.{encoded_with}
use Rattle.ztext.specs.Text.{decoded, abbreviation, encoded}
use Rattle.ztext.specs.Reading.{reads}
use Rattle.ztext.specs.Words.{packed, unpacked_text}
use Rattle.ztext.specs.Alphabets.{spelling_of}
use Rattle.zcore.specs.Instruction.{decode, opcode, operands, operand, byte, large, result_variable, branch}
use Rattle.zcore.specs.InstructionBytes.{bytes_of}
use Rattle.zcore.specs.Entries.{named_from}
use Rattle.zcore.specs.Properties.{found_in}
use Rattle.zcore.specs.Turn.{opening, plays, turn_from, weight}
use Rattle.zcore.specs.Effects.{print_address}
use Rattle.zcore.specs.Execution.{step, perform, give_result, divide, load, increment, decrement, push_word, pull}
use Rattle.zcore.specs.Execution.{load_word, store_word, store, jump, call_packed, print_characters, print_packed}
use Rattle.zcore.specs.Execution.{text_at}
use Rattle.zcore.specs.Parts.{read_word, read_byte, write_word, write_byte, test_branch, test_taken, read_in_place}
use Rattle.zcore.specs.Parts.{write_in_place, push, pop, read_local, write_local, read_global, write_global}
use Rattle.zcore.specs.Parts.{read_variable, write_variable, test_variable, test_pull, operand_value, operand_values}
use Rattle.zcore.specs.Parts.{test_result, store_result, test_target, spend, go, test_routine, test_calls, enter, call}
use Rattle.zcore.specs.Parts.{test_return, leave, give_back, take_branch, branch_on, print}
use Rattle.zcore.specs.Objects.{test_object, test_attribute_number, read_attributes, write_attributes}
use Rattle.zcore.specs.Objects.{tested_attributes, test_attribute, set_attribute, clear_attribute, read_link}
use Rattle.zcore.specs.Objects.{write_link, jump_if_in, get_parent, give_object, get_sibling, get_child, test_link}
use Rattle.zcore.specs.Objects.{test_removal, unlink, link_first, remove_object, insert_object, property_table}
use Rattle.zcore.specs.Objects.{print_object}
use Rattle.zcore.specs.ObjectProperties.{test_property_number, property_list, property_at, search_list, find_property}
use Rattle.zcore.specs.ObjectProperties.{tested_property, property_value, get_property, get_property_address}
use Rattle.zcore.specs.ObjectProperties.{property_length, get_property_length}
use Rattle.zcore.specs.Arithmetic.{quotient, decimal, signed_text}
use Rattle.syntax_trees.specs.declared.tree.Relative.TheVariants as relatives
use Rattle.meaning.specs.Resolved as source
use Rattle.meaning.specs.Resolved.{RoutineOf, ProgramOf}
use Rattle.meaning.specs.Meaning.{meaning}
use Rattle.code.proofs.Stories.{list, texts, story_of, sum_of_two, defaults, objects}

-- [ Main; print (name) ball, parent(ball), box.number; move box to ball; ];
abbrev moves : RoutineOf
moves = record {
  locals = 0;
  body = list (
      source.print (source.name_of (source.number 2)
      ∷ source.number_of (source.relative relatives.Parent (source.number 2))
      ∷ source.number_of (source.property (source.number 1) 5)
      ∷ [])
      ∷ source.move_to (source.number 1) (source.number 2)
      ∷ []);
}

abbrev moving : ProgramOf
moving = record {
  globals = 0 ∷ [];
  arrays = [];
  defaults = defaults;
  objects = objects;
  keys = [];
  abbreviations = [];
  routines = moves ∷ sum_of_two ∷ [];
  main = 0;
}

means_moved : (meaning moving 100 []).texts
    ≡ (codes "ball17" ++ 10 ∷ codes "[Fault: object inside itself]" ++ 10 ∷ []) ∷ []
unfolding meaning signed_text decimal
means_moved = refl

moved : texts (plays (story_of [] [] moves sum_of_two) 100 [])
    ≡ (codes "ball17" ++ 10 ∷ codes "[Fault: object inside itself]" ++ 10 ∷ []) ∷ []
unfolding bytes_of encoded encoded_with packed spelling_of opening turn_from weight step perform give_result divide
    load increment decrement push_word pull store jump call_packed print_characters print_packed text_at print_address
    read_in_place write_in_place push pop read_local write_local read_global write_global
    read_variable write_variable test_variable test_pull operand_value operand_values test_result store_result
    test_target spend go test_routine test_calls enter call test_return leave give_back take_branch branch_on print
    decoded abbreviation reads unpacked_text decode opcode operands operand byte large result_variable branch
    signed_text decimal quotient load_word store_word read_word read_byte write_word write_byte test_branch test_taken
    named_from test_object test_attribute_number read_attributes write_attributes tested_attributes test_attribute
    set_attribute clear_attribute read_link write_link jump_if_in get_parent give_object get_sibling get_child
    test_link test_removal unlink link_first remove_object insert_object property_table print_object
    test_property_number property_list property_at search_list find_property tested_property property_value
    get_property get_property_address property_length get_property_length found_in
moved = refl
