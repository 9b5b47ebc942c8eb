-- Small stories whose runs end by a limit or a fault.
use Rattle.std.proofs.Common.{◌≡◌, [], ◌∷◌, ◌++◌, refl}
use Rattle.std.specs.Prelude.{codes}
use Rattle.ztext.specs.Abbreviations.{encoded_with}
use Rattle.ztext.specs.Text.{decoded, abbreviation, encoded}
use Rattle.ztext.specs.Reading.{reads}
use Rattle.ztext.specs.Words.{packed, unpacked_text}
use Rattle.ztext.specs.Alphabets.{spelling_of}
use Rattle.zcore.specs.declared.place.Place.TheVariants as places
use Rattle.zcore.specs.declared.place.Limit.TheVariants as limits
use Rattle.zcore.specs.Instruction.{decode, opcode, operands, operand, byte, large, result_variable, branch}
use Rattle.zcore.specs.InstructionBytes.{bytes_of}
use Rattle.zcore.specs.Turn.{opening, plays, turn_from, weight}
use Rattle.zcore.specs.Execution.{step, perform, give_result, divide, load, increment, decrement, push_word, pull}
use Rattle.zcore.specs.Execution.{load_word, load_byte, store_word, store_byte, store, jump, call_packed, return_popped}
use Rattle.zcore.specs.Execution.{print_characters, print_inline, print_packed, print_character, text_at}
use Rattle.zcore.specs.Parts.{read_word, read_byte, write_word, write_byte, read_in_place, write_in_place, push, pop}
use Rattle.zcore.specs.Parts.{read_local, write_local, read_global, write_global, read_variable, write_variable}
use Rattle.zcore.specs.Parts.{test_variable, test_pull, operand_value, operand_values, test_result, store_result}
use Rattle.zcore.specs.Parts.{test_target, spend, go, test_routine, test_calls, enter, call, test_return, leave}
use Rattle.zcore.specs.Parts.{give_back, take_branch, branch_on, print}
use Rattle.zcore.specs.Arithmetic.{quotient, decimal, signed_text}
use Rattle.syntax_trees.specs.declared.tree.Binary.TheVariants as binaries
use Rattle.syntax_trees.specs.declared.tree.Equality.TheVariants as equalities
use Rattle.syntax_trees.specs.declared.tree.Prefix.TheVariants as prefixes
use Rattle.syntax_trees.specs.declared.tree.Width.TheVariants as widths
use Rattle.meaning.specs.Resolved as source
use Rattle.meaning.specs.Resolved.{RoutineOf, ProgramOf}
use Rattle.meaning.specs.Meaning.{routine_at, meaning}
use Rattle.code.proofs.Stories.{defaults, objects, story_of, list, local, global, table, sum_of_two, texts}

-- [ Main; f(1); ];  [ f a; return f(a); ];
abbrev calls_itself : ProgramOf
calls_itself = record {
  globals = 0 ∷ [];
  arrays = [];
  defaults = defaults;
  objects = objects;
  keys = [];
  abbreviations = [];
  routines = record {
    locals = 0;
    body = list (source.effect (source.call 1 (source.more (source.number 1) source.none)) ∷ []);
  }
      ∷ record {
        locals = 1;
        body = list (source.return_value (source.call 1 (source.more (local 0) source.none)) ∷ []);
      }
      ∷ [];
  main = 0;
}

means_endless : meaning calls_itself 12 [] ≡ record {
  texts = (10 ∷ codes "[Limit: turn too long]" ++ 10 ∷ []) ∷ [];
  place = places.Limit limits.Fuel;
}
unfolding meaning
means_endless = refl

endless : texts (plays (story_of [] [] (routine_at calls_itself.routines 0) (routine_at calls_itself.routines 1)) 12 [])
    ≡ (10 ∷ codes "[Limit: turn too long]" ++ 10 ∷ []) ∷ []
unfolding bytes_of encoded encoded_with packed spelling_of opening turn_from weight step perform give_result divide
    load increment decrement push_word pull store jump call_packed return_popped print_characters print_inline
    print_packed print_character text_at read_in_place write_in_place push pop read_local write_local read_global
    write_global read_variable write_variable test_variable test_pull operand_value operand_values test_result
    store_result test_target spend go test_routine test_calls enter call test_return leave give_back take_branch
    branch_on print decoded abbreviation reads unpacked_text decode opcode operands operand byte large result_variable
    branch signed_text decimal quotient load_word load_byte store_word store_byte read_word read_byte write_word
    write_byte
endless = refl

-- [ Main; if (g == 3 or 9 && ~~0) print "yes~"; else print "no"; print -5, (char) 5; ];  with 9 in g
abbrev asks : RoutineOf
asks = record {
  locals = 0;
  body = list (
      source.if_else (source.binary binaries.AndAlso
      (source.equal equalities.Equal (global 0)
      (source.more (source.number 3) (source.more (source.number 9) source.none)))
      (source.prefixed prefixes.Not (source.number 0)))
      (source.print (source.text (codes "yes~") ∷ []))
      (source.print (source.text (codes "no") ∷ []))
      ∷ source.print (source.number_of (source.prefixed prefixes.Minus (source.number 5)) ∷ source.character_of
      (source.number 5) ∷ [])
      ∷ []);
}

abbrev asking : ProgramOf
asking = record {
  globals = 9 ∷ [];
  arrays = [];
  defaults = defaults;
  objects = objects;
  keys = [];
  abbreviations = [];
  routines = asks ∷ sum_of_two ∷ [];
  main = 0;
}

means_asked : (meaning asking 100 []).texts ≡ (codes "yes" ++ 34 ∷ codes "-5" ++ 10 ∷ codes "[Fault: not a character]"
    ++ 10 ∷ []) ∷ []
unfolding meaning signed_text decimal
means_asked = refl

asked : texts (plays (story_of (0 ∷ 9 ∷ []) [] asks sum_of_two) 100 [])
    ≡ (codes "yes" ++ 34 ∷ codes "-5" ++ 10 ∷ codes "[Fault: not a character]" ++ 10 ∷ []) ∷ []
unfolding bytes_of encoded encoded_with packed spelling_of opening turn_from weight step perform give_result divide
    load increment decrement push_word pull store jump call_packed return_popped print_characters print_inline
    print_packed print_character text_at read_in_place write_in_place push pop read_local write_local read_global
    write_global read_variable write_variable test_variable test_pull operand_value operand_values test_result
    store_result test_target spend go test_routine test_calls enter call test_return leave give_back take_branch
    branch_on print decoded abbreviation reads unpacked_text decode opcode operands operand byte large result_variable
    branch signed_text decimal quotient load_word load_byte store_word store_byte read_word read_byte write_word
    write_byte
asked = refl

-- [ Main; t-->1 = -2; print t-->1; print t-->g; ];  with 9 in g, and 4 bytes in t
abbrev reaches : RoutineOf
reaches = record {
  locals = 0;
  body = list (
      source.effect (source.assign_entry widths.Word 0 (source.number 1) (source.number 65534))
      ∷ source.print (source.number_of (source.entry widths.Word 0 (source.number 1)) ∷ [])
      ∷ source.print (source.number_of (source.entry widths.Word 0 (global 0)) ∷ [])
      ∷ []);
}

abbrev reaching : ProgramOf
reaching = record {
  globals = 9 ∷ [];
  arrays = table ∷ [];
  defaults = defaults;
  objects = objects;
  keys = [];
  abbreviations = [];
  routines = reaches ∷ sum_of_two ∷ [];
  main = 0;
}

means_reached : (meaning reaching 100 []).texts
    ≡ (codes "-2" ++ 10 ∷ codes "[Fault: index out of range]" ++ 10 ∷ []) ∷ []
unfolding meaning signed_text decimal
means_reached = refl

reached : texts (plays (story_of (0 ∷ 9 ∷ []) table reaches sum_of_two) 100 [])
    ≡ (codes "-2" ++ 10 ∷ codes "[Fault: index out of range]" ++ 10 ∷ []) ∷ []
unfolding bytes_of encoded encoded_with packed spelling_of opening turn_from weight step perform give_result divide
    load increment decrement push_word pull store jump call_packed return_popped print_characters print_inline
    print_packed print_character text_at read_in_place write_in_place push pop read_local write_local read_global
    write_global read_variable write_variable test_variable test_pull operand_value operand_values test_result
    store_result test_target spend go test_routine test_calls enter call test_return leave give_back take_branch
    branch_on print decoded abbreviation reads unpacked_text decode opcode operands operand byte large result_variable
    branch signed_text decimal quotient load_word load_byte store_word store_byte read_word read_byte write_word
    write_byte
reached = refl
