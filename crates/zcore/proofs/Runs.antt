-- The definitions of the machine, computed at arrays, calls and texts.
use Rattle.std.proofs.Common.{◌≡◌, ℕ, [], ◌∷◌, ◌++◌, Some, None, true, refl}
use Rattle.std.specs.Prelude.{codes, replicate, option_map}
use Rattle.zcore.specs.declared.place.Fault.TheVariants as faults
use Rattle.zcore.specs.declared.place.Place.TheVariants as places
use Rattle.zcore.specs.Instruction.{decode, opcode, operands, operand, byte, large, result_variable, branch}
use Rattle.zcore.specs.State.{State, done, halt}
use Rattle.zcore.specs.Turn.{first_state, opening, turn_from, weight}
use Rattle.zcore.specs.Execution.{step, perform, give_result, store, load_word, load_byte, store_word, call_packed}
use Rattle.zcore.specs.Execution.{check_argument_count, print_characters, print_address, text_at}
use Rattle.zcore.specs.Parts.{write_in_place, read_byte, read_word, write_word, read_local, read_global, write_global}
use Rattle.zcore.specs.Parts.{read_variable, write_variable, test_variable, operand_value, operand_values}
use Rattle.zcore.specs.Parts.{test_result, store_result, test_target, spend, go, test_routine, test_calls, enter}
use Rattle.zcore.specs.Parts.{call, test_return, leave, give_back, take_branch, branch_on, print}
use Rattle.ztext.specs.Text.{decoded, abbreviation}
use Rattle.ztext.specs.Reading.{reads}
use Rattle.ztext.specs.Words.{unpacked_text}
use Rattle.zcore.specs.Arithmetic.{decimal, signed_text}
use Rattle.zcore.proofs.SmallRuns.{story_of, shown, frame_with, one_top, at}

-- Arrays

-- storew, loadw and loadb at word 2 and byte 5 of an array at 600
words_and_bytes : option_map shown
    (opening
    (story_of
    (0xE1 ∷ 0x13 ∷ 0x02 ∷ 0x58 ∷ 0x02 ∷ 0x12 ∷ 0x34 ∷ 0xCF ∷ 0x1F ∷ 0x02 ∷ 0x58 ∷ 0x02 ∷ 0x10 ∷ 0xD0 ∷ 0x1F ∷ 0x02
    ∷ 0x58 ∷ 0x05 ∷ 0x11 ∷ 0xE6 ∷ 0xBF ∷ 0x10 ∷ 0xE6 ∷ 0xBF ∷ 0x11 ∷ 0xBA ∷ [])) 1000000)
    ≡ Some (places.Quit, codes "466052")
unfolding opening turn_from weight step perform decode opcode operands operand byte large result_variable branch
    operand_values operand_value store_word write_word load_word read_word load_byte read_byte give_result
    test_result store_result write_variable write_global read_variable read_global print_characters print signed_text
    decimal
words_and_bytes = refl

-- loadw and loadb at sums modulo 65,536: global 16, of which byte 65 is the low one
loaded_beyond_the_end : option_map shown
    (opening
    (story_of
    (0x0D ∷ 0x10 ∷ 0x07 ∷ 0xCF ∷ 0x1F ∷ 0xFF ∷ 0xFE ∷ 0x21 ∷ 0x11 ∷ 0xD0 ∷ 0x1F ∷ 0xFF ∷ 0xFF ∷ 0x42 ∷ 0x12 ∷ 0xE6
    ∷ 0xBF ∷ 0x11 ∷ 0xE6 ∷ 0xBF ∷ 0x12 ∷ 0xBA ∷ [])) 1000000) ≡ Some (places.Quit, codes "77")
unfolding opening turn_from weight step perform decode opcode operands operand byte large result_variable branch
    operand_values operand_value store test_variable write_in_place load_word read_word load_byte read_byte
    give_result test_result store_result write_variable write_global read_variable read_global print_characters print
    signed_text decimal
loaded_beyond_the_end = refl

-- loadw of a word whose second byte lies past the story, which has 685 bytes
word_past_the_story : option_map shown
    (opening (story_of (0xCF ∷ 0x1F ∷ 0x02 ∷ 0xAC ∷ 0x00 ∷ 0x10 ∷ 0xBA ∷ [])) 1000000)
    ≡ Some (places.Fault faults.Read, 10 ∷ codes "[Machine fault: M3]" ++ 10 ∷ [])
unfolding opening turn_from weight step perform decode opcode operands operand byte large result_variable branch
    operand_values operand_value load_word read_word give_result test_result store_result write_variable write_global
    decimal
word_past_the_story = refl

-- loadb past the story
byte_past_the_story : option_map shown (opening (story_of (0xD0 ∷ 0x1F ∷ 0xFF ∷ 0xFF ∷ 0x00 ∷ 0x10 ∷ [])) 1000000)
    ≡ Some (places.Fault faults.Read, 10 ∷ codes "[Machine fault: M3]" ++ 10 ∷ [])
unfolding opening turn_from weight step perform decode opcode operands operand byte large result_variable branch
    operand_values operand_value load_byte read_byte decimal
byte_past_the_story = refl

-- storew in the header, with its first byte alone
word_in_the_header : option_map shown
    (opening (story_of (0xE1 ∷ 0x13 ∷ 0x00 ∷ 0x3F ∷ 0x00 ∷ 0x00 ∷ 0x01 ∷ [])) 1000000)
    ≡ Some (places.Fault faults.Write, 10 ∷ codes "[Machine fault: M4]" ++ 10 ∷ [])
unfolding opening turn_from weight step perform decode opcode operands operand byte large result_variable branch
    operand_values operand_value store_word write_word decimal
word_in_the_header = refl

-- storew of a word whose second byte lies at static base
word_across_static_base : option_map shown
    (opening (story_of (0xE1 ∷ 0x13 ∷ 0x02 ∷ 0x9D ∷ 0x00 ∷ 0x00 ∷ 0x01 ∷ [])) 1000000)
    ≡ Some (places.Fault faults.Write, 10 ∷ codes "[Machine fault: M4]" ++ 10 ∷ [])
unfolding opening turn_from weight step perform decode opcode operands operand byte large result_variable branch
    operand_values operand_value store_word write_word decimal
word_across_static_base = refl

-- storew takes three operands
storew_of_two_operands : option_map shown (opening (story_of (0xE1 ∷ 0x5F ∷ 0x01 ∷ 0x01 ∷ 0xBA ∷ [])) 1000000)
    ≡ Some (places.Fault faults.Opcode, 10 ∷ codes "[Machine fault: M1]" ++ 10 ∷ [])
unfolding opening turn_from weight step perform decode opcode operands operand byte large result_variable branch
    operand_values operand_value decimal
storew_of_two_operands = refl

-- a write of a word that is refused writes nothing
nothing_written : store_word (at 700) 706 669 0 0x1234 (first_state (story_of []))
    ≡ halt (places.Fault faults.Write) (first_state (story_of []))
unfolding store_word write_word
nothing_written = refl

-- a sum modulo 65,536 that lies in the header
header_not_written : store_word (at 700) 706 65535 1 0x1234 (first_state (story_of []))
    ≡ halt (places.Fault faults.Write) (first_state (story_of []))
unfolding store_word write_word
header_not_written = refl

-- in a call with so many arguments, with 100 bytes of memory
abbrev in_call : ℕ → State
in_call count = record {
  memory = replicate 100 0;
  frames = record { locals = []; stack = []; arguments = count; return_address = 99; result = None } ∷ frame_with []
      ∷ [];
  pending = None;
  text = [];
}

-- Calls with one argument or none, and what check_arg_count tells of them

-- call_2s of a routine that returns its argument
called_with_one : option_map shown
    (opening
    (story_of
    (0xD9 ∷ 0x1F ∷ 0x00 ∷ 0xAE ∷ 0x07 ∷ 0x10 ∷ 0xE6 ∷ 0xBF ∷ 0x10 ∷ 0xBA ∷ 0x00 ∷ 0x00 ∷ 0x00 ∷ 0x00 ∷ 0x00 ∷ 0x00
    ∷ 0x00 ∷ 0x00 ∷ 0x00 ∷ 0x01 ∷ 0xAB ∷ 0x01 ∷ [])) 1000000) ≡ Some (places.Quit, codes "7")
unfolding opening turn_from weight step perform decode opcode operands operand byte large result_variable branch
    operand_values operand_value call_packed call test_routine test_calls spend enter give_back test_return leave
    store_result write_variable write_global read_local read_variable read_global print_characters print signed_text
    decimal
called_with_one = refl

-- a routine without locals, which tells whether the call gave an argument: call_2s, and call_1s
arguments_counted : option_map shown
    (opening
    (story_of
    (0xD9 ∷ 0x1F ∷ 0x00 ∷ 0xAE ∷ 0x07 ∷ 0x10 ∷ 0x88 ∷ 0x00 ∷ 0xAE ∷ 0x11 ∷ 0xE6 ∷ 0xBF ∷ 0x10 ∷ 0xE6 ∷ 0xBF ∷ 0x11
    ∷ 0xBA ∷ 0x00 ∷ 0x00 ∷ 0x00 ∷ 0xFF ∷ 0x7F ∷ 0x01 ∷ 0xC1 ∷ 0xB1 ∷ [])) 1000000) ≡ Some (places.Quit, codes "10")
unfolding opening turn_from weight step perform decode opcode operands operand byte large result_variable branch
    operand_values operand_value call_packed call test_routine test_calls spend enter give_back test_return leave
    store_result write_variable write_global check_argument_count branch_on take_branch read_variable read_global
    print_characters print signed_text decimal
arguments_counted = refl

-- call_2n of a routine that prints its argument
result_thrown_away : option_map shown
    (opening
    (story_of
    (0xDA ∷ 0x1F ∷ 0x00 ∷ 0xAE ∷ 0x07 ∷ 0xBA ∷ 0x00 ∷ 0x00 ∷ 0x00 ∷ 0x00 ∷ 0x00 ∷ 0x00 ∷ 0x00 ∷ 0x00 ∷ 0x00 ∷ 0x00
    ∷ 0x00 ∷ 0x00 ∷ 0x00 ∷ 0x01 ∷ 0xE6 ∷ 0xBF ∷ 0x01 ∷ 0xB0 ∷ [])) 1000000) ≡ Some (places.Quit, codes "7")
unfolding opening turn_from weight step perform decode opcode operands operand byte large result_variable branch
    operand_values operand_value call_packed call test_routine test_calls spend enter give_back test_return leave
    store_result write_variable write_global read_local read_variable read_global print_characters print signed_text
    decimal
result_thrown_away = refl

-- call_1s of a routine past the story
call_past_the_story : option_map shown (opening (story_of (0x88 ∷ 0xFF ∷ 0xFF ∷ 0x10 ∷ 0xBA ∷ [])) 1000000)
    ≡ Some (places.Fault faults.Code, 10 ∷ codes "[Machine fault: M2]" ++ 10 ∷ [])
unfolding opening turn_from weight step perform decode opcode operands operand byte large result_variable branch
    operand_values operand_value call_packed call test_routine decimal
call_past_the_story = refl

-- call_2s takes two operands
call_of_three : option_map shown (opening (story_of (0xD9 ∷ 0x57 ∷ 0x01 ∷ 0x01 ∷ 0x01 ∷ 0x10 ∷ 0xBA ∷ [])) 1000000)
    ≡ Some (places.Fault faults.Opcode, 10 ∷ codes "[Machine fault: M1]" ++ 10 ∷ [])
unfolding opening turn_from weight step perform decode opcode operands operand byte large result_variable branch
    operand_values operand_value decimal
call_of_three = refl

-- no call gives argument 0, and the first environment has none
argument_zero : check_argument_count (at 70) 80 (Some (record { when = true; offset = 10 })) 0 (in_call 2)
    ≡ done (at 80) (in_call 2)
unfolding check_argument_count branch_on
argument_zero = refl

last_argument : check_argument_count (at 70) 80 (Some (record { when = true; offset = 10 })) 2 (in_call 2)
    ≡ done (at 88) (in_call 2)
unfolding check_argument_count branch_on take_branch test_target go
last_argument = refl

no_third_argument : check_argument_count (at 70) 80 (Some (record { when = true; offset = 10 })) 3 (in_call 2)
    ≡ done (at 80) (in_call 2)
unfolding check_argument_count branch_on
no_third_argument = refl

none_in_the_first_environment : check_argument_count (at 70) 80 (Some (record { when = true; offset = 10 })) 1
    (one_top 5) ≡ done (at 80) (one_top 5)
unfolding check_argument_count branch_on
none_in_the_first_environment = refl

-- print_addr and nop

-- print_addr of the text behind the code, at 681
printed_at_an_address : option_map shown
    (opening (story_of (0x87 ∷ 0x02 ∷ 0xA9 ∷ 0xBA ∷ 0x35 ∷ 0x51 ∷ 0xC6 ∷ 0x85 ∷ [])) 1000000)
    ≡ Some (places.Quit, codes "hello")
unfolding opening turn_from weight step perform decode opcode operands operand byte large result_variable branch
    operand_values operand_value print_address print_characters text_at decoded abbreviation reads unpacked_text print
printed_at_an_address = refl

-- print_addr past the story
text_past_the_story : option_map shown (opening (story_of (0x87 ∷ 0xFF ∷ 0xFF ∷ 0xBA ∷ [])) 1000000)
    ≡ Some (places.Fault faults.Read, 10 ∷ codes "[Machine fault: M3]" ++ 10 ∷ [])
unfolding opening turn_from weight step perform decode opcode operands operand byte large result_variable branch
    operand_values operand_value print_address text_at decoded unpacked_text decimal
text_past_the_story = refl

-- nop, twice
nothing_done : option_map shown (opening (story_of (0xB4 ∷ 0xB4 ∷ 0xBA ∷ [])) 1000000) ≡ Some (places.Quit, [])
unfolding opening turn_from weight step perform decode opcode operands operand byte large result_variable branch
    operand_values operand_value
nothing_done = refl
