-- The definitions of the machine, computed at a small story of 684 bytes and at single instructions.
use Rattle.std.proofs.Common.{◌≡◌, ℕ, List, [], ◌∷◌, ◌++◌, Some, None, Ok, Err, true, refl}
use Rattle.std.specs.Prelude.{codes, replicate, option_map}
use Rattle.zcore.specs.declared.place.Fault.TheVariants as faults
use Rattle.zcore.specs.declared.place.Limit.TheVariants as limits
use Rattle.zcore.specs.declared.place.Place.{Place}
use Rattle.zcore.specs.declared.place.Place.TheVariants as places
use Rattle.zcore.specs.declared.instruction.Operation.TheVariants.{JumpIfEqual, Add, Div, Mod, Jump, Call1n}
use Rattle.zcore.specs.declared.instruction.Operation.TheVariants.{PrintNumber}
use Rattle.zcore.specs.declared.instruction.Operand.TheVariants.{Large, Small, Variable}
use Rattle.zcore.specs.declared.next.Next.{Next}
use Rattle.zcore.specs.Instruction.{decode, opcode, operands, operand, byte, large, result_variable, branch}
use Rattle.zcore.specs.Instruction.{variable_types}
use Rattle.zcore.specs.InstructionBytes.{bytes_of, types_bytes}
use Rattle.zcore.specs.State.{Frame, State, done, halt}
use Rattle.zcore.specs.Turn.{Whole, first_state, opening, turn_from, weight}
use Rattle.zcore.specs.Execution.{step, perform, give_result, divide, modulo, load, store, increment, decrement, pull}
use Rattle.zcore.specs.Execution.{jump, call_packed, print_characters, print_inline, text_at}
use Rattle.zcore.specs.Parts.{read_in_place, write_in_place, push, pop, read_global, write_global, read_variable}
use Rattle.zcore.specs.Parts.{write_variable, test_variable, test_pull, operand_value, operand_values, test_result}
use Rattle.zcore.specs.Parts.{store_result, test_target, spend, go, test_return, give_back, print}
use Rattle.ztext.specs.Text.{decoded, abbreviation}
use Rattle.ztext.specs.Reading.{reads}
use Rattle.ztext.specs.Words.{unpacked_text}
use Rattle.zcore.specs.Arithmetic.{remainder, decimal, signed_text}

-- Version 5; globals at 64, defaults at 544, the dictionary at 670, code from 677 on.
abbrev pub story_of : List ℕ → List ℕ
story_of code =
    (5 ∷ 0 ∷ 0 ∷ 1 ∷ 2 ∷ 0xA5 ∷ 2 ∷ 0xA5 ∷ 2 ∷ 0x9E ∷ 2 ∷ 0x20 ∷ 0 ∷ 0x40 ∷ 2 ∷ 0x9E ∷ 0 ∷ 0 ∷ [])
    ++ replicate 6 48 ++ (0 ∷ 0 ∷ 0 ∷ 0xAB ∷ 3 ∷ 0xC5 ∷ []) ++ replicate 640 0
    ++ (3 ∷ 0x2E ∷ 0x2C ∷ 0x22 ∷ 9 ∷ 0 ∷ 0 ∷ [])
    ++ code ++ 0 ∷ []

abbrev pub shown : Whole → Place × List ℕ
shown whole = (whole.place, whole.text)

hello : option_map shown (opening (story_of (0xB2 ∷ 0x35 ∷ 0x51 ∷ 0xC6 ∷ 0x85 ∷ 0xBA ∷ [])) 1000000)
    ≡ Some (places.Quit, codes "hello")
unfolding opening turn_from weight step perform print_inline text_at decoded abbreviation reads unpacked_text decode
    opcode operands operand byte large result_variable branch print operand_values
hello = refl

remainder_printed : option_map shown
    (opening (story_of (0xD8 ∷ 0x1F ∷ 0xFF ∷ 0xF3 ∷ 0x05 ∷ 0x00 ∷ 0xE6 ∷ 0xBF ∷ 0x00 ∷ 0xBA ∷ [])) 1000000)
    ≡ Some (places.Quit, codes "-3")
unfolding opening turn_from weight step perform modulo print_characters decode opcode operands operand byte large
    result_variable branch print operand_values operand_value test_result store_result write_variable read_variable
    push pop remainder signed_text decimal
remainder_printed = refl

sum_printed : option_map shown
    (opening (story_of (0x54 ∷ 0x10 ∷ 0x05 ∷ 0x11 ∷ 0xE6 ∷ 0xBF ∷ 0x11 ∷ 0xBA ∷ [])) 1000000)
    ≡ Some (places.Quit, codes "5")
unfolding opening turn_from weight step perform give_result print_characters decode opcode operands operand byte
    large result_variable branch print operand_values operand_value test_result store_result write_variable
    write_global read_variable read_global signed_text decimal
sum_printed = refl

endless_jump : option_map shown (opening (story_of (0x8C ∷ 0xFF ∷ 0xFF ∷ [])) 3)
    ≡ Some (places.Limit limits.Fuel, 10 ∷ codes "[Limit: turn too long]" ++ 10 ∷ [])
unfolding opening turn_from weight step perform jump decode opcode operands operand byte large result_variable branch
    operand_values operand_value test_target go spend
endless_jump = refl

divided_by_zero : option_map shown (opening (story_of (0x57 ∷ 0x10 ∷ 0x00 ∷ 0x11 ∷ [])) 1000000)
    ≡ Some (places.Fault faults.Division, 10 ∷ codes "[Machine fault: M7]" ++ 10 ∷ [])
unfolding opening turn_from weight step perform divide decode opcode operands operand byte large result_variable
    branch operand_values operand_value read_variable read_global decimal
divided_by_zero = refl

returned_from_first : option_map shown (opening (story_of (0xB0 ∷ [])) 1000000)
    ≡ Some (places.Fault faults.Return, 10 ∷ codes "[Machine fault: M11]" ++ 10 ∷ [])
unfolding opening turn_from weight step perform give_back test_return decode opcode operands operand byte large
    result_variable branch operand_values decimal
returned_from_first = refl

extended : option_map shown (opening (story_of (0xBE ∷ 0x00 ∷ [])) 1000000)
    ≡ Some (places.Fault faults.Opcode, 10 ∷ codes "[Machine fault: M1]" ++ 10 ∷ [])
unfolding opening turn_from weight step decode opcode byte decimal
extended = refl

-- an instruction below 64 is none, and at 64 it is one
code_in_header : step (record { program_counter = 63; fuel = 5 }) (first_state (replicate 63 0 ++ 0xBA ∷ 0xBA ∷ []))
    ≡ halt (places.Fault faults.Code) (first_state (replicate 63 0 ++ 0xBA ∷ 0xBA ∷ []))
unfolding step
code_in_header = refl

code_behind_header : step (record { program_counter = 64; fuel = 5 })
    (first_state (replicate 63 0 ++ 0xBA ∷ 0xBA ∷ []))
    ≡ halt places.Quit (first_state (replicate 63 0 ++ 0xBA ∷ 0xBA ∷ []))
unfolding step perform decode opcode operands byte result_variable branch operand_values
code_behind_header = refl

jumped_past : option_map shown (opening (story_of (0x8C ∷ 0x7F ∷ 0xFF ∷ [])) 1000000)
    ≡ Some (places.Fault faults.Code, 10 ∷ codes "[Machine fault: M2]" ++ 10 ∷ [])
unfolding opening turn_from weight step perform jump decode opcode operands operand byte large result_variable branch
    operand_values operand_value test_target decimal
jumped_past = refl

abbreviated_without_table : option_map shown (opening (story_of (0xB2 ∷ 0x84 ∷ 0x00 ∷ [])) 1000000)
    ≡ Some (places.Fault faults.Character, 10 ∷ codes "[Machine fault: M10]" ++ 10 ∷ [])
unfolding opening turn_from weight step perform print_inline text_at decoded abbreviation reads unpacked_text decode
    opcode operands operand byte large result_variable branch operand_values decimal
abbreviated_without_table = refl

-- instructions, decoded and encoded

number_decoded : decode (0xE6 ∷ 0xBF ∷ 0x10 ∷ []) 0
    ≡ Ok (record { operation = PrintNumber; operands = Variable 16 ∷ []; result = None; branch = None }, 3)
unfolding decode opcode operands operand byte result_variable branch
number_decoded = refl

number_encoded : bytes_of
    (record { operation = PrintNumber; operands = Variable 16 ∷ []; result = None; branch = None })
    ≡ 0xE6 ∷ 0xBF ∷ 0x10 ∷ []
unfolding bytes_of
number_encoded = refl

jump_decoded : decode (0x8C ∷ 0xFF ∷ 0xFF ∷ []) 0
    ≡ Ok (record { operation = Jump; operands = Large 65535 ∷ []; result = None; branch = None }, 3)
unfolding decode opcode operands operand large byte result_variable branch
jump_decoded = refl

jump_encoded : bytes_of (record { operation = Jump; operands = Large 65535 ∷ []; result = None; branch = None })
    ≡ 0x8C ∷ 0xFF ∷ 0xFF ∷ []
unfolding bytes_of
jump_encoded = refl

long_decoded : decode (0x57 ∷ 0x10 ∷ 0x05 ∷ 0x11 ∷ []) 0
    ≡ Ok (record { operation = Div; operands = Variable 16 ∷ Small 5 ∷ []; result = Some 17; branch = None }, 4)
unfolding decode opcode operands operand byte result_variable branch
long_decoded = refl

long_encoded : bytes_of
    (record { operation = Div; operands = Variable 16 ∷ Small 5 ∷ []; result = Some 17; branch = None })
    ≡ 0x57 ∷ 0x10 ∷ 0x05 ∷ 0x11 ∷ []
unfolding bytes_of
long_encoded = refl

sum_decoded : decode (0x54 ∷ 0x10 ∷ 0x05 ∷ 0x11 ∷ []) 0
    ≡ Ok (record { operation = Add; operands = Variable 16 ∷ Small 5 ∷ []; result = Some 17; branch = None }, 4)
unfolding decode opcode operands operand byte result_variable branch
sum_decoded = refl

sum_encoded : bytes_of
    (record { operation = Add; operands = Variable 16 ∷ Small 5 ∷ []; result = Some 17; branch = None })
    ≡ 0x54 ∷ 0x10 ∷ 0x05 ∷ 0x11 ∷ []
unfolding bytes_of
sum_encoded = refl

call_decoded : decode (0x8F ∷ 0x00 ∷ 0x00 ∷ []) 0
    ≡ Ok (record { operation = Call1n; operands = Large 0 ∷ []; result = None; branch = None }, 3)
unfolding decode opcode operands operand large byte result_variable branch
call_decoded = refl

call_encoded : bytes_of (record { operation = Call1n; operands = Large 0 ∷ []; result = None; branch = None })
    ≡ 0x8F ∷ 0x00 ∷ 0x00 ∷ []
unfolding bytes_of
call_encoded = refl

equal_decoded : decode (0xC1 ∷ 0x95 ∷ 0x10 ∷ 0x01 ∷ 0x02 ∷ 0x03 ∷ 0x80 ∷ 0x02 ∷ []) 0
    ≡ Ok (
      record {
        operation = JumpIfEqual;
        operands = Variable 16 ∷ Small 1 ∷ Small 2 ∷ Small 3 ∷ [];
        result = None;
        branch = Some (record { when = true; offset = 2 });
      },
      8,
    )
unfolding decode opcode operands operand byte result_variable branch
equal_decoded = refl

variable_encoded : bytes_of
    (record { operation = Mod; operands = Large 0xFFF3 ∷ Small 5 ∷ []; result = Some 0; branch = None })
    ≡ 0xD8 ∷ 0x1F ∷ 0xFF ∷ 0xF3 ∷ 0x05 ∷ 0x00 ∷ []
unfolding bytes_of
variable_encoded = refl

-- an operand type after an omitted one, and too few operands
operand_after_omitted : decode (0xD8 ∷ 0xCF ∷ 0 ∷ 0 ∷ 0 ∷ 0 ∷ []) 0 ≡ Err faults.Opcode
unfolding decode opcode byte
operand_after_omitted = refl

too_few_operands : decode (0xD8 ∷ 0x3F ∷ 0 ∷ 0 ∷ 0 ∷ []) 0 ≡ Err faults.Opcode
unfolding decode opcode byte
too_few_operands = refl

-- two bytes of operand types, read and written
types_read : variable_types (0x15 ∷ 0xBF ∷ []) true 0 ≡ Ok (0 ∷ 1 ∷ 1 ∷ 1 ∷ 2 ∷ 3 ∷ 3 ∷ 3 ∷ [], 2)
unfolding byte
types_read = refl

types_written : types_bytes true (Large 0 ∷ Small 1 ∷ Small 2 ∷ Small 3 ∷ Variable 4 ∷ []) ≡ 0x15 ∷ 0xBF ∷ []
types_written = refl

-- in place, variable 0 is the top of the stack, which stays

abbrev pub frame_with : List ℕ → Frame
frame_with stack = record { locals = []; stack = stack; arguments = 0; return_address = 0; result = None }

abbrev with_words : List ℕ → State
with_words stack = record { memory = []; frames = frame_with stack ∷ []; pending = None; text = [] }

abbrev one_word : ℕ → State
one_word word = with_words (word ∷ [])

-- with 100 bytes of memory, and one word on the stack of the first environment
abbrev pub one_top : ℕ → State
one_top word = record { memory = replicate 100 0; frames = frame_with (word ∷ []) ∷ []; pending = None; text = [] }

-- a routine runs, whose result goes to the stack of its caller, at address 99
abbrev pub in_routine : State
in_routine = record {
  memory = replicate 100 0;
  frames = record { locals = []; stack = []; arguments = 0; return_address = 99; result = Some 0 } ∷ frame_with []
      ∷ [];
  pending = None;
  text = [];
}

abbrev pub at : ℕ → Next
at place = record { program_counter = place; fuel = 9 }

top_read : read_in_place 0 (one_word 5) ≡ done 5 (one_word 5)
unfolding read_in_place
top_read = refl

top_written : write_in_place 0 7 (one_word 5) ≡ done tt (one_word 7)
unfolding write_in_place
top_written = refl

nothing_on_top : read_in_place 0 (first_state []) ≡ halt (places.Fault faults.StackEmpty) (first_state [])
unfolding read_in_place
nothing_on_top = refl

top_counted : increment (at 70) 72 0 (one_word 65535) ≡ done (at 72) (one_word 0)
unfolding increment test_variable read_in_place write_in_place
top_counted = refl

top_counted_down : decrement (at 70) 72 0 (one_word 0) ≡ done (at 72) (one_word 65535)
unfolding decrement test_variable read_in_place write_in_place
top_counted_down = refl

top_loaded : load (at 70) 73 (Some 0) 0 (one_word 5) ≡ done (at 73) (with_words (5 ∷ 5 ∷ []))
unfolding load test_variable read_in_place give_result test_result store_result write_variable push
top_loaded = refl

top_stored : store (at 70) 73 0 7 (one_word 5) ≡ done (at 73) (one_word 7)
unfolding store test_variable write_in_place
top_stored = refl

-- a pull takes its word first, and stores it over the one below
pulled_to_top : pull (at 70) 72 0 (with_words (5 ∷ 7 ∷ [])) ≡ done (at 72) (one_word 7)
unfolding pull test_variable read_in_place test_pull pop write_in_place
pulled_to_top = refl

nothing_below : pull (at 70) 72 0 (one_word 5) ≡ halt (places.Fault faults.StackEmpty) (one_word 5)
unfolding pull test_variable read_in_place test_pull
nothing_below = refl

no_variable : load (at 70) 73 (Some 0) 256 (one_word 5) ≡ halt (places.Fault faults.Read) (one_word 5)
unfolding load test_variable
no_variable = refl

-- a call of address 0 gives 0 without a unit
called_nothing : call_packed (record { program_counter = 70; fuel = 0 }) 74 (Some 0) 0 [] (one_word 5)
    ≡ done (record { program_counter = 74; fuel = 0 }) (with_words (5 ∷ 0 ∷ []))
unfolding call_packed give_result test_result store_result write_variable push
called_nothing = refl
