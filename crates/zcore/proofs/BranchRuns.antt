-- The definitions of the machine, computed at branches: alone, after a variable was counted up or down, and by bits.
use Rattle.std.proofs.Common.{◌≡◌, [], ◌∷◌, Some, Ok, true, false, refl}
use Rattle.std.specs.Prelude.{codes, option_map}
use Rattle.zcore.specs.declared.place.Fault.TheVariants as faults
use Rattle.zcore.specs.declared.place.Limit.TheVariants as limits
use Rattle.zcore.specs.declared.place.Place.TheVariants as places
use Rattle.zcore.specs.Instruction.{decode, opcode, operands, operand, byte, large, result_variable, branch_at, branch}
use Rattle.zcore.specs.State.{done, halt}
use Rattle.zcore.specs.Turn.{first_state, opening, turn_from, weight}
use Rattle.zcore.specs.Execution.{step, perform, write_and_branch, increment_check, decrement_check, print_characters}
use Rattle.zcore.specs.Execution.{print_character}
use Rattle.zcore.specs.Parts.{read_in_place, write_in_place, push, read_local, read_global, write_global}
use Rattle.zcore.specs.Parts.{read_variable, write_variable, test_variable, operand_value, operand_values}
use Rattle.zcore.specs.Parts.{store_result, test_target, spend, go, test_return, leave, give_back, take_branch}
use Rattle.zcore.specs.Parts.{branch_on, test_taken, test_branch, print}
use Rattle.zcore.specs.Arithmetic.{decimal, signed_text}
use Rattle.zcore.proofs.SmallRuns.{story_of, shown, frame_with, one_top, in_routine, at}

-- Branches, from the address 80 after them. 0xCA: on true, 8 bytes further on.

branch_read : branch_at (0xCA ∷ []) 0 ≡ Ok (record { when = true; offset = 10 }, 1)
unfolding byte
branch_read = refl

branch_taken : branch_on (at 70) 80 (Some (record { when = true; offset = 10 })) true in_routine
    ≡ done (at 88) in_routine
unfolding branch_on take_branch test_target go
branch_taken = refl

branch_passed : branch_on (at 70) 80 (Some (record { when = true; offset = 10 })) false in_routine
    ≡ done (at 80) in_routine
unfolding branch_on
branch_passed = refl

-- 0x80 0x02: on true, to the next instruction
next_read : branch_at (0x80 ∷ 0x02 ∷ []) 0 ≡ Ok (record { when = true; offset = 2 }, 2)
unfolding byte
next_read = refl

next_taken : branch_on (at 70) 80 (Some (record { when = true; offset = 2 })) true in_routine
    ≡ done (at 80) in_routine
unfolding branch_on take_branch test_target go
next_taken = refl

-- 0x40: on false, the routine returns false
return_read : branch_at (0x40 ∷ []) 0 ≡ Ok (record { when = false; offset = 0 }, 1)
unfolding byte
return_read = refl

return_taken : branch_on (at 70) 80 (Some (record { when = false; offset = 0 })) false in_routine
    ≡ done (at 99) (record in_routine { frames = frame_with (0 ∷ []) ∷ [] })
unfolding branch_on take_branch give_back test_return leave store_result write_variable push
return_taken = refl

-- 0xBF 0xFA: on true, 8 bytes back, for a unit
back_read : branch_at (0xBF ∷ 0xFA ∷ []) 0 ≡ Ok (record { when = true; offset = 16378 }, 2)
unfolding byte
back_read = refl

back_taken : branch_on (record { program_counter = 76; fuel = 9 }) 80 (Some (record { when = true; offset = 16378 }))
    true in_routine ≡ done (record { program_counter = 72; fuel = 8 }) in_routine
unfolding branch_on take_branch test_target go spend
back_taken = refl

-- inc_chk and dec_chk: signed, in place, and tested before the variable changes

up_and_taken : increment_check (at 70) 80 (Some (record { when = true; offset = 10 })) 0 65535 (one_top 65535)
    ≡ done (at 88) (one_top 0)
unfolding increment_check test_variable read_in_place write_and_branch test_branch test_taken test_target
    write_in_place branch_on take_branch go
up_and_taken = refl

up_and_passed : increment_check (at 70) 80 (Some (record { when = true; offset = 10 })) 0 6 (one_top 5)
    ≡ done (at 80) (one_top 6)
unfolding increment_check test_variable read_in_place write_and_branch test_branch write_in_place branch_on
up_and_passed = refl

up_to_the_least : increment_check (at 70) 80 (Some (record { when = true; offset = 10 })) 0 32767 (one_top 32767)
    ≡ done (at 80) (one_top 32768)
unfolding increment_check test_variable read_in_place write_and_branch test_branch write_in_place branch_on
up_to_the_least = refl

down_and_taken : decrement_check (at 70) 80 (Some (record { when = true; offset = 10 })) 0 0 (one_top 0)
    ≡ done (at 88) (one_top 65535)
unfolding decrement_check test_variable read_in_place write_and_branch test_branch test_taken test_target
    write_in_place branch_on take_branch go
down_and_taken = refl

down_and_passed : decrement_check (at 70) 80 (Some (record { when = true; offset = 10 })) 0 4 (one_top 5)
    ≡ done (at 80) (one_top 4)
unfolding decrement_check test_variable read_in_place write_and_branch test_branch write_in_place branch_on
down_and_passed = refl

-- a branch on false is taken where the condition does not hold
down_and_taken_on_false : decrement_check (at 70) 80 (Some (record { when = false; offset = 10 })) 0 4 (one_top 5)
    ≡ done (at 88) (one_top 4)
unfolding decrement_check test_variable read_in_place write_and_branch test_branch test_taken test_target
    write_in_place branch_on take_branch go
down_and_taken_on_false = refl

-- a target past the story, and a return from the first environment: the variable stays
target_before_the_step : increment_check (at 70) 80 (Some (record { when = true; offset = 100 })) 0 0 (one_top 5)
    ≡ halt (places.Fault faults.Code) (one_top 5)
unfolding increment_check test_variable read_in_place write_and_branch test_branch test_taken test_target
target_before_the_step = refl

return_before_the_step : increment_check (at 70) 80 (Some (record { when = true; offset = 1 })) 0 0 (one_top 5)
    ≡ halt (places.Fault faults.Return) (one_top 5)
unfolding increment_check test_variable read_in_place write_and_branch test_branch test_taken test_return
return_before_the_step = refl

-- a target that is not gone to is not tested
target_not_tested : increment_check (at 70) 80 (Some (record { when = true; offset = 100 })) 0 6 (one_top 5)
    ≡ done (at 80) (one_top 6)
unfolding increment_check test_variable read_in_place write_and_branch test_branch write_in_place branch_on
target_not_tested = refl

-- without fuel the variable has changed when the way back is refused
no_fuel_after_the_step : decrement_check (record { program_counter = 76; fuel = 0 }) 80
    (Some (record { when = true; offset = 16378 })) 0 9 (one_top 5) ≡ halt (places.Limit limits.Fuel) (one_top 4)
unfolding decrement_check test_variable read_in_place write_and_branch test_branch test_taken test_target
    write_in_place branch_on take_branch go spend
no_fuel_after_the_step = refl

nothing_to_step : increment_check (at 70) 80 (Some (record { when = true; offset = 10 })) 0 0 (first_state [])
    ≡ halt (places.Fault faults.StackEmpty) (first_state [])
unfolding increment_check test_variable read_in_place
nothing_to_step = refl

no_variable_to_step : decrement_check (at 70) 80 (Some (record { when = true; offset = 10 })) 256 0 (one_top 5)
    ≡ halt (places.Fault faults.Read) (one_top 5)
unfolding decrement_check test_variable
no_variable_to_step = refl

no_local_to_step : decrement_check (at 70) 80 (Some (record { when = true; offset = 10 })) 1 0 (one_top 5)
    ≡ halt (places.Fault faults.Read) (one_top 5)
unfolding decrement_check test_variable read_in_place read_variable read_local
no_local_to_step = refl

-- inc_chk of global 16 with 1, back to itself while the global is not greater than 1; each way back is a unit
counted_to_two : option_map shown
    (opening (story_of (0x05 ∷ 0x10 ∷ 0x01 ∷ 0x3F ∷ 0xFD ∷ 0xE6 ∷ 0xBF ∷ 0x10 ∷ 0xBA ∷ [])) 1)
    ≡ Some (places.Quit, codes "2")
unfolding opening turn_from weight step perform decode opcode operands operand byte large result_variable branch
    operand_values operand_value increment_check test_variable read_in_place write_and_branch test_branch test_taken
    test_target write_in_place write_variable write_global branch_on take_branch go spend read_variable read_global
    print_characters print signed_text decimal
counted_to_two = refl

-- dec_chk of global 16 with 0, in variable form, past a print_char
counted_down : option_map shown
    (opening (story_of (0xC4 ∷ 0x5F ∷ 0x10 ∷ 0x00 ∷ 0xC5 ∷ 0xE5 ∷ 0x7F ∷ 0x78 ∷ 0xE6 ∷ 0xBF ∷ 0x10 ∷ 0xBA ∷ []))
    1000000) ≡ Some (places.Quit, codes "-1")
unfolding opening turn_from weight step perform decode opcode operands operand byte large result_variable branch
    operand_values operand_value decrement_check test_variable read_in_place write_and_branch test_branch test_taken
    test_target write_in_place write_variable write_global branch_on take_branch go read_variable read_global
    print_characters print signed_text decimal
counted_down = refl

-- test

-- 13 has the bits 5, and not the bits 6
bits_stand : option_map shown
    (opening
    (story_of
    (0x07 ∷ 0x0D ∷ 0x05 ∷ 0xC5 ∷ 0xE5 ∷ 0x7F ∷ 0x78 ∷ 0x07 ∷ 0x0D ∷ 0x06 ∷ 0xC5 ∷ 0xE5 ∷ 0x7F ∷ 0x79 ∷ 0xBA ∷ []))
    1000000) ≡ Some (places.Quit, codes "y")
unfolding opening turn_from weight step perform decode opcode operands operand byte large result_variable branch
    operand_values operand_value branch_on take_branch test_target go print_character print_characters print
bits_stand = refl
