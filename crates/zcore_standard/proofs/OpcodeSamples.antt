-- Opcodes by their bytes, computed.
use Rattle.std.proofs.Common.{◌≡◌, ℕ, List, [], ◌∷◌, ◌++◌, replicate, Some, None, Ok, Err, false, refl}
use Rattle.zcore.specs.declared.instruction.Operand.TheVariants.{Large, Small, Variable}
use Rattle.zcore.specs.declared.place.Fault.TheVariants as faults
use Rattle.zcore.specs.Instruction.{byte, large, operand, operands}
use Rattle.zcore_standard.specs.declared.operations.StandardOperation.TheVariants as operations
use Rattle.zcore_standard.specs.Instruction.{types_at, result_at, branch_after, decode_row}
use Rattle.zcore_standard.specs.Operations.{row_of, of_bytes, further_at}

-- no operand: 181, 182 and 190 are others
restart : of_bytes 0xB7 0 ≡ Some operations.Restart
restart = refl

catch : of_bytes 0xB9 0 ≡ Some operations.Catch
catch = refl

show_status : of_bytes 0xBC 0 ≡ Some operations.ShowStatus
show_status = refl

verify : of_bytes 0xBD 0 ≡ Some operations.Verify
verify = refl

piracy : of_bytes 0xBF 0 ≡ Some operations.Piracy
piracy = refl

old_save : of_bytes 0xB5 0 ≡ None
old_save = refl

old_restore : of_bytes 0xB6 0 ≡ None
old_restore = refl

-- two operands, in long form and in variable form
set_colour : of_bytes 0x1B 0 ≡ Some operations.SetColour
set_colour = refl

set_colour_of_variables : of_bytes 0x7B 0 ≡ Some operations.SetColour
set_colour_of_variables = refl

throw : of_bytes 0x3C 0 ≡ Some operations.Throw
throw = refl

throw_in_variable_form : of_bytes 0xDC 0 ≡ Some operations.Throw
throw_in_variable_form = refl

undefined_two : of_bytes 0x1D 0 ≡ None
undefined_two = refl

-- several operands
read : of_bytes 0xE4 0 ≡ Some operations.Read
read = refl

random : of_bytes 0xE7 0 ≡ Some operations.Random
random = refl

print_num : of_bytes 0xE6 0 ≡ None
print_num = refl

read_char : of_bytes 0xF6 0 ≡ Some operations.ReadChar
read_char = refl

print_table : of_bytes 0xFE 0 ≡ Some operations.PrintTable
print_table = refl

check_arg_count : of_bytes 0xFF 0 ≡ None
check_arg_count = refl

-- extended
save : of_bytes 0xBE 0 ≡ Some operations.Save
save = refl

set_font : of_bytes 0xBE 4 ≡ Some operations.SetFont
set_font = refl

draw_picture : of_bytes 0xBE 5 ≡ None
draw_picture = refl

set_true_colour : of_bytes 0xBE 13 ≡ Some operations.SetTrueColour
set_true_colour = refl

beyond : of_bytes 0xBE 14 ≡ None
beyond = refl

-- the profile's calls are not among them
call : of_bytes 0xE0 0 ≡ None
call = refl

jump_if_zero : of_bytes 0x80 7 ≡ None
jump_if_zero = refl

-- bytes from 64 on
abbrev at_64 : List ℕ → List ℕ
at_64 bytes = replicate 64 0 ++ bytes

-- a header is no code
header : further_at (0xBE ∷ at_64 []) 0 ≡ None
header = refl

-- log_shift 5 local0 -> sp
shift : decode_row (at_64 (0xBE ∷ 2 ∷ 0x6F ∷ 5 ∷ 1 ∷ 0 ∷ [])) 64 (row_of operations.LogShift)
    ≡ Ok (record { operands = Small 5 ∷ Variable 1 ∷ []; result = Some 0; branch = None }, 70)
unfolding decode_row types_at result_at branch_after byte operand operands
shift = refl

-- scan_table 300 16 4 -> 1 ?~ with a branch of one byte
scan : decode_row (at_64 (0xF7 ∷ 0x17 ∷ 1 ∷ 44 ∷ 16 ∷ 4 ∷ 1 ∷ 0x48 ∷ [])) 64 (row_of operations.ScanTable)
    ≡ Ok (
      record {
        operands = Large 300 ∷ Small 16 ∷ Small 4 ∷ [];
        result = Some 1;
        branch = Some (record { when = false; offset = 8 });
      },
      72,
    )
unfolding decode_row types_at result_at branch_after byte large operand operands
scan = refl

-- sound_effect without operands
silence : decode_row (at_64 (0xF5 ∷ 0xFF ∷ [])) 64 (row_of operations.SoundEffect)
    ≡ Ok (record { operands = []; result = None; branch = None }, 66)
unfolding decode_row types_at result_at branch_after byte operand operands
silence = refl

-- M1: log_shift with one operand, and aread without any
few : decode_row (at_64 (0xBE ∷ 2 ∷ 0x7F ∷ 5 ∷ 0 ∷ [])) 64 (row_of operations.LogShift) ≡ Err faults.Opcode
unfolding decode_row types_at byte
few = refl

no_buffer : decode_row (at_64 (0xE4 ∷ 0xFF ∷ 0 ∷ [])) 64 (row_of operations.Read) ≡ Err faults.Opcode
unfolding decode_row types_at byte
no_buffer = refl

-- M2: the story ends within the instruction
cut : decode_row (at_64 (0xBE ∷ 2 ∷ 0x5F ∷ 5 ∷ [])) 64 (row_of operations.LogShift) ≡ Err faults.Code
unfolding decode_row types_at byte operand operands
cut = refl
