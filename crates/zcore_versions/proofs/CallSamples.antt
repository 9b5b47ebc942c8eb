-- Steps of old versions from bytes of memory, computed.
use Rattle.std.proofs.Common.{◌≡◌, ℕ, List, [], ◌∷◌, ◌++◌, replicate, Some, None, refl}
use Rattle.zcore.specs.declared.place.Fault.TheVariants as faults
use Rattle.zcore.specs.declared.place.Place.TheVariants as places
use Rattle.zcore.specs.Effects.{give_result}
use Rattle.zcore.specs.Instruction.{byte, operand, operands}
use Rattle.zcore.specs.Parts.{operand_value, operand_values, test_result, store_result, write_variable, write_local, push}
use Rattle.zcore.specs.Parts.{test_routine, test_calls, spend, enter, call, wait}
use Rattle.zcore.specs.State.{State, done, halt}
use Rattle.zcore.specs.Turn.{first_environment, first_state}
use Rattle.zcore_standard.specs.Instruction.{result_at, branch_after}
use Rattle.zcore_standard.specs.Machine.{begins}
use Rattle.zcore_standard.specs.Place.{Here}
use Rattle.zcore_standard.specs.Loaded.{Loaded, seeded}
use Rattle.zcore_standard.specs.Streams.{close_all, begin_read}
use Rattle.zcore_standard.specs.Windows.{erase_upper, show_upper, split_window}
use Rattle.zcore_standard.specs.Words.{test_slots}
use Rattle.zcore_versions.specs.declared.version.StoryVersion.{StoryVersion}
use Rattle.zcore_versions.specs.Calls.{test_values, set_locals, call_with_values, call_older}
use Rattle.zcore_versions.specs.Versions.{Story, routine_at, text_at}
use Rattle.zcore_standard.specs.Instruction.{types_at, decode_row}
use Rattle.zcore_versions.specs.Machine.{any_step}
use Rattle.zcore_versions.specs.Performing.{perform, perform_older, perform_other}
use Rattle.zcore_versions.specs.Reading.{test_room, wait_for_line, read_older}

abbrev version : ℕ → StoryVersion
version number = record { number = number; routine_offset = 0; text_offset = 0 }

abbrev seventh : StoryVersion
seventh = record { number = 7; routine_offset = 800; text_offset = 1600 }

abbrev in_version : Loaded → ℕ → Story
in_version loaded number = record { loaded = loaded; version = version number }

-- packed addresses
packed_3 : routine_at (version 3) 100 ≡ 200
packed_3 = refl

packed_4 : routine_at (version 4) 100 ≡ 400
packed_4 = refl

packed_7 : routine_at seventh 100 ≡ 1200
packed_7 = refl

text_7 : text_at seventh 100 ≡ 2000
text_7 = refl

packed_8 : routine_at (version 8) 100 ≡ 800
packed_8 = refl

-- a story with static base 80, and bytes from 64 on
abbrev story : ℕ → List ℕ → State
story number bytes = first_state ((number ∷ []) ++ replicate 14 0 ++ (80 ∷ []) ++ replicate 48 0 ++ bytes ++ replicate 20 0)

abbrev at : ℕ → Here
at place = begins (seeded 12345) [] (record { program_counter = place; fuel = 5 })

-- call 36 9 -> sp, of a routine at 72 with three locals of the initial values 1, 2 and 258
abbrev a_call : List ℕ
a_call = 0xE0 ∷ 0x5F ∷ 36 ∷ 9 ∷ 0 ∷ 0 ∷ 0 ∷ 0 ∷ 3 ∷ 0 ∷ 1 ∷ 0 ∷ 2 ∷ 1 ∷ 2 ∷ []

calls : (loaded : Loaded) → any_step (in_version loaded 3) (at 64) (story 3 a_call)
    ≡ done (record (at 79) { next = record { program_counter = 79; fuel = 4 } }) (record (story 3 a_call) {
      frames = record {
        locals = 9 ∷ 2 ∷ 258 ∷ [];
        stack = [];
        arguments = 1;
        return_address = 69;
        result = Some 0;
      } ∷ first_environment ∷ [];
    })
unfolding any_step decode_row types_at result_at branch_after byte operand operands operand_values operand_value perform perform_older perform_other call_older call_with_values test_values call test_routine test_calls spend enter set_locals write_variable write_local
calls loaded = refl

-- not 5 -> sp
nots : (loaded : Loaded) → any_step (in_version loaded 3) (at 64) (story 3 (0x9F ∷ 5 ∷ 0 ∷ []))
    ≡ done (at 67) (record (story 3 (0x9F ∷ 5 ∷ 0 ∷ [])) { frames = record first_environment { stack = 65530 ∷ [] } ∷ [] })
unfolding any_step decode_row types_at result_at branch_after byte operand operands operand_values operand_value perform perform_older give_result test_result store_result write_variable push
nots loaded = refl

-- split_window 2 in version 3: the upper window is empty
abbrev with_upper : Here
with_upper = record (at 64) { upper = Some (record { from = 1; mark = 1; row = 2 }) }

abbrev splits : State
splits = record (story 3 (0xEA ∷ 0x7F ∷ 2 ∷ [])) { text = 65 ∷ 66 ∷ [] }

emptied : (loaded : Loaded) → any_step (in_version loaded 3) with_upper splits
    ≡ done (record (at 67) { upper = Some (record { from = 1; mark = 1; row = 1 }) }) (record splits { text = 65 ∷ [] })
unfolding any_step decode_row types_at result_at branch_after byte operand operands operand_values operand_value perform split_window erase_upper
emptied loaded = refl

-- sread 72 75: room for two letters, one slot, and at 79 a dictionary without entries
abbrev reads : ℕ → List ℕ
reads parse = 0xE4 ∷ 0x5F ∷ 72 ∷ parse ∷ 0 ∷ 0 ∷ 0 ∷ 0 ∷ 3 ∷ 0 ∷ []

abbrev reading : ℕ → State
reading parse = story 3 (reads parse)

read_a_line : (loaded : Loaded) → any_step (in_version loaded 3) (at 64) (reading 76)
    ≡ halt places.Waiting (record (reading 76) {
      pending = Some (record { text_buffer = 72; parse_buffer = 76; result = None; return_address = 68 });
    })
unfolding any_step decode_row types_at result_at branch_after byte operand operands operand_values operand_value perform read_older begin_read show_upper close_all wait_for_line test_room test_slots wait
read_a_line loaded = refl

-- there is no parse buffer 0
no_parse_buffer : (loaded : Loaded) → any_step (in_version loaded 3) (at 64) (reading 0)
    ≡ halt (places.Fault faults.Buffer) (reading 0)
unfolding any_step decode_row types_at result_at branch_after byte operand operands operand_values operand_value perform read_older begin_read show_upper close_all wait_for_line test_room test_slots
no_parse_buffer loaded = refl

-- in version 3 `sread` has two operands
no_third : (loaded : Loaded) → any_step (in_version loaded 3) (at 64) (story 3 (0xE4 ∷ 0x57 ∷ 72 ∷ 76 ∷ 0 ∷ []))
    ≡ halt (places.Fault faults.Opcode) (story 3 (0xE4 ∷ 0x57 ∷ 72 ∷ 76 ∷ 0 ∷ []))
unfolding any_step decode_row types_at byte
no_third loaded = refl
