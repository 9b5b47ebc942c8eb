-- Steps of the Standard's machine from bytes of memory, computed.
use Rattle.std.proofs.Common.{◌≡◌, ℕ, List, [], ◌∷◌, ◌++◌, replicate, Some, refl}
use Rattle.zcore.specs.declared.place.Fault.TheVariants as faults
use Rattle.zcore.specs.declared.place.Place.TheVariants as places
use Rattle.zcore.specs.Effects.{give_result}
use Rattle.zcore.specs.Instruction.{byte, operand, operands, opcode, result_variable, branch, decode}
use Rattle.zcore.specs.Objects.{give_object}
use Rattle.zcore.specs.Parts.{operand_value, operand_values, test_result, store_result, write_variable, push}
use Rattle.zcore.specs.Parts.{wait, test_branch, branch_on}
use Rattle.zcore.specs.State.{State, done, halt}
use Rattle.zcore.specs.Turn.{first_environment, first_state}
use Rattle.zcore_standard.specs.Dice.{random}
use Rattle.zcore_standard.specs.Performing.{perform_keeping, perform_further}
use Rattle.zcore_standard.specs.Instruction.{types_at, result_at, branch_after, decode_row}
use Rattle.zcore_standard.specs.Machine.{begins, standard_step}
use Rattle.zcore_standard.specs.Nothing.{perform_on_nothing, step_known}
use Rattle.zcore_standard.specs.Place.{Here}
use Rattle.zcore_standard.specs.Loaded.{Loaded, seeded}
use Rattle.zcore_standard.specs.Shifts.{log_shift}
use Rattle.zcore_standard.specs.Reading.{test_room, test_slots_or_none, wait_for_line, wait_for_key, read_line, read_key}
use Rattle.zcore_standard.specs.Windows.{show_upper}
use Rattle.zcore_standard.specs.Streams.{close_all, begin_read}

-- a story with static base 80, and bytes from 64 on
abbrev story : List ℕ → State
story bytes = first_state (replicate 15 0 ++ (80 ∷ []) ++ replicate 48 0 ++ bytes ++ replicate 20 0)

abbrev at : ℕ → Here
at place = begins (seeded 12345) [] (record { program_counter = place; fuel = 5 })

abbrev with_word : List ℕ → ℕ → State
with_word bytes word = record (story bytes) { frames = record first_environment { stack = word ∷ [] } ∷ [] }

-- log_shift 5 3 -> sp
abbrev a_shift : List ℕ
a_shift = 0xBE ∷ 2 ∷ 0x5F ∷ 5 ∷ 3 ∷ 0 ∷ []

shift : (loaded : Loaded) → standard_step loaded (at 64) (story a_shift) ≡ done (at 70) (with_word a_shift 40)
unfolding standard_step decode_row types_at result_at branch_after byte operand operands operand_values operand_value perform_further perform_keeping log_shift give_result test_result store_result write_variable push
shift loaded = refl

-- random 100 -> sp: the dice go on
abbrev a_roll : List ℕ
a_roll = 0xE7 ∷ 0x7F ∷ 100 ∷ 0 ∷ []

roll : (loaded : Loaded) → standard_step loaded (at 64) (story a_roll)
    ≡ done (record (at 68) { standard_state = seeded 1002789326 }) (with_word a_roll 2)
unfolding standard_step decode_row types_at result_at branch_after byte operand operands operand_values operand_value perform_further random give_result test_result store_result write_variable push
roll loaded = refl

-- aread 72 -> sp, where 72 has room for two letters: no parse buffer
abbrev reads_one : List ℕ
reads_one = 0xE4 ∷ 0x7F ∷ 72 ∷ 0 ∷ 0 ∷ 0 ∷ 0 ∷ 0 ∷ 2 ∷ 0 ∷ []

read_one : (loaded : Loaded) → standard_step loaded (at 64) (story reads_one)
    ≡ halt places.Waiting (record (story reads_one) {
      pending = Some (record { text_buffer = 72; parse_buffer = 0; result = Some 0; return_address = 68 });
    })
unfolding standard_step decode_row types_at result_at branch_after byte operand operands operand_values operand_value perform_further read_line begin_read show_upper close_all wait_for_line test_room test_slots_or_none test_result wait
read_one loaded = refl

-- aread 72 0 10 80 -> sp: the time is not used
abbrev reads_four : List ℕ
reads_four = 0xE4 ∷ 0x55 ∷ 72 ∷ 0 ∷ 10 ∷ 80 ∷ 0 ∷ 0 ∷ 2 ∷ 0 ∷ []

read_four : (loaded : Loaded) → standard_step loaded (at 64) (story reads_four)
    ≡ halt places.Waiting (record (story reads_four) {
      pending = Some (record { text_buffer = 72; parse_buffer = 0; result = Some 0; return_address = 71 });
    })
unfolding standard_step decode_row types_at result_at branch_after byte operand operands operand_values operand_value perform_further read_line begin_read show_upper close_all wait_for_line test_room test_slots_or_none test_result wait
read_four loaded = refl

-- M12: the text buffer has no room
abbrev reads_nothing : List ℕ
reads_nothing = 0xE4 ∷ 0x7F ∷ 72 ∷ 0 ∷ 0 ∷ 0 ∷ 0 ∷ 0 ∷ 0 ∷ 0 ∷ []

read_nothing : (loaded : Loaded) → standard_step loaded (at 64) (story reads_nothing)
    ≡ halt (places.Fault faults.Buffer) (story reads_nothing)
unfolding standard_step decode_row types_at result_at branch_after byte operand operands operand_values operand_value perform_further read_line begin_read show_upper close_all wait_for_line test_room
read_nothing loaded = refl

-- aread 72 73 -> sp: 72 has room for two letters, and one is left over; 73 has room for no word
abbrev reads_on : List ℕ
reads_on = 0xE4 ∷ 0x5F ∷ 72 ∷ 76 ∷ 0 ∷ 0 ∷ 0 ∷ 0 ∷ 2 ∷ 1 ∷ []

read_on : (loaded : Loaded) → standard_step loaded (at 64) (story reads_on)
    ≡ halt places.Waiting (record (story reads_on) {
      pending = Some (record { text_buffer = 72; parse_buffer = 76; result = Some 0; return_address = 69 });
    })
unfolding standard_step decode_row types_at result_at branch_after byte operand operands operand_values operand_value perform_further read_line begin_read show_upper close_all wait_for_line test_room test_slots_or_none test_result wait
read_on loaded = refl

-- M12: more letters are left over than there is room for
abbrev reads_past : List ℕ
reads_past = 0xE4 ∷ 0x7F ∷ 72 ∷ 0 ∷ 0 ∷ 0 ∷ 0 ∷ 0 ∷ 2 ∷ 3 ∷ []

read_past : (loaded : Loaded) → standard_step loaded (at 64) (story reads_past)
    ≡ halt (places.Fault faults.Buffer) (story reads_past)
unfolding standard_step decode_row types_at result_at branch_after byte operand operands operand_values operand_value perform_further read_line begin_read show_upper close_all wait_for_line test_room
read_past loaded = refl

-- read_char -> sp, and read_char 1 10 80 -> sp: the operands are not used
abbrev reads_key : List ℕ
reads_key = 0xF6 ∷ 0xFF ∷ 0 ∷ []

read_a_key : (loaded : Loaded) → standard_step loaded (at 64) (story reads_key)
    ≡ halt places.Waiting (record (story reads_key) {
      pending = Some (record { text_buffer = 0; parse_buffer = 0; result = Some 0; return_address = 67 });
    })
unfolding standard_step decode_row types_at result_at branch_after byte operand operands operand_values operand_value perform_further read_key begin_read show_upper close_all wait_for_key test_result wait
read_a_key loaded = refl

abbrev reads_timed_key : List ℕ
reads_timed_key = 0xF6 ∷ 0x57 ∷ 1 ∷ 10 ∷ 80 ∷ 0 ∷ []

read_a_timed_key : (loaded : Loaded) → standard_step loaded (at 64) (story reads_timed_key)
    ≡ halt places.Waiting (record (story reads_timed_key) {
      pending = Some (record { text_buffer = 0; parse_buffer = 0; result = Some 0; return_address = 70 });
    })
unfolding standard_step decode_row types_at result_at branch_after byte operand operands operand_values operand_value perform_further read_key begin_read show_upper close_all wait_for_key test_result wait
read_a_timed_key loaded = refl

-- get_child 0 -> sp ?(66): the profile's instruction, which it plays with M8
abbrev a_child : List ℕ
a_child = 0x92 ∷ 0 ∷ 0 ∷ 0xC8 ∷ []

child : (loaded : Loaded) → standard_step loaded (at 64) (story a_child) ≡ done (at 68) (with_word a_child 0)
unfolding standard_step step_known decode opcode byte operand operands result_variable branch operand_values operand_value perform_on_nothing give_object test_result test_branch store_result write_variable push branch_on
child loaded = refl

-- M1: extended opcode 14 is undefined
abbrev an_undefined : List ℕ
an_undefined = 0xBE ∷ 14 ∷ 0xFF ∷ []

undefined : (loaded : Loaded) → standard_step loaded (at 64) (story an_undefined)
    ≡ halt (places.Fault faults.Opcode) (story an_undefined)
unfolding standard_step step_known decode opcode byte
undefined loaded = refl
