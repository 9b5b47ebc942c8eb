-- What opcodes are in each version, computed.
use Rattle.std.proofs.Common.{◌≡◌, ℕ, List, [], ◌∷◌, ◌++◌, map, Option, Some, None, refl}
use Rattle.zcore.specs.declared.instruction.Operation.TheVariants as known
use Rattle.zcore_standard.specs.Opcodes.{opcode_of}
use Rattle.zcore_standard.specs.declared.operations.OlderOperation.TheVariants.{Not, Pop, Save, Restore, Read}
use Rattle.zcore_versions.specs.declared.operations.VersionOperation.{VersionOperation}
use Rattle.zcore_versions.specs.declared.operations.VersionOperation.TheVariants.{Known, Older, SplitWindow, Missing}
use Rattle.zcore_versions.specs.Operations.{of_opcode}

abbrev in_version : ℕ → List ℕ → List (Option VersionOperation)
in_version number bytes =
    map (λ first. of_opcode (record { number = number; routine_offset = 0; text_offset = 0 }) (opcode_of first 0)) bytes

abbrev missing : List ℕ → List (Option VersionOperation)
missing bytes = map (λ first. Some Missing) bytes

abbrev as_in_5 : List ℕ → List (Option VersionOperation)
as_in_5 bytes = map (λ first. None) bytes

-- call_2s, call_1s, call_vs2, and the opcodes for windows, keys and tables that version 4 begins
abbrev from_4 : List ℕ
from_4 = 0x19 ∷ 0x88 ∷ 0xEC ∷ 0xED ∷ 0xEE ∷ 0xEF ∷ 0xF0 ∷ 0xF1 ∷ 0xF2 ∷ 0xF6 ∷ 0xF7 ∷ []

-- call_2n, set_colour, throw, extended opcodes, piracy, VAR 24 to 31
abbrev from_5 : List ℕ
from_5 = 0x1A ∷ 0x1B ∷ 0x1C ∷ 0xBE ∷ 0xBF ∷ 0xF8 ∷ 0xF9 ∷ 0xFA ∷ 0xFB ∷ 0xFC ∷ 0xFD ∷ 0xFE ∷ 0xFF ∷ []

-- show_status, verify, set_window, output_stream, input_stream, sound_effect
abbrev from_3 : List ℕ
from_3 = 0xBC ∷ 0xBD ∷ 0xEB ∷ 0xF3 ∷ 0xF4 ∷ 0xF5 ∷ []

-- je, or, loadw, add, jz, inc, load, rtrue, restart, quit, storew, print_num, random, push, pull
abbrev from_1 : List ℕ
from_1 = 0x01 ∷ 0x08 ∷ 0x0F ∷ 0x14 ∷ 0xC1 ∷ 0x80 ∷ 0x85 ∷ 0x8E ∷ 0xB0 ∷ 0xB7 ∷ 0xBA ∷ 0xE1 ∷ 0xE6 ∷ 0xE7 ∷ 0xE8 ∷ 0xE9 ∷ []

-- not, save, restore, pop, sread
abbrev until_4 : List ℕ
until_4 = 0x8F ∷ 0xB5 ∷ 0xB6 ∷ 0xB9 ∷ 0xE4 ∷ []

abbrev until_4_operations : List (Option VersionOperation)
until_4_operations =
    Some (Older Not) ∷ Some (Older Save) ∷ Some (Older Restore) ∷ Some (Older Pop) ∷ Some (Older Read) ∷ []

version_1 : in_version 1 (until_4 ++ from_1 ++ from_3 ++ 0xEA ∷ from_4 ++ from_5)
    ≡ until_4_operations ++ as_in_5 from_1 ++ missing (from_3 ++ 0xEA ∷ from_4 ++ from_5)
version_1 = refl

version_3 : in_version 3 (until_4 ++ from_1 ++ from_3 ++ 0xEA ∷ from_4 ++ from_5)
    ≡ until_4_operations ++ as_in_5 (from_1 ++ from_3) ++ Some SplitWindow ∷ missing (from_4 ++ from_5)
version_3 = refl

version_4 : in_version 4 (until_4 ++ from_1 ++ from_3 ++ 0xEA ∷ from_4 ++ from_5)
    ≡ until_4_operations ++ as_in_5 (from_1 ++ from_3 ++ 0xEA ∷ [])
    ++ Some (Known known.Call2s) ∷ Some (Known known.Call1s) ∷ Some (Known known.CallVs2)
    ∷ as_in_5 (0xED ∷ 0xEE ∷ 0xEF ∷ 0xF0 ∷ 0xF1 ∷ 0xF2 ∷ 0xF6 ∷ 0xF7 ∷ []) ++ missing from_5
version_4 = refl

-- versions 5 and 8
version_8 : in_version 8 (until_4 ++ from_1 ++ 0xE0 ∷ 0x8D ∷ from_5) ≡ as_in_5 (until_4 ++ from_1 ++ 0xE0 ∷ 0x8D ∷ from_5)
version_8 = refl

-- version 7 differs by packed addresses alone
version_7 : in_version 7 (0x8F ∷ 0x88 ∷ 0x8D ∷ 0xE0 ∷ 0x19 ∷ 0xE4 ∷ 0xB9 ∷ 0xEA ∷ 0x0E ∷ 0xB2 ∷ 0xBE ∷ [])
    ≡ Some (Known known.Call1n) ∷ Some (Known known.Call1s) ∷ Some (Known known.PrintPacked) ∷ Some (Known known.CallVs)
    ∷ Some (Known known.Call2s) ∷ None ∷ None ∷ None ∷ None ∷ None ∷ None ∷ []
version_7 = refl

-- insert_obj and get_prop_len on small objects; print, print_addr and print_obj of versions 1 and 2
objects_3 : in_version 3 (0x0E ∷ 0x84 ∷ 0x8A ∷ 0xB2 ∷ 0x87 ∷ [])
    ≡ Some (Known known.InsertObject) ∷ Some (Known known.GetPropertyLength) ∷ Some (Known known.PrintObject) ∷ None ∷ None
    ∷ []
objects_3 = refl

objects_4 : in_version 4 (0x0E ∷ 0x84 ∷ 0x8A ∷ 0xB2 ∷ 0x87 ∷ []) ≡ as_in_5 (0x0E ∷ 0x84 ∷ 0x8A ∷ 0xB2 ∷ 0x87 ∷ [])
objects_4 = refl

texts_2 : in_version 2 (0xB2 ∷ 0xB3 ∷ 0x87 ∷ 0xE5 ∷ [])
    ≡ Some (Known known.Print) ∷ Some (Known known.PrintReturn) ∷ Some (Known known.PrintAddress) ∷ None ∷ []
texts_2 = refl
