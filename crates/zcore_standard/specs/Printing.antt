-- The opcodes of the profile that print texts and characters, where any ZSCII code may stand (Z-Machine Standards
-- Document 1.1, sections 3.8 and 15). The profile refuses some of them by M10: there, and there alone, these print.
use Rattle.std.specs.Prelude.{◌==◌, ◌+◌, ℕ, Bool, true, false, if◌then◌else◌, List, [], ◌∷◌, ◌++◌}
use Rattle.std.specs.Prelude.{Option, Some, None}
use Rattle.zcore.specs.declared.instruction.Branch.{Branch}
use Rattle.zcore.specs.declared.instruction.Operation.{Operation}
use Rattle.zcore.specs.declared.instruction.Operation.TheVariants.{Print, PrintReturn, PrintAddress, PrintPacked}
use Rattle.zcore.specs.declared.instruction.Operation.TheVariants.{PrintObject, PrintCharacter}
use Rattle.zcore.specs.declared.next.Next.{Next}
use Rattle.zcore.specs.declared.place.Fault.TheVariants as faults
use Rattle.zcore.specs.declared.place.Place.TheVariants as places
use Rattle.zcore.specs.Effects.{read_text}
use Rattle.zcore.specs.Execution.{first, perform}
use Rattle.zcore.specs.Objects.{test_object, property_table}
use Rattle.zcore.specs.Parts.{fault, goes_on, give_back, read_byte, test_return, unpacked}
use Rattle.zcore.specs.State.{State, Out, halt, ◌>>=◌}
use Rattle.zcore_standard.specs.Characters.{print_codes}
use Rattle.zcore_standard.specs.Loaded.{Loaded}
use Rattle.zcore_standard.specs.Texts.{alphabets_of, codes_at}

-- the codes of the text at an address, by these alphabets, and the address after it
unfoldable pub any_text_at : List ℕ → ℕ → State → Out (List ℕ × ℕ)
any_text_at alphabets address s = read_text (codes_at alphabets s.memory address) s

-- print_char
unfoldable pub print_any_character : Loaded → Next → ℕ → ℕ → State → Out Next
print_any_character loaded here after character = do
  _ ← print_codes loaded.characters (character ∷ [])
  goes_on after here.fuel

-- print_addr
unfoldable pub print_any_address : Loaded → Next → ℕ → ℕ → State → Out Next
print_any_address loaded here after address = do
  text ← any_text_at (alphabets_of loaded) address
  _ ← print_codes loaded.characters text.0
  goes_on after here.fuel

-- print_paddr
unfoldable pub print_any_packed : Loaded → Next → ℕ → ℕ → State → Out Next
print_any_packed loaded here after packed s = print_any_address loaded here after (unpacked s.memory packed) s

-- print
unfoldable pub print_any_inline : Loaded → Next → ℕ → State → Out Next
print_any_inline loaded here after = do
  text ← any_text_at (alphabets_of loaded) after
  _ ← print_codes loaded.characters text.0
  goes_on text.1 here.fuel

-- print_ret
unfoldable pub print_any_return : Loaded → Next → ℕ → State → Out Next
print_any_return loaded here after = do
  text ← any_text_at (alphabets_of loaded) after
  _ ← test_return
  _ ← print_codes loaded.characters (text.0 ++ 13 ∷ [])
  give_back here.fuel 1

-- print_obj: nothing is printed where the length of the name is 0
unfoldable pub print_any_object : Loaded → Next → ℕ → ℕ → State → Out Next
print_any_object loaded here after object = do
  _ ← test_object object
  table ← property_table object
  words ← read_byte table
  (if words == 0 then goes_on after here.fuel else print_any_address loaded here after (table + 1))

-- the operations that print texts and characters
abbrev pub is_text : Operation → Bool
is_text Print = true
is_text PrintReturn = true
is_text PrintAddress = true
is_text PrintPacked = true
is_text PrintObject = true
is_text PrintCharacter = true
is_text _ = false

-- such an operation on the values of its operands
unfoldable pub perform_text : Loaded → Operation → Next → ℕ → List ℕ → State → Out Next
perform_text loaded Print here after values = print_any_inline loaded here after
perform_text loaded PrintReturn here after values = print_any_return loaded here after
perform_text loaded PrintAddress here after values = print_any_address loaded here after (first values)
perform_text loaded PrintPacked here after values = print_any_packed loaded here after (first values)
perform_text loaded PrintObject here after values = print_any_object loaded here after (first values)
perform_text loaded PrintCharacter here after values = print_any_character loaded here after (first values)
perform_text loaded _ here after values = fault faults.Opcode

-- whether a turn ends by M10
abbrev pub is_refused : {A : Type 0} → Out A → Bool
is_refused (halt (places.Fault faults.Character) s) = true
is_refused _ = false

-- as the profile does it, or else, where it answers M10, in another way
abbrev pub or_else : (State → Out Next) → (State → Out Next) → State → Out Next
or_else known other s = if is_refused (known s) then other s else known s

-- Where a story has alphabets of its own, its texts are read in the other way at once: the profile would read them by
-- the default alphabets, without a fault.
abbrev pub by_alphabets : Option (List ℕ) → (State → Out Next) → (State → Out Next) → State → Out Next
by_alphabets None known other = or_else known other
by_alphabets (Some alphabets) known other = other

-- an operation of the profile on the values of its operands
abbrev pub perform_printing :
    Loaded → Operation → Next → ℕ → Option ℕ → Option Branch → List ℕ → State → Out Next
perform_printing loaded operation here after result branch values =
    if is_text operation
    then by_alphabets loaded.own_alphabets (perform operation here after result branch values)
    (perform_text loaded operation here after values)
    else perform operation here after result branch values
