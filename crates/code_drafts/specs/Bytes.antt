-- The bytes of instructions, and the characters of texts.
use Rattle.std.specs.Prelude.{◌≡◌, ◌++◌, ℕ, List}
use Rattle.std.specs.List.{flat_map}
use Rattle.std.specs.Global.{Vec}
use Rattle.zcore.specs.Instruction.{Instruction}
use Rattle.zcore.specs.InstructionBytes.{bytes_of}

abbrev pub bytes_of_all : List Instruction → List ℕ
bytes_of_all instructions = flat_map bytes_of instructions

-- these stand after those that were there
abbrev pub Adds : Vec ℕ → Vec ℕ → List ℕ → Type 0
Adds old new more = new.items ≡ old.items ++ more

-- the bytes of these instructions stand after those that were there
abbrev pub AddsCode : Vec ℕ → Vec ℕ → List Instruction → Type 0
AddsCode old new code = Adds old new (bytes_of_all code)
