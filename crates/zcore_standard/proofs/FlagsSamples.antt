-- Stores to Flags 2, computed.
use Rattle.std.proofs.Common.{◌≡◌, ℕ, [], ◌∷◌, ◌++◌, replicate, None, false, refl}
use Rattle.zcore.specs.declared.instruction.Operation.TheVariants.{StoreWord, StoreByte}
use Rattle.zcore.specs.declared.next.Next.{Next}
use Rattle.zcore.specs.State.{State, done}
use Rattle.zcore.specs.Turn.{first_state}
use Rattle.zcore_standard.specs.Flags.{concerns_flags, perform_on_flags}
use Rattle.zcore_standard.specs.Loaded.{Loaded, seeded}
use Rattle.zcore_standard.specs.Nothing.{perform_known}

abbrev here : Next
here = record { program_counter = 66; fuel = 5 }

abbrev there : Next
there = record { program_counter = 71; fuel = 5 }

-- the two bytes of Flags 2
abbrev state : ℕ → ℕ → State
state high low = first_state (replicate 16 0 ++ high ∷ low ∷ replicate 46 0)

abbrev loaded : Loaded
loaded = record {
  dynamic = [];
  dice = seeded 0;
  is_sum_right = false;
  characters = [];
  own_alphabets = None;
  saves = None;
  has_transcript = false;
}

-- bits 0 to 2 of the word change, and no others
sets_three : perform_known loaded StoreWord here 71 None None (16 ∷ 0 ∷ 0xFFFF ∷ []) (state 0 0) ≡ done there (state 0 7)
unfolding perform_on_flags
sets_three = refl

clears_three : perform_known loaded StoreWord here 71 None None (16 ∷ 0 ∷ 0 ∷ []) (state 255 255)
    ≡ done there (state 255 248)
unfolding perform_on_flags
clears_three = refl

-- an address is a sum modulo 65,536
by_index : perform_known loaded StoreWord here 71 None None (65520 ∷ 16 ∷ 3 ∷ []) (state 0 0x55) ≡ done there (state 0 0x53)
unfolding perform_on_flags
by_index = refl

second_byte : perform_known loaded StoreByte here 71 None None (18 ∷ 65535 ∷ 0xFFFA ∷ []) (state 1 0x28)
    ≡ done there (state 1 0x2A)
unfolding perform_on_flags
second_byte = refl

first_byte : perform_known loaded StoreByte here 71 None None (16 ∷ 0 ∷ 255 ∷ []) (state 0 1) ≡ done there (state 0 1)
unfolding perform_on_flags
first_byte = refl

-- the bytes around are the profile's
word_before : concerns_flags StoreWord (15 ∷ 0 ∷ 0 ∷ []) ≡ false
word_before = refl

word_after : concerns_flags StoreWord (17 ∷ 0 ∷ 0 ∷ []) ≡ false
word_after = refl

byte_before : concerns_flags StoreByte (15 ∷ 0 ∷ 0 ∷ []) ≡ false
byte_before = refl

byte_after : concerns_flags StoreByte (18 ∷ 0 ∷ 0 ∷ []) ≡ false
byte_after = refl
