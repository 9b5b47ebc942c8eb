-- log_shift and art_shift, computed.
use Rattle.std.proofs.Common.{◌≡◌, [], ◌∷◌, Some, refl}
use Rattle.zcore.specs.declared.next.Next.{Next}
use Rattle.zcore.specs.declared.place.Fault.TheVariants as faults
use Rattle.zcore.specs.declared.place.Place.TheVariants as places
use Rattle.zcore.specs.Effects.{give_result}
use Rattle.zcore.specs.Parts.{test_result, store_result, write_variable, push}
use Rattle.zcore.specs.State.{done, halt}
use Rattle.zcore.specs.Turn.{first_environment, first_state}
use Rattle.zcore_standard.specs.Shifts.{shifted, shifted_with_sign, log_shift, art_shift}

left : shifted 0x1234 4 ≡ 0x2340
left = refl

right : shifted 0x1234 0xFFFC ≡ 0x123
right = refl

no_places : shifted 0x8001 0 ≡ 0x8001
no_places = refl

all_left : shifted 0xFFFF 16 ≡ 0
all_left = refl

all_right : shifted 0xFFFF 0xFFEF ≡ 0
all_right = refl

farthest_right : shifted 0xFFFF 0x8000 ≡ 0
farthest_right = refl

-- -9 is shifted to -5, and as a word without a sign to 32,763
signed_right : shifted_with_sign 0xFFF7 0xFFFF ≡ 0xFFFB
signed_right = refl

unsigned_right : shifted 0xFFF7 0xFFFF ≡ 0x7FFB
unsigned_right = refl

signed_far : shifted_with_sign 0x8000 0xFFEF ≡ 0xFFFF
signed_far = refl

signed_left : shifted_with_sign 0xFFF7 1 ≡ 0xFFEE
signed_left = refl

positive_right : shifted_with_sign 9 0xFFFF ≡ 4
positive_right = refl

abbrev here : Next
here = record { program_counter = 100; fuel = 5 }

-- the result goes to the stack
stored : log_shift here 104 (Some 0) 5 3 (first_state [])
    ≡ done (record { program_counter = 104; fuel = 5 })
    (record (first_state []) { frames = record first_environment { stack = 40 ∷ [] } ∷ [] })
unfolding log_shift give_result test_result store_result write_variable push
stored = refl

-- M4: there is no local 2
no_local : art_shift here 104 (Some 3) 5 3 (first_state []) ≡ halt (places.Fault faults.Write) (first_state [])
unfolding art_shift give_result test_result
no_local = refl
