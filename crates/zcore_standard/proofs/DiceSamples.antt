-- random, computed.
use Rattle.std.proofs.Common.{◌≡◌, ℕ, [], ◌∷◌, Some, refl}
use Rattle.zcore.specs.declared.standard_state.StandardState.{StandardState}
use Rattle.zcore.specs.declared.place.Fault.TheVariants as faults
use Rattle.zcore.specs.declared.place.Place.TheVariants as places
use Rattle.zcore.specs.Effects.{give_result}
use Rattle.zcore.specs.Parts.{test_result, store_result, write_variable, push}
use Rattle.zcore.specs.State.{done, halt}
use Rattle.zcore.specs.Turn.{first_environment, first_state}
use Rattle.zcore_standard.specs.Dice.{rolled, random}
use Rattle.zcore_standard.specs.Loaded.{seeded}
use Rattle.zcore_standard.specs.Place.{Here, plain}

-- two numbers in a range of 100 from the default seed, and the 32 bits after each (computed in another language)
first_roll : rolled 100 (seeded 12345) ≡ (2, seeded 1002789326)
first_roll = refl

second_roll : rolled 100 (seeded 1002789326) ≡ (97, seeded 3785644967)
second_roll = refl

-- a range of 1 has one number, and the generator goes on
one : rolled 1 (seeded 12345) ≡ (1, seeded 1002789326)
one = refl

-- random -3 counts 1, 2, 3, 1
abbrev counting : ℕ → StandardState
counting n = record { window = 0; random = 12345; interval = 3; counter = n }

counts : rolled 0xFFFD (seeded 12345) ≡ (0, counting 0)
counts = refl

counts_1 : rolled 100 (counting 0) ≡ (1, counting 1)
counts_1 = refl

counts_3 : rolled 100 (counting 2) ≡ (3, counting 0)
counts_3 = refl

-- modulo the range
counts_in_range : rolled 2 (counting 2) ≡ (1, counting 0)
counts_in_range = refl

-- 0 ends counting, and leaves the generator
ends_counting : rolled 0 (counting 2) ≡ (0, seeded 12345)
ends_counting = refl

-- -999 counts, and -1,000 sets the generator
counts_999 : rolled 0xFC19 (seeded 12345) ≡ (0, record (seeded 12345) { interval = 999 })
counts_999 = refl

sets_1000 : rolled 0xFC18 (seeded 12345) ≡ (0, seeded 1000)
sets_1000 = refl

sets_32768 : rolled 0x8000 (counting 2) ≡ (0, seeded 32768)
sets_32768 = refl

abbrev from : Here
from = plain (seeded 12345) [] (record { program_counter = 100; fuel = 5 })

stored : random from 103 (Some 0) 100 (first_state [])
    ≡ done (plain (seeded 1002789326) [] (record { program_counter = 103; fuel = 5 }))
    (record (first_state []) { frames = record first_environment { stack = 2 ∷ [] } ∷ [] })
unfolding random give_result test_result store_result write_variable push
stored = refl

-- M4: there is no local 2
no_local : random from 103 (Some 3) 100 (first_state []) ≡ halt (places.Fault faults.Write) (first_state [])
unfolding random give_result test_result
no_local = refl
