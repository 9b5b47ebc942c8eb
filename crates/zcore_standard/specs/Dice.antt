-- random (Z-Machine Standards Document 1.1, sections 2.4 and 15). The numbers are those of the interpreter Frotz.
use Rattle.std.specs.Prelude.{◌==◌, ◌+◌, ◌*◌, ◌/◌, ◌%◌, ℕ, nat_lt, if◌then◌else◌, Option}
use Rattle.zcore.specs.declared.standard_state.StandardState.{StandardState}
use Rattle.zcore.specs.Arithmetic.{is_negative, magnitude}
use Rattle.zcore.specs.Effects.{give_result}
use Rattle.zcore.specs.State.{State, Out}
use Rattle.zcore_standard.specs.Place.{Here, within}

-- the next 32 bits of the generator
abbrev pub stirred : ℕ → ℕ
stirred random = (random * 22695477 + 1) % 4294967296

-- A number from 1 to the range, and the dice after it. While the dice count, the interval is not 0.
abbrev pub thrown : ℕ → StandardState → ℕ × StandardState
thrown range dice =
    if dice.interval == 0
    then (1 + stirred dice.random / 65536 % 32768 % range, record dice { random = stirred dice.random })
    else (1 + dice.counter % range, record dice { counter = (dice.counter + 1) % dice.interval })

-- a range of less than 1,000 below 0 begins to count up to it (2, remarks)
abbrev pub counts_from : ℕ
counts_from = 1000

-- What `random` answers, and the dice after it. Range 0 ends counting; a negative range sets the generator, or begins
-- to count.
abbrev pub rolled : ℕ → StandardState → ℕ × StandardState
rolled range dice =
    if range == 0 then (0, record dice { interval = 0; counter = 0 })
    else (if is_negative range then (
    if nat_lt (magnitude range) counts_from then (0, record dice { interval = magnitude range; counter = 0 })
    else (0, record dice { random = magnitude range; interval = 0; counter = 0 }))
    else thrown range dice)

unfoldable pub random : Here → ℕ → Option ℕ → ℕ → State → Out Here
random here after result range s =
    within (record here { standard_state = (rolled range here.standard_state).1 })
    (give_result here.next after result (rolled range here.standard_state).0 s)
