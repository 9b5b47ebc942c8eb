-- restart, catch, throw, verify and saves, computed.
use Rattle.std.proofs.Common.{◌≡◌, ℕ, List, [], ◌∷◌, ◌++◌, replicate, Option, Some, None, true, false, refl}
use Rattle.zcore.specs.declared.instruction.Branch.{Branch}
use Rattle.zcore.specs.declared.next.Next.{Next}
use Rattle.zcore.specs.declared.place.Fault.TheVariants as faults
use Rattle.zcore.specs.declared.place.Limit.TheVariants as limits
use Rattle.zcore.specs.declared.place.Place.TheVariants as places
use Rattle.zcore.specs.Effects.{give_result}
use Rattle.zcore.specs.Parts.{test_result, store_result, write_variable, write_local, push, spend, test_target, go}
use Rattle.zcore.specs.Parts.{take_branch, branch_on}
use Rattle.zcore.specs.State.{Frame, State, done, halt}
use Rattle.zcore.specs.Turn.{first_environment, first_state}
use Rattle.zcore_standard.specs.declared.operations.StandardOperation.TheVariants.{Piracy}
use Rattle.zcore_standard.specs.Flags.{with_kept_bits}
use Rattle.zcore_standard.specs.Flow.{restart, catch, leave_frame, throw, verify}
use Rattle.zcore_standard.specs.Fuel.{spend_for}
use Rattle.zcore_standard.specs.Performing.{perform_keeping}
use Rattle.zcore_standard.specs.Place.{Here, plain}
use Rattle.zcore_standard.specs.Loaded.{Loaded, seeded}

abbrev here : Next
here = record { program_counter = 100; fuel = 5 }

-- a story of 80 bytes, the first instruction at 66, the static base 70; from 64 on bytes of one value
abbrev story : ℕ → List ℕ
story n = replicate 7 0 ++ (66 ∷ []) ++ replicate 7 0 ++ (70 ∷ []) ++ replicate 48 0 ++ replicate 6 n ++ replicate 10 9

abbrev loaded : Loaded
loaded = record {
  dynamic = replicate 7 0 ++ (66 ∷ []) ++ replicate 7 0 ++ (70 ∷ []) ++ replicate 48 0 ++ replicate 6 1;
  dice = seeded 12345;
  is_sum_right = true;
  characters = [];
  own_alphabets = None;
  saves = None;
  has_transcript = false;
}

-- a call that was made at 60, with one local, and its result to the stack
abbrev called : ℕ → Frame
called address = record { locals = 0 ∷ []; stack = 8 ∷ []; arguments = 0; return_address = address; result = Some 0 }

abbrev with_frames : List Frame → State
with_frames frames = record (first_state (story 1)) { frames = frames }

abbrev playing : Here
playing = record {
  next = here;
  standard_state = record { window = 1; random = 7; interval = 3; counter = 2 };
  kept = (1 ∷ 2 ∷ []) ∷ [];
  streams = record { table = 64; from = 2 } ∷ [];
  upper = Some (record { from = 1; mark = 1; row = 1 });
}

-- dynamic memory, frames and dice are as at loading, and a unit is spent; kept states stay, and so does the text, without
-- that of the stream and of the upper window
restarted : restart loaded playing
    (record (first_state (story 5)) { frames = called 70 ∷ first_environment ∷ []; text = 65 ∷ 66 ∷ 67 ∷ [] })
    ≡ done (plain (seeded 12345) ((1 ∷ 2 ∷ []) ∷ []) (record { program_counter = 66; fuel = 4 }))
    (record (first_state (story 1)) { text = 65 ∷ [] })
unfolding restart spend spend_for
restarted = refl

-- a story that was loaded with no bit of Flags 2 has set bits 0 to 2: the first two stay
abbrev flagged : ℕ → List ℕ
flagged flags = replicate 17 0 ++ (flags ∷ []) ++ replicate 46 0

kept_flags : with_kept_bits (flagged 0) (flagged 7) ≡ flagged 3
kept_flags = refl

-- as loaded: 01010100
loaded_flags : with_kept_bits (flagged 0x54) (flagged 0x51) ≡ flagged 0x55
loaded_flags = refl

no_fuel : restart loaded (record playing { next = record here { fuel = 0 } }) (first_state (story 5))
    ≡ halt (places.Limit limits.Fuel) (first_state (story 5))
unfolding restart spend
no_fuel = refl

-- no call is open, and two
catch_first : catch here 102 (Some 0) (first_state [])
    ≡ done (record here { program_counter = 102 })
    (record (first_state []) { frames = record first_environment { stack = 0 ∷ [] } ∷ [] })
unfolding catch give_result test_result store_result write_variable push
catch_first = refl

catch_second : catch here 102 (Some 1) (with_frames (called 70 ∷ called 72 ∷ first_environment ∷ []))
    ≡ done (record here { program_counter = 102 })
    (with_frames (record (called 70) { locals = 2 ∷ [] } ∷ called 72 ∷ first_environment ∷ []))
unfolding catch give_result test_result store_result write_variable write_local
catch_second = refl

-- the inner of two calls, and the outer, return 7
throw_inner : throw here 7 2 (with_frames (called 70 ∷ called 72 ∷ first_environment ∷ []))
    ≡ done (record here { program_counter = 70 })
    (with_frames (record (called 72) { stack = 8 ∷ 7 ∷ [] } ∷ first_environment ∷ []))
unfolding throw leave_frame store_result write_variable push
throw_inner = refl

throw_outer : throw here 7 1 (with_frames (called 70 ∷ called 72 ∷ first_environment ∷ []))
    ≡ done (record here { program_counter = 72 }) (with_frames (record first_environment { stack = 7 ∷ [] } ∷ []))
unfolding throw leave_frame store_result write_variable push
throw_outer = refl

-- M11: no call has the number
throw_none : throw here 7 0 (with_frames (called 70 ∷ first_environment ∷ []))
    ≡ halt (places.Fault faults.Return) (with_frames (called 70 ∷ first_environment ∷ []))
unfolding throw
throw_none = refl

throw_far : throw here 7 2 (with_frames (called 70 ∷ first_environment ∷ []))
    ≡ halt (places.Fault faults.Return) (with_frames (called 70 ∷ first_environment ∷ []))
unfolding throw
throw_far = refl

-- M2 where the caller goes on outside of the story; no frame is left
throw_outside : throw here 7 1 (with_frames (called 72 ∷ called 80 ∷ first_environment ∷ []))
    ≡ halt (places.Fault faults.Code) (with_frames (called 72 ∷ called 80 ∷ first_environment ∷ []))
unfolding throw
throw_outside = refl

-- the sum was right at loading, and it was not
abbrev to_72 : Option Branch
to_72 = Some (record { when = true; offset = 4 })

sum_right : verify loaded (record here { program_counter = 66 }) 70 to_72 (first_state (story 1))
    ≡ done (record here { program_counter = 72 }) (first_state (story 1))
unfolding verify branch_on take_branch test_target go
sum_right = refl

sum_wrong : verify (record loaded { is_sum_right = false }) here 70 to_72 (first_state (story 1))
    ≡ done (record here { program_counter = 70 }) (first_state (story 1))
unfolding verify branch_on
sum_wrong = refl

piracy : perform_keeping loaded Piracy (record here { program_counter = 66 }) 70 None to_72 [] (first_state (story 1))
    ≡ done (record here { program_counter = 72 }) (first_state (story 1))
unfolding perform_keeping branch_on take_branch test_target go
piracy = refl
