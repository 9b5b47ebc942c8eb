-- The fuel of operations on 256 and on 257 bytes, computed.
use Rattle.std.proofs.Common.{◌≡◌, ℕ, [], ◌∷◌, ◌++◌, replicate, None, false, refl, true}
use Rattle.zcore.specs.declared.next.Next.{Next}
use Rattle.zcore.specs.declared.place.Fault.TheVariants as faults
use Rattle.zcore.specs.declared.place.Limit.TheVariants as limits
use Rattle.zcore.specs.declared.place.Place.TheVariants as places
use Rattle.zcore.specs.Parts.{spend, read_byte, test_result, test_branch, store_result, branch_on}
use Rattle.zcore.specs.State.{State, done, halt}
use Rattle.zcore.specs.Turn.{first_state}
use Rattle.zcore_standard.specs.Characters.{print_each}
use Rattle.zcore_standard.specs.Flow.{restart}
use Rattle.zcore_standard.specs.Fuel.{units, spend_for}
use Rattle.zcore_standard.specs.Loaded.{Loaded, seeded}
use Rattle.zcore_standard.specs.Place.{Here, plain}
use Rattle.zcore_standard.specs.Streams.{characters_in, test_table, spend_cut, close, output_stream}
use Rattle.zcore_standard.specs.Tables.{find_field, read_field, give_found, scan_table, test_readable, test_writable}
use Rattle.zcore_standard.specs.Tables.{write_table, copy_table, rows, print_table}
use Rattle.zcore_standard.specs.Unicode.{print_whole}
use Rattle.zcore_standard.specs.Windows.{settled}
use Rattle.zcore_standard.specs.Words.{write_bytes}

of_none : units 0 ≡ 0
of_none = refl

of_256 : units 256 ≡ 0
of_256 = refl

of_257 : units 257 ≡ 1
of_257 = refl

of_512 : units 512 ≡ 1
of_512 = refl

of_513 : units 513 ≡ 2
of_513 = refl

-- memory of 400 bytes, of which the header states so many to be dynamic
abbrev with_base : ℕ → ℕ → State
with_base high low = first_state (replicate 14 0 ++ high ∷ low ∷ replicate 384 0)

abbrev state : State
state = with_base 1 144

-- the last unit can be spent
last_unit : spend_for 257 1 state ≡ done 0 state
unfolding spend_for
last_unit = refl

-- no fuel is left
abbrev here : Next
here = record { program_counter = 100; fuel = 0 }

abbrev there : Next
there = record { program_counter = 106; fuel = 0 }

copies_256 : copy_table here 106 64 0 256 state ≡ done there state
unfolding copy_table write_table test_writable spend_for
copies_256 = refl

copies_257 : copy_table here 106 64 0 257 state ≡ halt (places.Limit limits.Fuel) state
unfolding copy_table write_table test_writable spend_for
copies_257 = refl

-- a size without its sign
copies_forwards_257 : copy_table here 106 64 70 65279 state ≡ halt (places.Limit limits.Fuel) state
unfolding copy_table write_table test_readable test_writable spend_for
copies_forwards_257 = refl

-- M4 comes before the limit
copies_too_far : copy_table here 106 64 0 337 state ≡ halt (places.Fault faults.Write) state
unfolding copy_table write_table test_writable
copies_too_far = refl

-- all entries count, whichever is found, and wherever they end
scans_256 : scan_table here 106 None None 0 64 256 1 state ≡ done there state
unfolding scan_table find_field read_field read_byte give_found test_result test_branch store_result branch_on spend_for
scans_256 = refl

scans_257 : scan_table here 106 None None 0 64 257 1 state ≡ halt (places.Limit limits.Fuel) state
unfolding scan_table spend_for
scans_257 = refl

scans_words_257 : scan_table here 106 None None 0 399 65 0x84 state ≡ halt (places.Limit limits.Fuel) state
unfolding scan_table spend_for
scans_words_257 = refl

-- what is between rows does not count; code 0 prints nothing
prints_256 : print_table [] here 106 64 64 4 9 0 state ≡ done there (record state { text = 10 ∷ 10 ∷ 10 ∷ [] })
unfolding print_table test_readable rows print_each print_whole spend_for
prints_256 = refl

prints_257 : print_table [] here 106 64 257 1 0 100 state ≡ halt (places.Limit limits.Fuel) state
unfolding print_table test_readable spend_for
prints_257 = refl

-- but the spaces at the beginning of a row do
prints_spaces : print_table [] here 106 64 2 2 0 253 state ≡ halt (places.Limit limits.Fuel) state
unfolding print_table test_readable spend_for
prints_spaces = refl

-- a stream to 64 is closed, of so many bytes
abbrev with_stream : Here
with_stream = record (plain (seeded 0) [] here) { streams = record { table = 64; from = 0 } ∷ [] }

abbrev with_text : ℕ → State
with_text count = record state { text = replicate count 65 }

closes_256 : output_stream [] true with_stream 106 (0xFFFD ∷ []) (with_text 256)
    ≡ done (plain (seeded 0) [] there)
    (first_state (replicate 14 0 ++ 1 ∷ 144 ∷ replicate 48 0 ++ 1 ∷ 0 ∷ replicate 256 65 ++ replicate 78 0))
unfolding output_stream test_table spend_cut close characters_in write_bytes settled spend_for
closes_256 = refl

closes_257 : output_stream [] true with_stream 106 (0xFFFD ∷ []) (with_text 257)
    ≡ halt (places.Limit limits.Fuel) (with_text 257)
unfolding output_stream test_table spend_cut characters_in spend_for
closes_257 = refl

-- M4 comes before the limit
closes_too_far : output_stream [] true with_stream 106 (0xFFFD ∷ []) (with_text 335)
    ≡ halt (places.Fault faults.Write) (with_text 335)
unfolding output_stream test_table characters_in
closes_too_far = refl

-- restart spends a unit beside those of dynamic memory
abbrev loaded : Loaded
loaded = record {
  dynamic = [];
  dice = seeded 0;
  is_sum_right = false;
  characters = [];
  own_alphabets = None;
  saves = None;
  has_transcript = false;
}

abbrev with_unit : Here
with_unit = plain (seeded 0) [] (record { program_counter = 100; fuel = 1 })

restarts_256 : restart loaded with_unit (with_base 1 0)
    ≡ done (plain (seeded 0) [] (record { program_counter = 0; fuel = 0 })) (with_base 1 0)
unfolding restart spend spend_for
restarts_256 = refl

restarts_257 : restart loaded with_unit (with_base 1 1) ≡ halt (places.Limit limits.Fuel) (with_base 1 1)
unfolding restart spend spend_for
restarts_257 = refl
