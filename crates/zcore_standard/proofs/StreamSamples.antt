-- output_stream, computed.
use Rattle.std.proofs.Common.{◌≡◌, ℕ, List, [], ◌∷◌, ◌++◌, replicate, Some, None, refl, true, false}
use Rattle.std.specs.Prelude.{codes}
use Rattle.zcore.specs.declared.place.Fault.TheVariants as faults
use Rattle.zcore.specs.declared.place.Place.TheVariants as places
use Rattle.zcore.specs.Parts.{test_result, wait}
use Rattle.zcore.specs.State.{State, done, halt}
use Rattle.zcore.specs.Turn.{first_state}
use Rattle.zcore_standard.specs.declared.streams.Stream.{Stream}
use Rattle.zcore_standard.specs.Fuel.{spend_for}
use Rattle.zcore_standard.specs.Loaded.{seeded}
use Rattle.zcore_standard.specs.Place.{Here, plain}
use Rattle.zcore_standard.specs.Reading.{test_room, test_slots_or_none, wait_for_line, read_line}
use Rattle.zcore_standard.specs.Streams.{characters_in, code_among, zscii_in, open_stream, close, close_all, heard}
use Rattle.zcore_standard.specs.Streams.{test_table, spend_cut, set_transcript, output_stream, begin_read}
use Rattle.zcore_standard.specs.Unicode.{default_characters}
use Rattle.zcore_standard.specs.Windows.{settled, show_upper}
use Rattle.zcore_standard.specs.Words.{write_bytes}

-- From the text to ZSCII

-- a new line is 13
letters : zscii_in [] (codes "Hi" ++ 10 ∷ []) ≡ codes "Hi" ++ 13 ∷ []
unfolding characters_in
letters = refl

-- 155 is an a with two dots, 221 an i with an accent; ZSCII has no euro sign
accents : zscii_in default_characters (0xC3 ∷ 0xA4 ∷ 0xE2 ∷ 0x82 ∷ 0xAC ∷ 65 ∷ 0xC5 ∷ 0x93 ∷ []) ≡ 155 ∷ 63 ∷ 65 ∷ 220 ∷ []
unfolding characters_in code_among
accents = refl

-- a table of the story's own gives codes to 251
own_table : zscii_in (replicate 96 0xA0 ++ 0x20AC ∷ 0x20AD ∷ []) (0xE2 ∷ 0x82 ∷ 0xAC ∷ 0xE2 ∷ 0x82 ∷ 0xAD ∷ []) ≡ 251 ∷ 63 ∷ []
unfolding characters_in code_among
own_table = refl

-- Stream 3

abbrev with_streams : List Stream → ℕ → Here
with_streams streams place =
    record (plain (seeded 12345) [] (record { program_counter = place; fuel = 5 })) { streams = streams }

abbrev stream : ℕ → ℕ → Stream
stream table from = record { table = table; from = from }

-- static base 80; from 64 on eight bytes, and eight more
abbrev state : ℕ → List ℕ → List ℕ → State
state flags bytes text = record (first_state
    (replicate 15 0 ++ (80 ∷ 0 ∷ flags ∷ []) ++ replicate 46 0 ++ bytes ++ replicate 8 9)) { text = text }

abbrev empty : List ℕ
empty = replicate 8 9

opened : output_stream [] true (with_streams [] 100) 104 (3 ∷ 64 ∷ []) (state 0 empty (codes "ab"))
    ≡ done (with_streams (stream 64 2 ∷ []) 104) (state 0 empty (codes "ab"))
unfolding output_stream open_stream
opened = refl

closed : output_stream [] true (with_streams (stream 64 2 ∷ []) 104) 107 (0xFFFD ∷ []) (state 0 empty (codes "abHi!"))
    ≡ done (with_streams [] 107) (state 0 (0 ∷ 3 ∷ codes "Hi!" ++ replicate 3 9) (codes "ab"))
unfolding output_stream test_table spend_cut close characters_in write_bytes settled spend_for
closed = refl

-- the inner one of two; what it was given is not given to the outer one
inner : output_stream [] true (with_streams (stream 72 4 ∷ stream 64 2 ∷ []) 104) 107 (0xFFFD ∷ []) (state 0 empty (codes "abHi"))
    ≡ done (with_streams (stream 64 2 ∷ []) 107)
    (record (state 0 empty (codes "abHi")) {
      memory = replicate 15 0 ++ (80 ∷ []) ++ replicate 48 0 ++ replicate 8 9 ++ 0 ∷ 0 ∷ replicate 6 9;
    })
unfolding output_stream test_table spend_cut close characters_in write_bytes settled spend_for
inner = refl

none_to_close : output_stream [] true (with_streams [] 104) 107 (0xFFFD ∷ []) (state 0 empty (codes "ab"))
    ≡ done (with_streams [] 107) (state 0 empty (codes "ab"))
unfolding output_stream
none_to_close = refl

-- M1 without a table, M12 for the seventeenth, M4 where the table passes static base
no_table : output_stream [] true (with_streams [] 100) 103 (3 ∷ []) (state 0 empty [])
    ≡ halt (places.Fault faults.Opcode) (state 0 empty [])
unfolding output_stream
no_table = refl

sixteenth : output_stream [] true (with_streams (replicate 15 (stream 64 0)) 100) 104 (3 ∷ 66 ∷ []) (state 0 empty [])
    ≡ done (with_streams (stream 66 0 ∷ replicate 15 (stream 64 0)) 104) (state 0 empty [])
unfolding output_stream open_stream
sixteenth = refl

seventeenth : output_stream [] true (with_streams (replicate 16 (stream 64 0)) 100) 104 (3 ∷ 66 ∷ []) (state 0 empty [])
    ≡ halt (places.Fault faults.Buffer) (state 0 empty [])
unfolding output_stream open_stream
seventeenth = refl

no_room : output_stream [] true (with_streams (stream 77 0 ∷ []) 104) 107 (0xFFFD ∷ []) (state 0 empty (codes "Hi"))
    ≡ halt (places.Fault faults.Write) (state 0 empty (codes "Hi"))
unfolding output_stream test_table characters_in
no_room = refl

-- what is heard where two streams are open
outer : heard (stream 72 4 ∷ stream 64 2 ∷ []) (codes "abHi, you") ≡ codes "ab"
outer = refl

-- aread at 72, with room for two letters, closes both
reads : read_line [] (with_streams (stream 68 4 ∷ stream 64 2 ∷ []) 104) 107 None 72 0
    (record (state 0 empty (codes "abHi!")) {
      memory = replicate 15 0 ++ (80 ∷ []) ++ replicate 56 0 ++ 2 ∷ replicate 7 0;
    })
    ≡ halt places.Waiting (record (state 0 empty (codes "ab")) {
      memory = replicate 15 0 ++ (80 ∷ []) ++ replicate 48 0 ++ (0 ∷ 2 ∷ codes "Hi") ++ (0 ∷ 1 ∷ 33 ∷ 0 ∷ 2 ∷ []) ++ replicate 7 0;
      pending = Some (record { text_buffer = 72; parse_buffer = 0; result = None; return_address = 107 });
    })
unfolding read_line begin_read show_upper close_all close characters_in write_bytes wait_for_line test_room test_slots_or_none test_result wait
reads = refl

-- Streams 2, 1 and 4

transcript_on : output_stream [] true (with_streams [] 100) 103 (2 ∷ []) (state 6 empty [])
    ≡ done (with_streams [] 103) (state 7 empty [])
unfolding output_stream set_transcript
transcript_on = refl

-- where the player writes none, the bit stays as it is
no_transcript : output_stream [] false (with_streams [] 100) 103 (2 ∷ []) (state 6 empty [])
    ≡ done (with_streams [] 103) (state 6 empty [])
unfolding output_stream
no_transcript = refl

transcript_off : output_stream [] true (with_streams [] 100) 103 (0xFFFE ∷ []) (state 7 empty [])
    ≡ done (with_streams [] 103) (state 6 empty [])
unfolding output_stream set_transcript
transcript_off = refl

screen_off : output_stream [] true (with_streams [] 100) 103 (0xFFFF ∷ []) (state 6 empty (codes "ab"))
    ≡ done (with_streams [] 103) (state 6 empty (codes "ab"))
unfolding output_stream
screen_off = refl
