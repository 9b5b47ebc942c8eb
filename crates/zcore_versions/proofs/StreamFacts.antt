-- output_stream makes the weight of a turn fall, and never waits; nor does what a read does first.
use Rattle.std.proofs.Common.{ℕ, ◌+◌, ◌-◌, ◌*◌, ◌/◌, ◌<◌, List, [], ◌∷◌, length, slice_index, refl}
use Rattle.std.proofs.Common.{arith, Bool}
use Rattle.std.specs.Prelude.{◌==◌, nat_lt}
use Rattle.std.proofs.lemmas.List.{length-set}
use Rattle.zcore.specs.declared.place.Fault.TheVariants as faults
use Rattle.zcore.specs.declared.place.Place.TheVariants as places
use Rattle.zcore.specs.Parts.{fault, test}
use Rattle.zcore.proofs.KeepingReads.{Keeps, alike_same, alike_then, done_alike, never}
use Rattle.zcore.proofs.KeepingReads.{both, keeps_then, keeps_test}
use Rattle.zcore.proofs.FallsOfParts.{falls_alike}
use Rattle.zcore.proofs.WaitingTests.{Waits, waits_done, waits_fault, waits_then, waits_chosen, waits_test}
use Rattle.zcore_standard.specs.declared.streams.Stream.{Stream}
use Rattle.zcore_standard.specs.Place.{Here, on, past}
use Rattle.zcore_standard.specs.Streams.{most_streams, open_stream, written_by, close, test_table, spend_cut}
use Rattle.zcore_standard.specs.Streams.{close_first, close_all, flags_2_low, set_transcript, closing, output_stream}
use Rattle.zcore_standard.specs.Streams.{begin_read}
use Rattle.zcore_versions.proofs.FuelFacts.{LeavesOf, keeps_spend_for, spend_for_leaves, waits_spend_for}
use Rattle.zcore_versions.proofs.FuelFacts.{falls_less}
use Rattle.zcore_versions.proofs.WindowFacts.{FallsFrom, moves, either_falls, done_falls, settled_falls}
use Rattle.zcore_versions.proofs.WindowFacts.{waits_settled, waits_show_upper}
use Rattle.zcore_versions.proofs.WordFacts.{keeps_write_bytes, waits_write_bytes}

-- Parts keep the lengths of the memory and of the list of frames

keeps_close : (extra : List ℕ) (stream : Stream) → Keeps (close extra stream)
unfolding close
keeps_close extra stream =
    keeps_then _ _ (λ s t a h. keeps_write_bytes stream.table (written_by extra stream s.text) s t a h)
    (λ _ s t a h. done_alike tt a s t _ (record { memory = refl; frames = refl }) h)

keeps_test_table : (extra : List ℕ) (stream : Stream) → Keeps (test_table extra stream)
unfolding test_table
keeps_test_table extra stream s t a h = keeps_test _ faults.Write s t a h

keeps_spend_cut : (stream : Stream) (fuel : ℕ) → Keeps (spend_cut stream fuel)
unfolding spend_cut
keeps_spend_cut stream fuel s t a h = keeps_spend_for (length s.text - stream.from) fuel s t a h

spend_cut_leaves : (stream : Stream) (fuel : ℕ) → LeavesOf fuel (spend_cut stream fuel)
unfolding spend_cut
spend_cut_leaves stream fuel s t left h = spend_for_leaves (length s.text - stream.from) fuel s t left h

-- The weight falls

open_falls : (here : Here) (after table : ℕ) → here.next.program_counter < after
    → FallsFrom here (open_stream here after table)
unfolding open_stream
open_falls here after table ahead s t next inside h =
    let p = both (test (nat_lt (length here.streams) most_streams) faults.Buffer s) _ next t h in
    let alike = keeps_test (nat_lt (length here.streams) most_streams) faults.Buffer s p.between p.value p.first in
    falls_alike here.next next.next s p.between t alike
    (moves here _ after p.between p.between t next (alike_same p.between p.between refl) refl ahead
    (omega (arith, alike.memory)) p.second)

close_falls : (extra : List ℕ) (here : Here) (after : ℕ) (streams : List Stream) → here.next.program_counter < after
    → FallsFrom here (close_first extra here after streams)
close_falls extra here after [] ahead = done_falls here (past here after) after refl ahead
close_falls extra here after (stream ∷ streams) ahead = λ s t next inside h.
    let p = both (test_table extra stream s) _ next t h in
    let q = both (spend_cut stream here.next.fuel p.between) _ next t p.second in
    let r = both (close extra stream q.between) _ next t q.second in
    let one = keeps_test_table extra stream s p.between p.value p.first in
    let two = keeps_spend_cut stream here.next.fuel p.between q.between q.value q.first in
    let three = keeps_close extra stream q.between r.between r.value r.first in
    let alike = alike_then s p.between r.between one (alike_then p.between q.between r.between two three) in
    let lighter : Here = on here (record here.next { fuel = q.value }) in
    falls_alike here.next next.next s r.between t alike
    (falls_less here.next next.next q.value r.between t
    (spend_cut_leaves stream here.next.fuel p.between q.between q.value q.first)
    (settled_falls lighter (record (past lighter after) { streams = streams }) after refl ahead r.between t next
    (omega (arith, inside, alike.memory)) r.second))

transcript_falls : (here : Here) (after bit : ℕ) → here.next.program_counter < after
    → FallsFrom here (set_transcript here after bit)
unfolding set_transcript
transcript_falls here after bit ahead s t next inside h =
    moves here _ after s _ t next
    (record { memory = length-set s.memory flags_2_low (slice_index s.memory flags_2_low / 2 * 2 + bit); frames = refl })
    refl ahead inside h

no_table_falls : (here : Here) → FallsFrom here (fault faults.Opcode)
no_table_falls here s t next inside h = absurd (never (places.Fault faults.Opcode) next s t h)

pub output_stream_falls : (extra : List ℕ) (is_there : Bool) (here : Here) (after : ℕ) (values : List ℕ)
    → here.next.program_counter < after → FallsFrom here (output_stream extra is_there here after values)
unfolding output_stream
output_stream_falls extra is_there here after values ahead =
    let number = slice_index values 0 in
    either_falls (number == 3) here _ _
    (either_falls (length values == 1) here _ _ (no_table_falls here)
    (open_falls here after (slice_index values 1) ahead))
    (either_falls (number == closing 3) here _ _ (close_falls extra here after here.streams ahead)
    (either_falls (number == 2) here _ _ (either_falls is_there here _ _ (transcript_falls here after 1 ahead)
    (done_falls here (past here after) after refl ahead))
    (either_falls (number == closing 2) here _ _ (transcript_falls here after 0 ahead)
    (done_falls here (past here after) after refl ahead))))

-- It never waits

waits_close : (extra : List ℕ) (stream : Stream) → Waits (close extra stream)
unfolding close
waits_close extra stream =
    waits_then _ _ (λ s t h. waits_write_bytes stream.table (written_by extra stream s.text) s t h)
    (λ _ s t h. waits_done tt _ t h)

waits_close_all : (extra : List ℕ) (streams : List Stream) → Waits (close_all extra streams)
unfolding close_all
waits_close_all extra [] = waits_done tt
waits_close_all extra (stream ∷ streams) =
    waits_then _ _ (waits_close extra stream) (λ _. waits_close_all extra streams)

waits_open : (here : Here) (after table : ℕ) → Waits (open_stream here after table)
unfolding open_stream
waits_open here after table =
    waits_then _ _ (waits_test (nat_lt (length here.streams) most_streams) faults.Buffer)
    (λ _ s t h. waits_done _ s t h)

waits_test_table : (extra : List ℕ) (stream : Stream) → Waits (test_table extra stream)
unfolding test_table
waits_test_table extra stream s t h = waits_test _ faults.Write s t h

waits_spend_cut : (stream : Stream) (fuel : ℕ) → Waits (spend_cut stream fuel)
unfolding spend_cut
waits_spend_cut stream fuel s t h = waits_spend_for (length s.text - stream.from) fuel s t h

waits_close_first : (extra : List ℕ) (here : Here) (after : ℕ) (streams : List Stream)
    → Waits (close_first extra here after streams)
waits_close_first extra here after [] = waits_done (past here after)
waits_close_first extra here after (stream ∷ streams) =
    waits_then _ _ (waits_test_table extra stream) (λ _.
    waits_then _ _ (waits_spend_cut stream here.next.fuel) (λ left.
    waits_then _ _ (waits_close extra stream)
    (λ _. waits_settled (record (on here (record { program_counter = after; fuel = left })) { streams = streams }))))

waits_transcript : (here : Here) (after bit : ℕ) → Waits (set_transcript here after bit)
unfolding set_transcript
waits_transcript here after bit s t h = waits_done _ _ t h

pub waits_output_stream : (extra : List ℕ) (is_there : Bool) (here : Here) (after : ℕ) (values : List ℕ)
    → Waits (output_stream extra is_there here after values)
unfolding output_stream
waits_output_stream extra is_there here after values =
    let number = slice_index values 0 in
    waits_chosen (number == 3) _ _
    (waits_chosen (length values == 1) _ _ (λ s t h. waits_fault faults.Opcode s t h)
    (waits_open here after (slice_index values 1)))
    (waits_chosen (number == closing 3) _ _ (waits_close_first extra here after here.streams)
    (waits_chosen (number == 2) _ _ (waits_chosen is_there _ _ (waits_transcript here after 1)
    (waits_done (past here after)))
    (waits_chosen (number == closing 2) _ _ (waits_transcript here after 0)
    (waits_done (past here after)))))

-- A read

pub waits_begin_read : (extra : List ℕ) (here : Here) → Waits (begin_read extra here)
unfolding begin_read
waits_begin_read extra here =
    waits_then _ _ (waits_close_all extra here.streams) (λ _. waits_show_upper here)
