-- Tests before the machine waits for a line.
use Rattle.std.proofs.Common.{◌≡◌, ℕ, List, ap, sym, ◌∙◌, true, false, Ok, Err}
use Rattle.journal.specs.Recording.{Recording}
use Rattle.zcore.specs.declared.place.Fault.TheVariants as faults
use Rattle.zcore.specs.declared.place.Place.TheVariants as places
use Rattle.zcore.specs.Parts.{test}
use Rattle.zcore_standard.specs.Words.{has_slots, test_slots}
use Rattle.zcore_versions.specs.Reading.{has_room, test_room}
use Rattle.machine_frames.specs.Contents.{Contents, memory_of}
use Rattle.machine_frames.specs.States.{state_of, IsSound}
use Rattle.machine_frames.specs.Went.{Went}
use Rattle.machine_frames.specs.declared.end.End.TheVariants as ends
use Rattle.machine_frames.proofs.Steps.{went_still, went_halt}

pub room_found : (s : Recording Contents) (m : List ℕ) (text : ℕ) → IsSound s.store → m ≡ memory_of s.store
    → true ≡ has_room m text → Went (Ok tt) s s (test_room text)
unfolding test_room
room_found s m text sound is holds =
    went_still s (test_room text) sound (λ t. ap (λ b. test b faults.Buffer (state_of s.store t))
    (sym (holds ∙ ap (λ l. has_room l text) is)))

pub no_room : (s : Recording Contents) (m : List ℕ) (text : ℕ) → IsSound s.store → m ≡ memory_of s.store
    → false ≡ has_room m text → Went (Err (ends.Stop (places.Fault faults.Buffer))) s s (test_room text)
unfolding test_room
no_room s m text sound is fails =
    went_halt s (test_room text) sound (λ t. ap (λ b. test b faults.Buffer (state_of s.store t))
    (sym (fails ∙ ap (λ l. has_room l text) is)))

pub slots_found : (s : Recording Contents) (m : List ℕ) (parse : ℕ) → IsSound s.store → m ≡ memory_of s.store
    → true ≡ has_slots m parse → Went (Ok tt) s s (test_slots parse)
unfolding test_slots
slots_found s m parse sound is holds =
    went_still s (test_slots parse) sound (λ t. ap (λ b. test b faults.Buffer (state_of s.store t))
    (sym (holds ∙ ap (λ l. has_slots l parse) is)))

pub no_slots : (s : Recording Contents) (m : List ℕ) (parse : ℕ) → IsSound s.store → m ≡ memory_of s.store
    → false ≡ has_slots m parse → Went (Err (ends.Stop (places.Fault faults.Buffer))) s s (test_slots parse)
unfolding test_slots
no_slots s m parse sound is fails =
    went_halt s (test_slots parse) sound (λ t. ap (λ b. test b faults.Buffer (state_of s.store t))
    (sym (fails ∙ ap (λ l. has_slots l parse) is)))
