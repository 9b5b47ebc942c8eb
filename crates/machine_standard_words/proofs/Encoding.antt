-- The form of a word, read and written.
use Rattle.std.proofs.Common.{◌≡◌, ℕ, ◌+◌, List, length, refl, ap, sym, ◌∙◌, true, false, Ok, Err}
use Rattle.std.specs.Prelude.{slice_range}
use Rattle.journal.specs.Recording.{Recording}
use Rattle.zcore.specs.declared.place.Fault.TheVariants as faults
use Rattle.zcore.specs.declared.place.Place.TheVariants as places
use Rattle.zcore.specs.State.{done}
use Rattle.zcore.specs.Turn.{with_bytes}
use Rattle.zcore_standard.specs.Words.{are_readable, are_writable, form_of, form_at, write_bytes}
use Rattle.machine_frames.specs.Contents.{Contents, memory_of}
use Rattle.machine_frames.specs.States.{IsSound}
use Rattle.machine_frames.specs.Went.{Went}
use Rattle.machine_frames.specs.declared.end.End.TheVariants as ends
use Rattle.machine_frames.proofs.Steps.{went_still, went_halt}
use Rattle.machine_lines.specs.Lines.{Filled}

pub form_read : (s : Recording Contents) (alphabets : List ℕ) (memory word form : List ℕ) (at count : ℕ) → IsSound s.store
    → memory ≡ memory_of s.store → are_readable memory at count ≡ true → word ≡ slice_range memory at (at + count)
    → form ≡ form_of alphabets word → Went (Ok form) s s (form_at alphabets at count)
unfolding form_at
form_read s alphabets memory word form at count sound is readable part e =
    let holds : are_readable (memory_of s.store) at count ≡ true = rw is at readable in
    let all : form_of alphabets (slice_range (memory_of s.store) at (at + count)) ≡ form =
    sym (e ∙ ap (form_of alphabets) (part ∙ ap (λ m. slice_range m at (at + count)) is)) in
    went_still s (form_at alphabets at count) sound (λ t. rw (holds, all) refl)

pub form_unread : (s : Recording Contents) (alphabets : List ℕ) (memory : List ℕ) (at count : ℕ) → IsSound s.store
    → memory ≡ memory_of s.store → are_readable memory at count ≡ false
    → Went {A = List ℕ} (Err (ends.Stop (places.Fault faults.Read))) s s (form_at alphabets at count)
unfolding form_at
form_unread s alphabets memory at count sound is unreadable =
    let fails : are_readable (memory_of s.store) at count ≡ false = rw is at unreadable in
    went_halt s (form_at alphabets at count) sound (λ t. rw fails refl)

pub bytes_written : (s t : Recording Contents) (at : ℕ) (bytes : List ℕ)
    → are_writable (memory_of s.store) at (length bytes) ≡ true → Filled s t (with_bytes (memory_of s.store) at bytes)
    → Went (Ok tt) s t (write_bytes at bytes)
unfolding write_bytes
bytes_written s t at bytes holds filled =
    record { did = (filled.goes_on, λ x. rw holds (ap (λ y. done tt y) (sym (filled.state x)))) }

pub bytes_unwritten : (s : Recording Contents) (at : ℕ) (bytes : List ℕ) → IsSound s.store
    → are_writable (memory_of s.store) at (length bytes) ≡ false
    → Went {A = Unit {0}} (Err (ends.Stop (places.Fault faults.Write))) s s (write_bytes at bytes)
unfolding write_bytes
bytes_unwritten s at bytes sound fails =
    went_halt s (write_bytes at bytes) sound (λ t. rw fails refl)
