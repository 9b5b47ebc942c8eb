-- A store to Flags 2 is a fault in the profile. Here it makes the weight of a turn fall, and does not wait.
use Rattle.std.proofs.Common.{◌≡◌, ℕ, ◌+◌, ◌*◌, ◌/◌, ◌%◌, ◌<◌, List, length, refl, Bool, true, false, cond, slice_index}
use Rattle.std.proofs.Common.{Option}
use Rattle.std.specs.Prelude.{◌||◌, ◌==◌}
use Rattle.std.proofs.lemmas.Bool.{eqb-true}
use Rattle.std.proofs.lemmas.List.{length-set}
use Rattle.zcore.specs.declared.instruction.Branch.{Branch}
use Rattle.zcore.specs.declared.instruction.Operation.{Operation}
use Rattle.zcore.specs.declared.instruction.Operation.TheVariants as operations
use Rattle.zcore.specs.declared.next.Next.{Next}
use Rattle.zcore.specs.declared.place.Fault.TheVariants as faults
use Rattle.zcore.specs.Execution.{perform, store_word, store_byte}
use Rattle.zcore.specs.Parts.{fault, write_byte, write_word}
use Rattle.zcore.specs.State.{State}
use Rattle.zcore.proofs.FallsOfParts.{FallsFrom, falls_alike, goes_on_falls}
use Rattle.zcore.proofs.WaitingTests.{Waits}
use Rattle.zcore.proofs.WaitingParts.{waits_goes_on}
use Rattle.zcore_standard.specs.Flags.{concerns_flags, has_free_bits, with_free_bits, perform_on_flags}
use Rattle.zcore_standard.specs.Streams.{flags_2_low}
use Rattle.zcore_versions.specs.StandardLaws.{ends_in_fault}
use Rattle.zcore_versions.proofs.Objects.{one}

word_faults : (at word : ℕ) (s : State) → at ≡ 16 → write_word at word s ≡ fault faults.Write s
unfolding write_word
word_faults at word s e = rw e refl

first_faults : (at byte : ℕ) (s : State) → at ≡ 16 → write_byte at byte s ≡ fault faults.Write s
unfolding write_byte
first_faults at byte s e = rw e refl

second_faults : (at byte : ℕ) (s : State) → at ≡ 17 → write_byte at byte s ≡ fault faults.Write s
unfolding write_byte
second_faults at byte s e = rw e refl

store_word_faults : (here : Next) (after array index word : ℕ) (s : State) → (array + 2 * index) % 65536 ≡ 16
    → ends_in_fault (store_word here after array index word s) ≡ true
unfolding store_word
store_word_faults here after array index word s e = rw (word_faults _ word s e) refl

store_byte_faults : (here : Next) (after array index byte : ℕ) (s : State)
    → ((array + index) % 65536 == 16 || (array + index) % 65536 == 17) ≡ true
    → ends_in_fault (store_byte here after array index byte s) ≡ true
unfolding store_byte
store_byte_faults here after array index byte s e =
    let at = (array + index) % 65536 in
    one (at == 16) (at == 17) (λ h. rw (first_faults at (byte % 256) s (eqb-true at 16 h)) refl)
    (λ h. rw (second_faults at (byte % 256) s (eqb-true at 17 h)) refl) e

pub perform_flags_faults : (operation : Operation) (here : Next) (after : ℕ) (result : Option ℕ)
    (branch : Option Branch) (values : List ℕ) (s : State) → concerns_flags operation values ≡ true
    → ends_in_fault (perform operation here after result branch values s) ≡ true
unfolding perform
perform_flags_faults operations.StoreWord here after result branch values s e =
    store_word_faults here after _ _ (slice_index values 2) s (eqb-true _ 16 e)
perform_flags_faults operations.StoreByte here after result branch values s e =
    store_byte_faults here after _ _ (slice_index values 2) s e
perform_flags_faults _ here after result branch values s e = absurd (cc)

length_if : (b : Bool) (memory : List ℕ) (number : ℕ)
    → length (cond b (with_free_bits memory number) memory) ≡ length memory
length_if true memory number = length-set memory flags_2_low (slice_index memory flags_2_low / 8 * 8 + number % 8)
length_if false memory number = refl

pub perform_on_flags_falls : (operation : Operation) (here : Next) (after : ℕ) (values : List ℕ)
    → here.program_counter < after → FallsFrom here (perform_on_flags operation here after values)
unfolding perform_on_flags
perform_on_flags_falls operation here after values ahead s t next inside h =
    let same = length_if (has_free_bits operation values) s.memory (slice_index values 2) in
    let u : State = record s {
      memory = cond (has_free_bits operation values) (with_free_bits s.memory (slice_index values 2)) s.memory;
    } in
    falls_alike here next s u t (record { memory = same; frames = refl })
    (goes_on_falls here after ahead u t next (rw same inside) h)

pub waits_perform_on_flags : (operation : Operation) (here : Next) (after : ℕ) (values : List ℕ)
    → Waits (perform_on_flags operation here after values)
unfolding perform_on_flags
waits_perform_on_flags operation here after values s t h = waits_goes_on after here.fuel _ t h
