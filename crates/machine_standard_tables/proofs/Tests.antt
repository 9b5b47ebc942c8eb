-- Tests of all the bytes of a table.
use Rattle.std.proofs.Common.{◌≡◌, ℕ, ◌+◌, ◌-◌, ◌<◌, ◌≤◌, List, [], length, refl, ap, arith, Bool, true, false, Ok, Err}
use Rattle.std.specs.Prelude.{◌==◌, ◌&&◌, nat_le}
use Rattle.std.proofs.lemmas.Bool.{ne_eqb, and_parts, ltb-true, leb-true}
use Rattle.journal.specs.Recording.{Recording}
use Rattle.zcore.specs.declared.place.Fault.{Fault}
use Rattle.zcore.specs.declared.place.Fault.TheVariants as faults
use Rattle.zcore.specs.declared.place.Place.TheVariants as places
use Rattle.zcore.specs.Header.{static_base_of}
use Rattle.zcore.specs.Parts.{test, is_readable}
use Rattle.zcore.specs.State.{State, done}
use Rattle.zcore.proofs.KeepingReads.{never}
use Rattle.zcore_standard.specs.Tables.{are_readable, are_writable, test_readable, test_writable}
use Rattle.machine_frames.specs.Contents.{Contents, memory_of}
use Rattle.machine_frames.specs.States.{IsSound, state_of}
use Rattle.machine_frames.specs.Went.{Went}
use Rattle.machine_frames.specs.declared.end.End.TheVariants as ends
use Rattle.machine_frames.proofs.Steps.{went_still, went_halt}

-- What the tests answer

pub readable_went : (s : Recording Contents) (at count : ℕ) → IsSound s.store
    → are_readable (memory_of s.store) at count ≡ true → Went (Ok tt) s s (test_readable at count)
unfolding test_readable
readable_went s at count sound e = went_still s (test_readable at count) sound
    (λ t. ap (λ (b : Bool). test b faults.Read (state_of s.store t)) e)

pub readable_none : (s : Recording Contents) (at count : ℕ) → IsSound s.store
    → are_readable (memory_of s.store) at count ≡ false
    → Went {A = Unit {0}} (Err (ends.Stop (places.Fault faults.Read))) s s (test_readable at count)
unfolding test_readable
readable_none s at count sound e = went_halt s (test_readable at count) sound
    (λ t. ap (λ (b : Bool). test b faults.Read (state_of s.store t)) e)

pub writable_went : (s : Recording Contents) (at count : ℕ) → IsSound s.store
    → are_writable (memory_of s.store) at count ≡ true → Went (Ok tt) s s (test_writable at count)
unfolding test_writable
writable_went s at count sound e = went_still s (test_writable at count) sound
    (λ t. ap (λ (b : Bool). test b faults.Write (state_of s.store t)) e)

pub writable_none : (s : Recording Contents) (at count : ℕ) → IsSound s.store
    → are_writable (memory_of s.store) at count ≡ false
    → Went {A = Unit {0}} (Err (ends.Stop (places.Fault faults.Write))) s s (test_writable at count)
unfolding test_writable
writable_none s at count sound e = went_halt s (test_writable at count) sound
    (λ t. ap (λ (b : Bool). test b faults.Write (state_of s.store t)) e)

-- What is known after a test that passes

passed : (b : Bool) (cause : Fault) (s : State) → test b cause s ≡ done tt s → b ≡ true
passed true cause s h = refl
passed false cause s h = absurd (never _ tt s s h)

pub is_readable_after : (s : Recording Contents) (at count : ℕ) → Went (Ok tt) s s (test_readable at count)
    → are_readable (memory_of s.store) at count ≡ true
unfolding test_readable
is_readable_after s at count w = passed _ faults.Read (state_of s.store []) (w.did.1 [])

pub is_writable_after : (s : Recording Contents) (at count : ℕ) → Went (Ok tt) s s (test_writable at count)
    → are_writable (memory_of s.store) at count ≡ true
unfolding test_writable
is_writable_after s at count w = passed _ faults.Write (state_of s.store []) (w.did.1 [])

-- a table that has a byte
some_bytes : (count i : ℕ) → i < count → (count == 0) ≡ false
some_bytes count i lt = ne_eqb count 0 (λ e. let no : ⊥ = omega arith in no)

pub readable_each : (m : List ℕ) (at count i : ℕ) → are_readable m at count ≡ true → i < count → at + i < length m
readable_each m at count i h lt =
    let some = some_bytes count i lt in
    let last : is_readable m (at + count - 1) ≡ true = rw some at h in
    let inside = ltb-true (at + count - 1) (length m) (and_parts _ _ last).0 in
    omega (arith, inside)

-- a table in dynamic memory
pub record IsWithin (m : List ℕ) (at count : ℕ) : Type 0 where
  pub past : 64 ≤ at
  pub room : at + count ≤ static_base_of m

pub writable_all : (m : List ℕ) (at count i : ℕ) → are_writable m at count ≡ true → i < count → IsWithin m at count
writable_all m at count i h lt =
    let some = some_bytes count i lt in
    let both : (nat_le 64 at && nat_le (at + count) (static_base_of m)) ≡ true = rw some at h in
    let parts = and_parts _ _ both in
    record { past = leb-true 64 at parts.0; room = leb-true (at + count) (static_base_of m) parts.1 }
