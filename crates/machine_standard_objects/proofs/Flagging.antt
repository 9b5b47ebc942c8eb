-- Stores to Flags 2.
use Rattle.std.proofs.Common.{◌≡◌, ℕ, ◌+◌, ◌*◌, ◌/◌, ◌%◌, ◌<◌, ◌++◌, Bool, true, false, cond, List, length, get_or, set, drop}
use Rattle.std.proofs.Common.{ap, sym, ◌∙◌, arith, slice_index, Ok}
use Rattle.std.proofs.lemmas.List.{get_or-set_other, length-set, drop-set-add, set-append_left, length-drop}
use Rattle.journal.specs.Recording.{Recording}
use Rattle.zcore.specs.declared.instruction.Operation.{Operation}
use Rattle.zcore.specs.declared.next.Next.{Next}
use Rattle.zcore.specs.State.{done}
use Rattle.zcore_standard.specs.Flags.{has_free_bits, with_free_bits, perform_on_flags}
use Rattle.machine_frames.specs.Contents.{Contents, memory_of}
use Rattle.machine_frames.specs.States.{IsSound, state_of}
use Rattle.machine_frames.specs.Went.{Went}
use Rattle.machine_frames.proofs.Kept.{Writes, length-memory, went_memory}
use Rattle.machine_frames.proofs.Steps.{went_still}

dropped_set : (c fixed : List ℕ) (a v : ℕ) → 72559 + a < length c
    → drop 72559 (set c (72559 + a) v) ++ fixed ≡ set (drop 72559 c ++ fixed) a v
dropped_set c fixed a v inside =
    ap (λ x. x ++ fixed) (drop-set-add 72559 c a v)
    ∙ sym (set-append_left (drop 72559 c) fixed a v (omega (arith, length-drop 72559 c)))

pub flags_written : (s t : Recording Contents) (v : ℕ) → IsSound s.store
    → t.store.cells ≡ set s.store.cells 72576 v → t.store.fixed ≡ s.store.fixed → t.beginning ≡ s.beginning
    → Writes s t (set (memory_of s.store) 17 v)
flags_written s t v sound cells fixed beginning =
    let c = s.store.cells in
    let m = memory_of s.store in
    record {
      size = ap length cells ∙ length-set c 72576 v;
      below = λ k l. ap (λ x. get_or x k 0) cells ∙ get_or-set_other c 72576 k v 0 (omega (arith, l));
      memory = ap (λ x. drop 72559 x ++ t.store.fixed) cells ∙ ap (λ x. drop 72559 (set c 72576 v) ++ x) fixed
          ∙ dropped_set c s.store.fixed 17 v
          (omega (arith, sound.size, sound.static_base, length-memory s.store sound));
      long = length-set m 17 v;
      header = record {
        before_flags = λ k l. get_or-set_other m 17 k v 0 (omega (arith, l));
        after_flags = λ k l r. get_or-set_other m 17 k v 0 (omega (arith, l));
      };
      fixed = fixed;
      beginning = beginning;
    }

-- the bits change
pub flags_went : (s t : Recording Contents) (operation : Operation) (here : Next) (after : ℕ) (values : List ℕ) (v : ℕ)
    → IsSound s.store → has_free_bits operation values ≡ true
    → v ≡ slice_index (memory_of s.store) 17 / 8 * 8 + slice_index values 2 % 8
    → t.store.cells ≡ set s.store.cells 72576 v → t.store.fixed ≡ s.store.fixed → t.beginning ≡ s.beginning
    → Went (Ok (record { program_counter = after; fuel = here.fuel })) s t (perform_on_flags operation here after values)
unfolding perform_on_flags
flags_went s t operation here after values v sound has is cells fixed beginning =
    let next : Next = record { program_counter = after; fuel = here.fuel } in
    let m = memory_of s.store in
    went_memory s t (set m 17 v) (perform_on_flags operation here after values) sound
    (flags_written s t v sound cells fixed beginning)
    (λ text. ap (λ (b : Bool). done next (record (state_of s.store text) {
      memory = cond b (with_free_bits m (slice_index values 2)) m;
    })) has ∙ ap (λ x. done next (record (state_of s.store text) { memory = set m 17 x })) (sym is))

-- none of them is in the byte
pub flags_still : (s : Recording Contents) (operation : Operation) (here : Next) (after : ℕ) (values : List ℕ)
    → IsSound s.store → has_free_bits operation values ≡ false
    → Went (Ok (record { program_counter = after; fuel = here.fuel })) s s (perform_on_flags operation here after values)
unfolding perform_on_flags
flags_still s operation here after values sound has =
    let next : Next = record { program_counter = after; fuel = here.fuel } in
    let m = memory_of s.store in
    went_still s (perform_on_flags operation here after values) sound
    (λ text. ap (λ (b : Bool). done next (record (state_of s.store text) {
      memory = cond b (with_free_bits m (slice_index values 2)) m;
    })) has)
