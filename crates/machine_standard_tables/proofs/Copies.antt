-- Tables that are written to a store, byte by byte.
use Rattle.std.proofs.Common.{◌≡◌, ℕ, zero, suc, ◌+◌, ◌-◌, ◌<◌, ◌≤◌, List, length, drop, set, slice_index, refl, ap, sym, ◌∙◌, subst, arith, true, Ok}
use Rattle.std.proofs.Common.{Result, Err, cond, Bool}
use Rattle.std.specs.Prelude.{OnOk, nat_le, nat_lt}
use Rattle.std.proofs.lemmas.Bool.{and_from, eq-eqb, le-leb, lt-leb, lt-ltb, ne_eqb}
use Rattle.std.proofs.lemmas.List.{length-append, length-drop}
use Rattle.journal.specs.Recording.{Recording}
use Rattle.zcore.specs.declared.next.Next.{Next}
use Rattle.zcore.specs.Arithmetic.{is_negative, magnitude}
use Rattle.zcore.specs.Header.{static_base_of}
use Rattle.zcore.specs.Parts.{is_writable}
use Rattle.zcore.specs.State.{State, Out, done, ◌>>=◌}
use Rattle.zcore_standard.specs.Fuel.{spend_for}
use Rattle.zcore_standard.specs.Tables.{are_readable, are_writable, cleared, copied_at_once, copied_forwards}
use Rattle.zcore_standard.specs.Tables.{copy_table, test_readable, test_writable, write_table}
use Rattle.machine_frames.specs.Contents.{Contents, memory_of}
use Rattle.machine_frames.specs.States.{IsSound, state_of}
use Rattle.machine_frames.specs.Went.{GoesOn, Went}
use Rattle.machine_frames.specs.declared.end.End.{End}
use Rattle.machine_frames.proofs.Kept.{length-memory}
use Rattle.machine_frames.proofs.Steps.{goes_on_still, went_as, went_no_further, went_sound, went_then}
use Rattle.machine_lines.specs.Lines.{Filled}
use Rattle.machine_opcodes.specs.Says.{Says}
use Rattle.machine_opcodes.proofs.Saying.{went_says}
use Rattle.machine_lines.proofs.Filling.{filled_memory, filled_then}
use Rattle.machine_lines.proofs.Lines.{base_kept}
use Rattle.machine_standard_tables.proofs.Bytes.{cleared_more, copied_from, forwards_more, forwards_at_once, from_more}
use Rattle.machine_standard_tables.proofs.Tests.{readable_each, writable_all}

-- all of a table can be read
all_readable : (m : List ℕ) (at count i : ℕ) → are_readable m at count ≡ true → i < count → at + count ≤ length m
all_readable m at count i h lt =
    let last = readable_each m at count (count - 1) h (omega arith) in
    omega (arith, last)

-- nothing is written yet
pub filled_still : (s : Recording Contents) (m : List ℕ) → IsSound s.store → m ≡ memory_of s.store → Filled s s m
filled_still s m sound e = record {
  goes_on = goes_on_still s sound;
  state = λ text. ap (λ (k : List ℕ). record (state_of s.store text) { memory = k }) (sym e);
}

-- a place of a table, in a memory of which some bytes have been written
size_kept : (r s : Recording Contents) → IsSound r.store → GoesOn r s
    → length (memory_of s.store) ≡ length (memory_of r.store)
size_kept r s sound g =
    let a = length-append (drop 72559 r.store.cells) r.store.fixed in
    let b = length-append (drop 72559 s.store.cells) s.store.fixed in
    omega (
      arith,
      a,
      b,
      length-drop 72559 r.store.cells,
      length-drop 72559 s.store.cells,
      sound.size,
      g.sound.size,
      base_kept r s g,
      ap length g.fixed,
    )

pub place_short : (s : Contents) (at count i : ℕ) → IsSound s → are_writable (memory_of s) at count ≡ true
    → i < count → at + i < 524280
place_short s at count i sound writable lt =
    let w = writable_all (memory_of s) at count i writable lt in
    omega (arith, length-memory s sound, sound.short, w.room)

pub source_short : (s : Contents) (at count i : ℕ) → IsSound s → are_readable (memory_of s) at count ≡ true
    → i < count → at + i < 524280
source_short s at count i sound readable lt =
    omega (arith, sound.short, readable_each (memory_of s) at count i readable lt)

pub source_inside : (r s : Recording Contents) (m : List ℕ) (at count i : ℕ) → IsSound r.store → Filled r s m
    → are_readable (memory_of r.store) at count ≡ true → i < count → at + i < length (memory_of s.store)
source_inside r s m at count i sound h readable lt =
    omega (arith, size_kept r s sound h.goes_on, readable_each (memory_of r.store) at count i readable lt)

pub place_writable : (r s : Recording Contents) (m : List ℕ) (at count i : ℕ) → Filled r s m
    → are_writable (memory_of r.store) at count ≡ true → i < count
    → is_writable (memory_of s.store) (at + i) ≡ true
place_writable r s m at count i h writable lt =
    let w = writable_all (memory_of r.store) at count i writable lt in
    let base = base_kept r s h.goes_on in
    and_from (nat_le 64 (at + i)) (nat_lt (at + i) (static_base_of (memory_of s.store)))
    (le-leb 64 (at + i) (omega (arith, w.past)))
    (lt-ltb (at + i) (static_base_of (memory_of s.store)) (omega (arith, w.room, base)))

-- one more byte is written
module _ (r s t : Recording Contents) where
  pub clear_more : (at i : ℕ) → Filled r s (cleared (memory_of r.store) at i)
      → Filled s t (set (memory_of s.store) (at + i) 0) → Filled r t (cleared (memory_of r.store) at (i + 1))
  clear_more at i h one =
      subst (Filled r t) (cleared_more (memory_of r.store) at i) (filled_then r s t _ (λ k. set k (at + i) 0) h one)

  pub copy_more : (first second i v : ℕ) → Filled r s (copied_forwards (memory_of r.store) first second i)
      → v ≡ slice_index (memory_of s.store) (first + i) → Filled s t (set (memory_of s.store) (second + i) v)
      → Filled r t (copied_forwards (memory_of r.store) first second (i + 1))
  copy_more first second i v h is one =
      let m = copied_forwards (memory_of r.store) first second i in
      let byte : v ≡ slice_index m (first + i) = is ∙ ap (λ l. slice_index l (first + i)) (filled_memory r s m h) in
      subst (Filled r t) (ap (set m (second + i)) byte ∙ forwards_more (memory_of r.store) first second i)
      (filled_then r s t m (λ k. set k (second + i) v) h one)

  pub copy_less : (first second count i v : ℕ)
      → Filled r s (copied_from (memory_of r.store) first second count (i + 1))
      → are_readable (memory_of r.store) first count ≡ true → first < second → i < count
      → v ≡ slice_index (memory_of s.store) (first + i) → Filled s t (set (memory_of s.store) (second + i) v)
      → Filled r t (copied_from (memory_of r.store) first second count i)
  copy_less first second count i v h readable up lt is one =
      let m = copied_from (memory_of r.store) first second count (i + 1) in
      let byte : v ≡ slice_index m (first + i) = is ∙ ap (λ l. slice_index l (first + i)) (filled_memory r s m h) in
      subst (Filled r t)
      (ap (set m (second + i)) byte ∙ from_more (memory_of r.store) first second count i up lt
      (all_readable (memory_of r.store) first count i readable lt))
      (filled_then r s t m (λ k. set k (second + i) v) h one)

-- a copy forwards to a lower address is one as if at once
at_once : (m : List ℕ) (first second count : ℕ) → are_readable m first count ≡ true → second ≤ first
    → copied_forwards m first second count ≡ copied_at_once m first second count
unfolding copied_forwards
at_once m first second zero h down = refl
at_once m first second (suc n) h down = forwards_at_once m first second (suc n) down
    (all_readable m first (suc n) n h (omega arith))

pub forwards_on_ok : {E : Type 0} (result : Result (Unit {0}) E) (r t : Recording Contents)
    (first second count : ℕ) → are_readable (memory_of r.store) first count ≡ true → second ≤ first
    → OnOk result (Filled r t (copied_forwards (memory_of r.store) first second count))
    → OnOk result (Filled r t (copied_at_once (memory_of r.store) first second count))
forwards_on_ok result r t first second count readable down h =
    subst (λ m. OnOk result (Filled r t m)) (at_once (memory_of r.store) first second count readable down) h

-- bytes that were tested get other values
pub table_written : (s t : Recording Contents) (here : Next) (after at count fuel : ℕ) (f : List ℕ → List ℕ)
    → Went (Ok tt) s s (test_writable at count) → Says (Ok fuel) (spend_for count here.fuel)
    → Filled s t (f (memory_of s.store))
    → Went (Ok (record { program_counter = after; fuel = fuel })) s t (write_table here after at count f)
unfolding write_table
table_written s t here after at count fuel f w paid h = went_then _ w
    (went_then _ (went_says (Ok fuel) s (went_sound w) paid) (record {
      did = (
        h.goes_on,
        λ text. ap (done (record { program_counter = after; fuel = fuel })) (sym (h.state text)),
      );
    }))

-- The operation, from its parts

-- a table that is copied to another
abbrev pub copied : ℕ → ℕ → ℕ → ℕ → List ℕ → List ℕ
copied first second size count memory =
    cond (is_negative size) (copied_forwards memory first second count) (copied_at_once memory first second count)

abbrev pub copying : Next → ℕ → ℕ → ℕ → ℕ → ℕ → State → Out Next
copying here after first second size count = do
  _ ← test_readable first count
  write_table here after second count (copied first second size count)

pub table_stops : {e : End} (s : Recording Contents) (here : Next) (after at count : ℕ) (f : List ℕ → List ℕ)
    → Went {A = Unit {0}} (Err e) s s (test_writable at count)
    → Went {A = Next} (Err e) s s (write_table here after at count f)
unfolding write_table
table_stops s here after at count f w = went_no_further _ w

pub table_unpaid : {e : End} (s : Recording Contents) (here : Next) (after at count : ℕ) (f : List ℕ → List ℕ)
    → Went (Ok tt) s s (test_writable at count) → Says {A = ℕ} (Err e) (spend_for count here.fuel)
    → Went {A = Next} (Err e) s s (write_table here after at count f)
unfolding write_table
table_unpaid s here after at count f w unpaid = went_then _ w
    (went_no_further _ (went_says (Err _) s (went_sound w) unpaid))

pub clears : {r : Result Next End} {s t : Recording Contents} (here : Next) (after first second size count : ℕ)
    → second ≡ 0 → count ≡ magnitude size
    → Went r s t (write_table here after first count (λ memory. cleared memory first count))
    → Went r s t (copy_table here after first second size)
unfolding copy_table
clears {r} {s} {t} here after first second size count none is w =
    went_as r (copy_table here after first second size)
    (λ x. ap (λ (b : Bool). cond b
    (write_table here after first (magnitude size) (λ memory. cleared memory first (magnitude size)))
    (copying here after first second size (magnitude size)) (state_of s.store x)) (eq-eqb second 0 none))
    (subst (λ n. Went r s t (write_table here after first n (λ memory. cleared memory first n))) is w)

pub copies : {r : Result Next End} {s t : Recording Contents} (here : Next) (after first second size count : ℕ)
    → (second ≡ 0 → ⊥) → count ≡ magnitude size → Went r s t (copying here after first second size count)
    → Went r s t (copy_table here after first second size)
unfolding copy_table
copies {r} {s} {t} here after first second size count some is w =
    went_as r (copy_table here after first second size)
    (λ x. ap (λ (b : Bool). cond b
    (write_table here after first (magnitude size) (λ memory. cleared memory first (magnitude size)))
    (copying here after first second size (magnitude size)) (state_of s.store x)) (ne_eqb second 0 some))
    (subst (λ n. Went r s t (copying here after first second size n)) is w)

-- a negative size copies forwards, and another as if at once
pub forwards_filled : (s t : Recording Contents) (first second size count : ℕ) → 32768 ≤ size
    → Filled s t (copied_forwards (memory_of s.store) first second count)
    → Filled s t (copied first second size count (memory_of s.store))
forwards_filled s t first second size count le h =
    let m = memory_of s.store in
    subst (λ b. Filled s t (cond b (copied_forwards m first second count) (copied_at_once m first second count)))
    (sym (le-leb 32768 size le)) h

pub at_once_filled : (s t : Recording Contents) (first second size count : ℕ) → size < 32768
    → Filled s t (copied_at_once (memory_of s.store) first second count)
    → Filled s t (copied first second size count (memory_of s.store))
at_once_filled s t first second size count lt h =
    let m = memory_of s.store in
    subst (λ b. Filled s t (cond b (copied_forwards m first second count) (copied_at_once m first second count)))
    (sym (lt-leb 32768 size lt)) h
