-- Bytes that are written one behind another.
use Rattle.std.proofs.Common.{◌≡◌, ℕ, suc, ◌+◌, ◌<◌, ◌≤◌, List, [], ◌∷◌, ◌++◌, length, take, set, slice_index}
use Rattle.std.proofs.Common.{ap, sym, ◌∙◌, subst, arith, Result, Ok, Err}
use Rattle.std.specs.Prelude.{OnOk}
use Rattle.std.proofs.lemmas.List.{length-take-le, take_more}
use Rattle.journal.specs.Recording.{Recording}
use Rattle.zcore.specs.Header.{static_base_of}
use Rattle.zcore.specs.State.{State}
use Rattle.zcore.specs.Turn.{with_bytes}
use Rattle.machine_frames.specs.Contents.{Contents, memory_of}
use Rattle.machine_lines.specs.Lines.{Filled}
use Rattle.machine_frames.specs.States.{state_of}
use Rattle.machine_lines.proofs.Lines.{byte_filled, base_kept}
use Rattle.machine_frames.proofs.Steps.{goes_on_after}

pub filled_memory : (r s : Recording Contents) (m : List ℕ) → Filled r s m → memory_of s.store ≡ m
filled_memory r s m f = ap (λ (x : State). x.memory) (f.state [])

-- what was written to memory that was filled
pub filled_then : (r s t : Recording Contents) (m : List ℕ) (f : List ℕ → List ℕ) → Filled r s m
    → Filled s t (f (memory_of s.store)) → Filled r t (f m)
filled_then r s t m f a b = record {
  goes_on = goes_on_after a.goes_on b.goes_on;
  state = λ text. b.state text ∙ ap (λ (x : State). record x { memory = f (memory_of s.store) }) (a.state text)
      ∙ ap (λ (k : List ℕ). record (state_of r.store text) { memory = f k }) (filled_memory r s m a);
}

pub with_bytes_more : (m : List ℕ) (at : ℕ) (xs : List ℕ) (v : ℕ) → with_bytes m at (xs ++ v ∷ [])
    ≡ set (with_bytes m at xs) (at + length xs) v
with_bytes_more m at [] v =
    let e : at ≡ at + 0 = omega arith in
    ap (λ i. set m i v) e
with_bytes_more m at (x ∷ xs) v =
    let e : at + 1 + length xs ≡ at + suc (length xs) = omega arith in
    with_bytes_more (set m at x) (at + 1) xs v ∙ ap (λ i. set (with_bytes (set m at x) (at + 1) xs) i v) e

pub fill_more : (r s t : Recording Contents) (bytes : List ℕ) (at i v : ℕ)
    → Filled r s (with_bytes (memory_of r.store) at (take i bytes)) → v ≡ slice_index bytes i → i < length bytes
    → 64 ≤ at → at + length bytes ≤ static_base_of (memory_of r.store) → t.store.cells
    ≡ set s.store.cells (72559 + (at + i)) v → t.store.fixed ≡ s.store.fixed → t.beginning ≡ s.beginning
    → Filled r t (with_bytes (memory_of r.store) at (take (i + 1) bytes))
fill_more r s t bytes at i v h e lt past room cells fixed beginning =
    let base = base_kept r s h.goes_on in
    let one = byte_filled s t (at + i) v h.goes_on.sound (omega (arith, past)) (omega (arith, base, lt, room)) cells
    fixed beginning in
    let both = filled_then r s t (with_bytes (memory_of r.store) at (take i bytes)) (λ m. set m (at + i) v) h one in
    let long : length (take i bytes) ≡ i = length-take-le i bytes (omega (arith, lt)) in
    let all : set (with_bytes (memory_of r.store) at (take i bytes)) (at + i) v
    ≡ with_bytes (memory_of r.store) at (take (i + 1) bytes) =
    ap (λ k. set (with_bytes (memory_of r.store) at (take i bytes)) (at + k) v) (sym long)
    ∙ sym (with_bytes_more (memory_of r.store) at (take i bytes) v)
    ∙ ap (λ b. with_bytes (memory_of r.store) at (take i bytes ++ b ∷ [])) e ∙ ap (with_bytes (memory_of r.store) at)
    (sym (take_more bytes i 0 lt)) in
    subst (Filled r t) all both

-- a byte with a count, and bytes behind it
pub counted_filled : {E : Type 0} (r s t : Recording Contents) (at count : ℕ) (bytes : List ℕ)
    (result : Result (Unit {0}) E) → Filled r s (with_bytes (memory_of r.store) at (count ∷ []))
    → OnOk result (Filled s t (with_bytes (memory_of s.store) (at + 1) bytes))
    → OnOk result (Filled r t (with_bytes (memory_of r.store) at (count ∷ bytes)))
counted_filled r s t at count bytes (Ok x) a b = filled_then r s t (with_bytes (memory_of r.store) at (count ∷ []))
    (λ m. with_bytes m (at + 1) bytes) a b
counted_filled r s t at count bytes (Err e) a b = tt
