-- The story begins anew.
use Rattle.std.proofs.Common.{◌≡◌, ◌≢◌, ℕ, ◌+◌, ◌-◌, ◌*◌, ◌/◌, ◌%◌, List, [], ◌∷◌, drop, None, Result, Ok, Err, refl}
use Rattle.std.proofs.Common.{ap, ◌∙◌, arith, set, slice_index, subst}
use Rattle.std.specs.Prelude.{OnOk}
use Rattle.std.proofs.lemmas.Bool.{ne_eqb, eq-eqb}
use Rattle.journal.specs.Recording.{Recording}
use Rattle.zcore.specs.declared.place.Limit.TheVariants as limits
use Rattle.zcore.specs.declared.place.Place.TheVariants as places
use Rattle.zcore.specs.State.{Frame, State}
use Rattle.zcore.specs.Header.{static_base_of}
use Rattle.zcore.specs.Parts.{spend}
use Rattle.zcore.specs.Turn.{first_environment, with_bytes}
use Rattle.ztext.specs.Bytes.{word_at}
use Rattle.zcore_standard.specs.Flags.{with_kept_bits}
use Rattle.zcore_standard.specs.Flow.{restarted, restart}
use Rattle.zcore_standard.specs.Fuel.{spend_for}
use Rattle.zcore.specs.declared.standard_state.StandardState.{StandardState}
use Rattle.zcore_standard.specs.declared.streams.Stream.{Stream}
use Rattle.zcore_standard.specs.Place.{Here}
use Rattle.zcore_standard.specs.Loaded.{Loaded}
use Rattle.zcore_standard.specs.Streams.{heard_of}
use Rattle.machine_frames.specs.Contents.{Contents, Wrote, memory_of}
use Rattle.machine_frames.specs.States.{base_of, frames_of, state_of, IsSound}
use Rattle.machine_frames.specs.Went.{GoesOn, Told}
use Rattle.machine_frames.specs.declared.end.End.{End}
use Rattle.machine_frames.specs.declared.end.End.TheVariants as ends
use Rattle.machine_frames.proofs.Frames.{pending_same}
use Rattle.machine_frames.proofs.Kept.{HasFrames, Keeps, keeps_goes_on, keeps_state, memory_kept}
use Rattle.machine_frames.proofs.Lists.{wrote_memory}
use Rattle.machine_frames.proofs.Steps.{goes_on_after, told_halt}
use Rattle.machine_lines.specs.Lines.{Filled, Fills, WaitsNoMore}
use Rattle.machine_lines.proofs.Filling.{filled_then}
use Rattle.machine_opcodes.specs.Says.{Says}
use Rattle.machine_standard_opcodes.specs.Left.{Empties}
use Rattle.machine_standard_opcodes.proofs.Cuts.{flags_filled}

-- the cells of the first record as a story begins
first_frame : (c d : List ℕ) → Wrote c d 16 (0 ∷ 0 ∷ 0 ∷ 0 ∷ 0 ∷ 0 ∷ 256 ∷ [])
    → frames_of (slice_index d) 1 0 ≡ first_environment ∷ []
first_frame c d w =
    let e16 : slice_index d 16 ≡ 0 = w.inside 0 (omega arith) in
    let e17 : slice_index d 17 ≡ 0 = w.inside 1 (omega arith) in
    let e18 : slice_index d 18 ≡ 0 = w.inside 2 (omega arith) in
    let e19 : slice_index d 19 ≡ 0 = w.inside 3 (omega arith) in
    let e20 : slice_index d 20 ≡ 0 = w.inside 4 (omega arith) in
    let e21 : slice_index d 21 ≡ 0 = w.inside 5 (omega arith) in
    let e22 : slice_index d 22 ≡ 256 = w.inside 6 (omega arith) in
    rw (e16, e17, e18, e19, e20, e21, e22) refl

first_stands : (b c d : List ℕ) → Wrote b c 0 (1 ∷ 0 ∷ 0 ∷ []) → Wrote c d 16 (0 ∷ 0 ∷ 0 ∷ 0 ∷ 0 ∷ 0 ∷ 256 ∷ [])
    → HasFrames (slice_index d) 1 0
first_stands b c d v w =
    let g = slice_index d in
    let e0 : g 0 ≡ 1 = w.before 0 (omega arith) ∙ v.inside 0 (omega arith) in
    let e1 : g 1 ≡ 0 = w.before 1 (omega arith) ∙ v.inside 1 (omega arith) in
    let e2 : g 2 ≡ 0 = w.before 2 (omega arith) ∙ v.inside 2 (omega arith) in
    let e16 : g 16 ≡ 0 = w.inside 0 (omega arith) in
    let e17 : g 17 ≡ 0 = w.inside 1 (omega arith) in
    let e20 : g 20 ≡ 0 = w.inside 4 (omega arith) in
    let base : base_of g 0 ≡ 0 = rw (e16, e17) refl in
    record {
      count = e0;
      height = rw (e1, e2) refl;
      some = omega arith;
      few = omega arith;
      room = omega arith;
      stacked = (omega (arith, base, e20), base);
    }

-- the first environment runs alone
pub frames_emptied : (s t : Recording Contents) (c : List ℕ) → IsSound s.store → Wrote s.store.cells c 0 (1 ∷ 0 ∷ 0 ∷ [])
    → Wrote c t.store.cells 16 (0 ∷ 0 ∷ 0 ∷ 0 ∷ 0 ∷ 0 ∷ 256 ∷ []) → t.store.fixed ≡ s.store.fixed
    → t.beginning ≡ s.beginning
    → GoesOn s t × ((text : List ℕ)
    → state_of t.store text ≡ record (state_of s.store text) { frames = first_environment ∷ [] })
frames_emptied s t c sound v w fixed beginning =
    let f = slice_index s.store.cells in
    let g = slice_index t.store.cells in
    let keeps : Keeps s t = record {
      size = w.size ∙ v.size;
      memory = memory_kept s.store t.store
          (wrote_memory c t.store.cells 16 _ w (omega arith) ∙ wrote_memory s.store.cells c 0 _ v (omega arith)) fixed;
      pending = pending_same f g (λ k l r. w.before k (omega arith) ∙ v.after k (omega arith));
      fixed = fixed;
      beginning = beginning;
    } in
    let stands = first_stands s.store.cells c t.store.cells v w in (
      keeps_goes_on s t 1 0 sound keeps stands,
      λ text. keeps_state s t 1 0 text keeps stands
          ∙ ap (λ (fs : List Frame). record (state_of s.store text) { frames = fs }) (first_frame c t.store.cells w),
    )

pub emptied : (s m t : Recording Contents)
    → GoesOn s m × ((text : List ℕ)
    → state_of m.store text ≡ record (state_of s.store text) { frames = first_environment ∷ [] })
    → WaitsNoMore m t → Empties s t
emptied s m t first waits =
    record {
      goes_on = goes_on_after first.0 waits.goes_on;
      state = λ text. waits.state text ∙ ap (λ (x : State). record x { pending = None }) (first.1 text);
    }

-- memory as a story begins anew, before its header is read
abbrev loaded_memory : Loaded → List ℕ → List ℕ
loaded_memory loaded memory = with_kept_bits loaded.dynamic (with_bytes memory 64 (drop 64 loaded.dynamic))

-- Flags 2 as it was loaded, but for bits 0 and 1
pub flags_restored : {E : Type 0} (r : Result (Unit {0}) E) (s t : Recording Contents) (flags : ℕ) (dynamic : List ℕ)
    → IsSound s.store → flags ≡ slice_index (memory_of s.store) 17
    → OnOk r (t.store.cells ≡ set s.store.cells 72576 (slice_index dynamic 17 / 4 * 4 + flags % 4))
    → t.store.fixed ≡ s.store.fixed → OnOk r (t.beginning ≡ s.beginning)
    → OnOk r (Filled s t (with_kept_bits dynamic (memory_of s.store)))
flags_restored (Ok a) s t flags dynamic sound is cells fixed beginning =
    let low = slice_index dynamic 17 / 4 * 4 in
    subst (λ f. Filled s t (set (memory_of s.store) 17 (low + f % 4))) is
    (flags_filled s t (low + flags % 4) sound cells fixed beginning)
flags_restored (Err e) s t flags dynamic sound is cells fixed beginning = tt

-- dynamic memory was filled as it was loaded, and then Flags 2
pub memory_restored : (s m t : Recording Contents) (loaded : Loaded) → Fills s m 64 (drop 64 loaded.dynamic)
    → Filled m t (with_kept_bits loaded.dynamic (memory_of m.store))
    → Filled s t (loaded_memory loaded (memory_of s.store))
memory_restored s m t loaded =
    filled_then s m t (with_bytes (memory_of s.store) 64 (drop 64 loaded.dynamic)) (with_kept_bits loaded.dynamic)

pub begun_anew : (s m t : Recording Contents) (x y : List ℕ) (loaded : Loaded) (here : Here) (address : ℕ)
    (standard_state : StandardState) (streams : List Stream) (left : ℕ) → standard_state ≡ loaded.dice → streams ≡ [] → here.next.fuel ≢ 0
    → Says (Ok left) (spend_for (static_base_of (memory_of s.store)) (here.next.fuel - 1))
    → address ≡ word_at (memory_of s.store) 6 → Filled s m (loaded_memory loaded (memory_of s.store))
    → Empties m t → y ≡ heard_of here x
    → Told (Ok (record {
      next = record { program_counter = address; fuel = left };
      standard_state = standard_state;
      kept = here.kept;
      streams = streams;
      upper = None;
    })) s x t y (restart loaded here)
unfolding restart spend
begun_anew s m t x y loaded here address standard_state streams left first none some paid e f n cut = record {
  told = (
    goes_on_after f.goes_on n.goes_on,
    let state : state_of t.store y ≡ restarted loaded here (state_of s.store x) = n.state y
        ∙ ap (λ (z : State). record z { frames = first_environment ∷ []; pending = None }) (f.state y)
        ∙ ap (λ l. record (restarted loaded here (state_of s.store x)) { text = l }) cut in
        rw (ne_eqb here.next.fuel 0 some, paid.said (state_of s.store x), e, state, first, none) refl,
  );
}

pub unpaid : {e : End} (s : Recording Contents) (x : List ℕ) (loaded : Loaded) (here : Here) → IsSound s.store
    → here.next.fuel ≢ 0
    → Says {A = ℕ} (Err e) (spend_for (static_base_of (memory_of s.store)) (here.next.fuel - 1))
    → Told {A = Here} (Err e) s x s x (restart loaded here)
unfolding restart spend
unpaid {e = ends.Stop p} s x loaded here sound some h = told_halt s (restart loaded here) x sound
    (rw (ne_eqb here.next.fuel 0 some, h.said (state_of s.store x)) refl)
unpaid {e = ends.Memory} s x loaded here sound some h = absurd h.said

pub no_fuel : (s : Recording Contents) (x : List ℕ) (loaded : Loaded) (here : Here) → IsSound s.store
    → here.next.fuel ≡ 0
    → Told {A = Here} (Err (ends.Stop (places.Limit limits.Fuel))) s x s x (restart loaded here)
unfolding restart spend
no_fuel s x loaded here sound e = told_halt s (restart loaded here) x sound (rw (eq-eqb here.next.fuel 0 e) refl)
