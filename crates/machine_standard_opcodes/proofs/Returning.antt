-- Open calls, and returns from them.
use Rattle.std.proofs.Common.{◌≡◌, ℕ, zero, suc, ◌+◌, ◌-◌, ◌*◌, ◌/◌, ◌%◌, ◌<◌, ◌≤◌, ◌&&◌, ◌⊎◌, inl, inr, nat_le}
use Rattle.std.proofs.Common.{nat_lt, Bool, true, false, List, [], ◌∷◌, length, drop, Option, Result, Ok, Err, refl, ap}
use Rattle.std.proofs.Common.{sym, ◌∙◌, subst, arith, slice_index}
use Rattle.std.proofs.lemmas.Bool.{lt-ltb, le-ltb, le-leb, lt-leb, cases_lt}
use Rattle.journal.specs.Recording.{Recording}
use Rattle.zcore.specs.declared.next.Next.{Next}
use Rattle.zcore.specs.declared.place.Fault.{Fault}
use Rattle.zcore.specs.declared.place.Fault.TheVariants as faults
use Rattle.zcore.specs.declared.place.Place.TheVariants as places
use Rattle.zcore.specs.State.{Frame, State, done, halt, bound, ◌>>=◌}
use Rattle.zcore.specs.Parts.{test, is_code, can_store, returning}
use Rattle.zcore.specs.Effects.{give_result}
use Rattle.zcore_standard.specs.Flow.{catch, frames_at, leave_frame}
use Rattle.machine_frames.specs.Contents.{Contents, Wrote, memory_of}
use Rattle.machine_frames.specs.States.{long_at, frame_count, height_of, base_of, variable_of, frames_of, state_of}
use Rattle.machine_frames.specs.States.{IsSound, IsStacked}
use Rattle.machine_frames.specs.Went.{Went}
use Rattle.machine_frames.specs.declared.end.End.{End}
use Rattle.machine_frames.specs.declared.end.End.TheVariants as ends
use Rattle.machine_frames.proofs.Frames.{Alike, length-frames_of, stacked_same, frames_same, pending_same}
use Rattle.machine_frames.proofs.Kept.{memory_kept, halves, went_frames}
use Rattle.machine_frames.proofs.Leaving.{goes_back, returning_is}
use Rattle.machine_frames.proofs.Lists.{wrote_memory}
use Rattle.machine_frames.proofs.Steps.{went_as, went_halt, went_still, went_then, went_no_further}
use Rattle.machine_standard_opcodes.specs.Left.{has_frame, returns_from, caller_stores}

-- how many frames there are
pub frames_counted : (s : Contents) (text : List ℕ) → length (state_of s text).frames
    ≡ frame_count (slice_index s.cells)
frames_counted s text =
    length-frames_of (slice_index s.cells) (frame_count (slice_index s.cells)) (height_of (slice_index s.cells))

pub catch_went : {s t : Recording Contents} (r : Result Next End) (here : Next) (after : ℕ) (result : Option ℕ)
    (calls : ℕ) → calls ≡ frame_count (slice_index s.store.cells) - 1 → Went r s t (give_result here after result calls)
    → Went r s t (catch here after result)
unfolding catch
catch_went {s} r here after result calls e w = went_as r (catch here after result)
    (λ x. ap (λ n. give_result here after result n (state_of s.store x))
    (ap (λ k. k - 1) (frames_counted s.store x) ∙ sym e)) w

-- Whether there is a frame of a number

and_no : (b : Bool) → (b && false) ≡ false
and_no true = refl
and_no false = refl

no_frame : (number frames : ℕ) → (number ≡ 0) ⊎ (frames ≤ number) → (nat_le 1 number && nat_lt number frames) ≡ false
no_frame number frames (inl none) = rw (lt-leb 1 number (omega arith)) refl
no_frame number frames (inr few) = ap (λ x. nat_le 1 number && x) (le-ltb number frames few)
    ∙ and_no (nat_le 1 number)

pub frame_missing : (s : Recording Contents) (number frames : ℕ) → IsSound s.store
    → frames ≡ frame_count (slice_index s.store.cells) → (number ≡ 0) ⊎ (frames ≤ number)
    → Went {A = Unit {0}} (Err (ends.Stop (places.Fault faults.Return))) s s (has_frame number)
frame_missing s number frames sound e h = went_halt s (has_frame number) sound
    (λ x. ap (λ n. test (nat_le 1 number && nat_lt number n) faults.Return (state_of s.store x))
    (frames_counted s.store x ∙ sym e)
    ∙ ap (λ b. test b faults.Return (state_of s.store x)) (no_frame number frames h))

some_frame : (number frames : ℕ) → 1 ≤ number → number < frames → (nat_le 1 number && nat_lt number frames) ≡ true
some_frame number frames some lt = rw (le-leb 1 number some, lt-ltb number frames lt) refl

pub frame_found : (s : Recording Contents) (number frames : ℕ) → IsSound s.store
    → frames ≡ frame_count (slice_index s.store.cells) → 1 ≤ number → number < frames
    → Went (Ok tt) s s (has_frame number)
frame_found s number frames sound e some lt = went_still s (has_frame number) sound
    (λ x. ap (λ n. test (nat_le 1 number && nat_lt number n) faults.Return (state_of s.store x))
    (frames_counted s.store x ∙ sym e)
    ∙ ap (λ b. test b faults.Return (state_of s.store x)) (some_frame number frames some lt))

-- The frames when the frame of a number ran

frames_there : (f : ℕ → ℕ) (n top number : ℕ) → number < n
    → (x : ℕ) × (drop (n - 1 - number) (frames_of f n top) ≡ frames_of f (suc number) x)
frames_there f zero top number lt = absurd (omega arith)
frames_there f (suc m) top number lt = elim (cases_lt number m) [
  | inl below ↦
      let r = frames_there f m (base_of f m) number below in
      let k : suc m - 1 - number ≡ suc (m - 1 - number) = omega arith in
      (r.0, ap (λ i. drop i (frames_of f (suc m) top)) k ∙ r.1)
  | inr past ↦
      let e : number ≡ m = omega arith in
      let k : suc m - 1 - number ≡ 0 = omega arith in
      (top, ap (λ i. drop i (frames_of f (suc m) top)) k ∙ ap (λ i. frames_of f (suc i) top) (sym e))
]

pub frames_under : (f : ℕ → ℕ) (n top number : ℕ) → number < n
    → drop 1 (drop (n - 1 - number) (frames_of f n top)) ≡ frames_of f number (base_of f number)
frames_under f n top number lt = ap (drop 1) (frames_there f n top number lt).1

pub stacked_at : (f : ℕ → ℕ) (n top number : ℕ) → number < n → IsStacked f n top
    → (base_of f number ≤ top) × IsStacked f number (base_of f number)
stacked_at f zero top number lt h = absurd (omega arith)
stacked_at f (suc m) top number lt h = elim (cases_lt number m) [
  | inl below ↦
      let r = stacked_at f m (base_of f m) number below h.1 in
      (omega (arith, h.0, r.0), r.1)
  | inr past ↦
      let e : m ≡ number = omega arith in
      subst (λ (i : ℕ). (base_of f i ≤ top) × IsStacked f i (base_of f i)) e (omega (arith, h.0), h.1)
]

at_number : (s : Contents) (text : List ℕ) (number : ℕ) → frames_at number (state_of s text).frames
    ≡ drop (frame_count (slice_index s.cells) - 1 - number) (state_of s text).frames
at_number s text number = ap (λ n. drop (n - 1 - number) (state_of s text).frames) (frames_counted s text)

-- the frames below
pub below_number : (s : Contents) (text : List ℕ) (number : ℕ) → number < frame_count (slice_index s.cells)
    → drop 1 (frames_at number (state_of s text).frames)
    ≡ frames_of (slice_index s.cells) number (base_of (slice_index s.cells) number)
below_number s text number lt =
    let f = slice_index s.cells in
    ap (drop 1) (at_number s text number) ∙ frames_under f (frame_count f) (height_of f) number lt

-- Whether its caller can store its result

pub caller_halts : (s : Recording Contents) (number : ℕ) (result : Option ℕ) (cause : Fault) → IsSound s.store
    → number < frame_count (slice_index s.store.cells)
    → ((t : State) → can_store result
    (frames_of (slice_index s.store.cells) number (base_of (slice_index s.store.cells) number)) t
    ≡ halt (places.Fault cause) t)
    → Went {A = Unit {0}} (Err (ends.Stop (places.Fault cause))) s s (caller_stores number result)
caller_halts s number result cause sound lt h = went_halt s (caller_stores number result) sound
    (λ x. ap (λ fs. can_store result fs (state_of s.store x)) (below_number s.store x number lt)
    ∙ h (state_of s.store x))

pub caller_done : (s : Recording Contents) (number : ℕ) (result : Option ℕ) → IsSound s.store
    → number < frame_count (slice_index s.store.cells)
    → ((t : State) → can_store result
    (frames_of (slice_index s.store.cells) number (base_of (slice_index s.store.cells) number)) t ≡ done tt t)
    → Went (Ok tt) s s (caller_stores number result)
caller_done s number result sound lt h = went_still s (caller_stores number result) sound
    (λ x. ap (λ fs. can_store result fs (state_of s.store x)) (below_number s.store x number lt)
    ∙ h (state_of s.store x))

-- The return of the frame of a number, as it is read

pub record BacksFrom (s : Contents) (number address variable : ℕ) (result : Option ℕ) : Type 0 where
  pub some : 1 ≤ number
  pub called : number < frame_count (slice_index s.cells)
  pub address_read : address ≡ long_at (slice_index s.cells) (18 + 7 * number)
  pub variable_read : variable ≡ slice_index s.cells (22 + 7 * number)
  pub result_read : result ≡ variable_of variable

pub backs_from : (s : Contents) (number address variable : ℕ) (result : Option ℕ) → 1 ≤ number
    → number < frame_count (slice_index s.cells) → address ≡ long_at (slice_index s.cells) (16 + 7 * number + 2)
    → variable ≡ slice_index s.cells (16 + 7 * number + 6) → result ≡ variable_of variable
    → BacksFrom s number address variable result
backs_from s number address variable result some called a v r =
    let to : 16 + 7 * number + 2 ≡ 18 + 7 * number = omega arith in
    let from : 16 + 7 * number + 6 ≡ 22 + 7 * number = omega arith in
    record {
      some = some;
      called = called;
      address_read = a ∙ ap (long_at (slice_index s.cells)) to;
      variable_read = v ∙ ap (slice_index s.cells) from;
      result_read = r;
    }

backs_is : (s : Recording Contents) (number address variable : ℕ) (result : Option ℕ) (text : List ℕ)
    → BacksFrom s.store number address variable result
    → returns_from number (state_of s.store text)
    ≡ (caller_stores number result >>= goes_back (memory_of s.store) address result) (state_of s.store text)
backs_is s number address variable result text b =
    let f = slice_index s.store.cells in
    let st = state_of s.store text in
    let r = frames_there f (frame_count f) (height_of f) number b.called in
    let n : suc number - 1 ≡ number = omega arith in
    let is_result : variable_of (f (22 + 7 * number)) ≡ result = ap variable_of (sym b.variable_read)
    ∙ sym b.result_read in
    let all : frames_at number st.frames ≡ frames_of f (suc number) r.0 = at_number s.store text number ∙ r.1 in
    ap (returning st) all
    ∙ returning_is f (suc number) r.0 st (omega (arith, b.some))
    ∙ ap (λ (i : ℕ). bound (can_store (variable_of (f (22 + 7 * i))) (drop 1 (frames_of f (suc number) r.0)) st)
    (goes_back (memory_of s.store) (long_at f (18 + 7 * i)) (variable_of (f (22 + 7 * i))))) n
    ∙ ap (λ (p : ℕ). bound
    (can_store (variable_of (f (22 + 7 * number))) (drop 1 (frames_of f (suc number) r.0)) st)
    (goes_back (memory_of s.store) p (variable_of (f (22 + 7 * number))))) (sym b.address_read)
    ∙ ap (λ (v : Option ℕ). bound (can_store v (drop 1 (frames_of f (suc number) r.0)) st)
    (goes_back (memory_of s.store) address v)) is_result
    ∙ ap (λ (fs : List Frame). bound (can_store result (drop 1 fs) st) (goes_back (memory_of s.store) address result))
    (sym all)

pub back_stopped : (s : Recording Contents) (number address variable : ℕ) (result : Option ℕ) (e : End)
    → BacksFrom s.store number address variable result
    → Went {A = Unit {0}} (Err e) s s (caller_stores number result)
    → Went {A = ℕ × Option ℕ} (Err e) s s (returns_from number)
back_stopped s number address variable result e b w =
    went_as (Err e) (returns_from number) (λ text. backs_is s number address variable result text b)
    (went_no_further (goes_back (memory_of s.store) address result) w)

pub back_outside : (s : Recording Contents) (number address variable : ℕ) (result : Option ℕ) → IsSound s.store
    → BacksFrom s.store number address variable result → Went (Ok tt) s s (caller_stores number result)
    → is_code (memory_of s.store) address ≡ false
    → Went {A = ℕ × Option ℕ} (Err (ends.Stop (places.Fault faults.Code))) s s (returns_from number)
back_outside s number address variable result sound b w fails =
    went_as _ (returns_from number) (λ text. backs_is s number address variable result text b)
    (went_then (goes_back (memory_of s.store) address result) w
    (went_halt s (goes_back (memory_of s.store) address result tt) sound
    (λ t. ap (λ (q : Bool). bound (test q faults.Code (state_of s.store t)) (λ _ u. done (address, result) u))
    fails)))

pub back_went : (s : Recording Contents) (number address variable : ℕ) (result : Option ℕ) → IsSound s.store
    → BacksFrom s.store number address variable result → Went (Ok tt) s s (caller_stores number result)
    → is_code (memory_of s.store) address ≡ true → Went (Ok (address, result)) s s (returns_from number)
back_went s number address variable result sound b w holds =
    went_as _ (returns_from number) (λ text. backs_is s number address variable result text b)
    (went_then (goes_back (memory_of s.store) address result) w
    (went_still s (goes_back (memory_of s.store) address result tt) sound
    (λ t. ap (λ (q : Bool). bound (test q faults.Code (state_of s.store t)) (λ _ u. done (address, result) u))
    holds)))

-- The frame of a number goes, and all that it called

pub frame_left : (s t : Recording Contents) (number base : ℕ) → IsSound s.store → 1 ≤ number
    → number < frame_count (slice_index s.store.cells)
    → base ≡ long_at (slice_index s.store.cells) (16 + 7 * number)
    → Wrote s.store.cells t.store.cells 0 (number ∷ base / 65536 ∷ base % 65536 ∷ [])
    → t.store.fixed ≡ s.store.fixed → t.beginning ≡ s.beginning → Went (Ok tt) s t (leave_frame number)
unfolding leave_frame
frame_left s t number base sound some called is_base w fixed beginning =
    let f = slice_index s.store.cells in
    let g = slice_index t.store.cells in
    let one : g 1 ≡ base / 65536 = w.inside 1 (omega arith) in
    let two : g 2 ≡ base % 65536 = w.inside 2 (omega arith) in
    let under = stacked_at f (frame_count f) (height_of f) number called sound.stacked in
    let alike : Alike f g number (base_of f number) =
    record { records = λ k l r. w.after k (omega arith); stack = λ k l r. w.after k (omega arith) } in
    went_frames s t number (base_of f number) (leave_frame number) sound
    (record {
      size = w.size;
      memory = memory_kept s.store t.store (wrote_memory s.store.cells t.store.cells 0 _ w (omega arith)) fixed;
      pending = pending_same f g (λ k l r. w.after k (omega arith));
      fixed = fixed;
      beginning = beginning;
    })
    (record {
      count = w.inside 0 (omega arith);
      height = ap (λ x. x * 65536 + g 2) one ∙ ap (λ x. base / 65536 * 65536 + x) two ∙ halves base ∙ is_base;
      some = some;
      few = omega (arith, called, sound.few);
      room = omega (arith, under.0, sound.height);
      stacked = stacked_same f g number (base_of f number) alike under.1;
    })
    (λ text. ap (λ (fs : List Frame). done tt (record (state_of s.store text) { frames = fs }))
    (below_number s.store text number called
    ∙ sym (frames_same f g number (base_of f number) alike under.1)))
