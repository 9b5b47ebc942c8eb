-- Parts that write frames are always done, but for refused memory.
use Rattle.std.proofs.Common.{◌≡◌, ℕ, List, [], ◌∷◌, refl, ap, sym, ◌∙◌, None, Ok, Err}
use Rattle.journal.specs.Recording.{Recording}
use Rattle.zcore.specs.State.{Frame, State, Out, done, halt}
use Rattle.iff_files.specs.Frames.{Stacks}
use Rattle.zcore_standard.specs.SavedStates.{frames_of as frames_read}
use Rattle.machine_frames.specs.Contents.{Contents}
use Rattle.machine_frames.specs.States.{state_of}
use Rattle.machine_frames.specs.Went.{GoesOn, Went}
use Rattle.machine_frames.specs.declared.end.End.{End}
use Rattle.machine_frames.specs.declared.end.End.TheVariants as ends
use Rattle.machine_frames.proofs.Steps.{given_up_after}
use Rattle.machine_standard_saves.specs.Restored.{add_frame, begin_frames, with_frames}

-- What a part leaves

abbrev pub left_in : {A : Type 0} → Out A → State
left_in (done a s) = s
left_in (halt place s) = s

pub added : (s t : Recording Contents) (f : Frame) (text : List ℕ) → Went (Ok tt) s t (add_frame f)
    → state_of t.store text ≡ record (state_of s.store text) { frames = f ∷ (state_of s.store text).frames }
unfolding add_frame
added s t f text w = sym (ap (λ (o : Out (Unit {0})). left_in o) (w.did.1 text))

pub begun : (s t : Recording Contents) (values : List ℕ) (text : List ℕ) → Went (Ok tt) s t (begin_frames values)
    → state_of t.store text ≡ record (state_of s.store text) {
      frames = (record { locals = []; stack = values; arguments = 0; return_address = 0; result = None }) ∷ [];
    }
unfolding begin_frames
begun s t values text w = sym (ap (λ (o : Out (Unit {0})). left_in o) (w.did.1 text))

never : (s t : State) (a : Unit {0}) (place : _) → (let o : Out (Unit {0}) = done a s in o) ≡ halt place t → ⊥
never s t a place e = cc

-- A part that is always done gives the turn up, where it ends it.
abbrev IsDone : (State → Out (Unit {0})) → Type 0
IsDone part = (s : State) → (t : State) × (part s ≡ done tt t)

pub gives_up : {A : Type 0} {e : End} {r s t : Recording Contents} (part : State → Out (Unit {0})) (whole : State → Out A)
    → IsDone part → GoesOn r s → Went {A = Unit {0}} (Err e) s t part → Went {A = A} (Err e) r t whole
gives_up {e = ends.Memory} part whole is a w = record { did = given_up_after a w.did }
gives_up {e = ends.Stop place} {s = s} {t = t} part whole is a w =
    let d = is (state_of s.store []) in
    absurd (never d.0 (state_of t.store []) tt place (sym d.1 ∙ w.did.1 []))

pub add_is_done : (f : Frame) → IsDone (add_frame f)
unfolding add_frame
add_is_done f = λ s. (record s { frames = f ∷ s.frames }, refl)

pub begin_is_done : (values : List ℕ) → IsDone (begin_frames values)
unfolding begin_frames
begin_is_done values = λ s. (
  record s { frames = (record { locals = []; stack = values; arguments = 0; return_address = 0; result = None }) ∷ [] },
  refl,
)

pub with_is_done : (stacks : Stacks) → IsDone (with_frames stacks)
unfolding with_frames
with_is_done stacks = λ s. (record s { frames = frames_read stacks }, refl)
