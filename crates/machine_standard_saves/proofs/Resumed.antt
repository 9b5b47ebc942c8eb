-- The story goes on in a state that was kept.
use Rattle.std.proofs.Common.{◌≡◌, ◌≢◌, ℕ, ◌+◌, ◌-◌, Bool, if◌then◌else◌, List, [], ◌∷◌, drop, length, set, refl, ap, sym, ◌∙◌, slice_index, subst}
use Rattle.std.proofs.Common.{Option, Some, None, Result, Ok, Err}
use Rattle.std.specs.Prelude.{OnOk}
use Rattle.std.proofs.lemmas.Bool.{ne_eqb, eq-eqb}
use Rattle.std.proofs.lemmas.List.{length-set}
use Rattle.journal.specs.Recording.{Recording}
use Rattle.zcore.specs.declared.header.Header.{Header}
use Rattle.zcore.specs.declared.next.Next.{Next}
use Rattle.zcore.specs.declared.place.Limit.TheVariants as limits
use Rattle.zcore.specs.declared.place.Place.TheVariants as places
use Rattle.zcore.specs.Effects.{give_result}
use Rattle.zcore.specs.Parts.{spend, store_result, goes_on}
use Rattle.zcore.specs.State.{State, Out, done, halt}
use Rattle.zcore.specs.Turn.{with_bytes}
use Rattle.iff_files.specs.SaveFiles.{Saved}
use Rattle.iff_files.specs.declared.fault.SaveFault.{SaveFault}
use Rattle.zcore_standard.specs.Extension.{with_words_of}
use Rattle.zcore_standard.specs.Loaded.{Loaded}
use Rattle.zcore_standard.specs.SavedStates.{frames_of, resume, resume_if_read, take_up}
use Rattle.machine_frames.specs.Contents.{Contents, memory_of}
use Rattle.machine_frames.specs.States.{state_of, IsSound, IsStoreOf}
use Rattle.machine_frames.specs.Went.{GoesOn, Went}
use Rattle.machine_frames.specs.declared.end.End.{End}
use Rattle.machine_frames.specs.declared.end.End.TheVariants as ends
use Rattle.machine_frames.proofs.Steps.{goes_on_after, store_after, went_as, went_halt, went_no_further, went_sound, went_still}
use Rattle.machine_frames.proofs.Steps.{went_then}
use Rattle.machine_lines.specs.Lines.{Fills, WaitsNoMore}
use Rattle.machine_lines.proofs.Lines.{waits_no_more}
use Rattle.machine_standard_saves.specs.Restored.{with_frames}
use Rattle.machine_standard_saves.proofs.AlwaysDone.{gives_up, with_is_done}

-- Memory and frames

-- memory was filled, and no line is waited for
pub record Filled (s t : Recording Contents) (memory : List ℕ) : Type 0 where
  pub goes_on : GoesOn s t
  pub state : (text : List ℕ) → state_of t.store text
      ≡ record (state_of s.store text) { memory = with_bytes (memory_of s.store) 64 (drop 64 memory); pending = None }

pub filled : (s m t : Recording Contents) (memory : List ℕ) → Fills s m 64 (drop 64 memory) → WaitsNoMore m t
    → Filled s t memory
filled s m t memory f w =
    record {
      goes_on = goes_on_after f.goes_on w.goes_on;
      state = λ text. w.state text ∙ ap (λ (x : State). record x { pending = None }) (f.state text);
    }

pub fill_and_stop : (s m t : Recording Contents) (memory bytes : List ℕ) → Fills s m 64 bytes → bytes ≡ drop 64 memory
    → t.store.cells ≡ set m.store.cells 5 0 → t.store.fixed ≡ m.store.fixed → t.beginning ≡ m.beginning
    → Filled s t memory
fill_and_stop s m t memory bytes f is cells fixed beginning =
    filled s m t memory (subst (λ (b : List ℕ). Fills s m 64 b) is f)
    (waits_no_more m t f.goes_on.sound cells fixed beginning)

length-with_bytes : (memory : List ℕ) (at : ℕ) (bytes : List ℕ) → length (with_bytes memory at bytes) ≡ length memory
length-with_bytes memory at [] = refl
length-with_bytes memory at (b ∷ bytes) =
    length-with_bytes (set memory at b) (at + 1) bytes ∙ length-set memory at b

-- the story is as long as before
pub filled_size : (s t : Recording Contents) (memory : List ℕ) → Filled s t memory
    → length (memory_of t.store) ≡ length (memory_of s.store)
filled_size s t memory f = ap (λ (x : State). length x.memory) (f.state [])
    ∙ length-with_bytes (memory_of s.store) 64 (drop 64 memory)

taken_up : (loaded : Loaded) (s m t : Recording Contents) (saved : Saved)
    → Filled s m (with_words_of loaded.dynamic saved.memory)
    → Went (Ok tt) m t (with_frames saved.stacks) → Went (Ok tt) s t (take_up loaded saved)
unfolding take_up with_frames
taken_up loaded s m t saved f w =
    record {
      did = (
        goes_on_after f.goes_on w.did.0,
        λ text. ap (λ (x : State). done tt (record x { frames = frames_of saved.stacks })) (sym (f.state text))
            ∙ w.did.1 text,
      );
    }

not_taken_up : {e : End} (loaded : Loaded) (s m t : Recording Contents) (saved : Saved)
    → Filled s m (with_words_of loaded.dynamic saved.memory)
    → Went {A = Unit {0}} (Err e) m t (with_frames saved.stacks)
    → Went {A = Unit {0}} (Err e) s t (take_up loaded saved)
not_taken_up loaded s m t saved f w =
    gives_up (with_frames saved.stacks) (take_up loaded saved) (with_is_done saved.stacks) f.goes_on w

-- the memory of a file, with what the player sets in the extension of the header
pub words_kept : (loaded : Loaded) (dynamic memory kept : List ℕ) → dynamic ≡ loaded.dynamic
    → kept ≡ with_words_of dynamic memory → kept ≡ with_words_of loaded.dynamic memory
words_kept loaded dynamic memory kept is w = w ∙ ap (λ (d : List ℕ). with_words_of d memory) is

pub taken_as : (r : Result (Unit {0}) End) (loaded : Loaded) (s m t : Recording Contents) (saved : Saved)
    → Filled s m (with_words_of loaded.dynamic saved.memory) → Went r m t (with_frames saved.stacks)
    → Went r s t (take_up loaded saved)
taken_as (Ok u) loaded s m t saved f w = taken_up loaded s m t saved f w
taken_as (Err e) loaded s m t saved f w = not_taken_up loaded s m t saved f w

pub store_then : (r : Result (Unit {0}) End) {h : Header} {s m t : Recording Contents} {f : State → Out (Unit {0})}
    → IsStoreOf h s.store → GoesOn s m → Went r m t f → OnOk r (IsStoreOf h t.store)
store_then (Ok u) store goes_on w = store_after store (goes_on_after goes_on w.did.0)
store_then (Err e) store goes_on w = tt

-- Fuel and the result

paid : (s : Recording Contents) (fuel : ℕ) → IsSound s.store → fuel ≢ 0 → Went (Ok (fuel - 1)) s s (spend fuel)
unfolding spend
paid s fuel sound some = went_still s (spend fuel) sound
    (λ text. ap (λ (b : Bool). if b then halt (places.Limit limits.Fuel) (state_of s.store text)
    else done (fuel - 1) (state_of s.store text)) (ne_eqb fuel 0 some))

pub no_fuel : (loaded : Loaded) (s : Recording Contents) (saved : Saved) (fuel : ℕ) → IsSound s.store → fuel ≡ 0
    → Went {A = Next} (Err (ends.Stop (places.Limit limits.Fuel))) s s (resume loaded saved fuel)
unfolding resume spend
no_fuel loaded s saved fuel sound none = went_halt s (resume loaded saved fuel) sound (λ text. rw (eq-eqb fuel 0 none) refl)

-- the result, in the variable that a byte of memory names as it is then
stored : {s t : Recording Contents} (r : Result (Unit {0}) End) (at variable : ℕ)
    → variable ≡ slice_index (memory_of s.store) at → Went r s t (store_result (Some variable) 2)
    → Went r s t (λ x. store_result (Some (slice_index x.memory at)) 2 x)
stored {s} r at variable is w = went_as r (λ x. store_result (Some (slice_index x.memory at)) 2 x)
    (λ text. ap (λ (v : ℕ). store_result (Some v) 2 (state_of s.store text)) (sym is)) w

pub resumed : {s m t : Recording Contents} (loaded : Loaded) (saved : Saved) (fuel variable : ℕ) → IsSound s.store
    → fuel ≢ 0 → Went (Ok tt) s m (take_up loaded saved) → variable ≡ slice_index (memory_of m.store) saved.program_counter
    → Went (Ok tt) m t (store_result (Some variable) 2)
    → Went (Ok (record { program_counter = saved.program_counter + 1; fuel = fuel - 1 })) s t (resume loaded saved fuel)
unfolding resume
resumed {s} {m} {t} loaded saved fuel variable sound some taken is w =
    went_then _ (paid s fuel sound some) (went_then _ taken
    (went_then _ (stored (Ok tt) saved.program_counter variable is w)
    (went_still t (goes_on (saved.program_counter + 1) (fuel - 1)) (went_sound w) (λ text. refl))))

pub not_stored : {e : End} {s m t : Recording Contents} (loaded : Loaded) (saved : Saved) (fuel variable : ℕ)
    → IsSound s.store → fuel ≢ 0 → Went (Ok tt) s m (take_up loaded saved) → variable ≡ slice_index (memory_of m.store) saved.program_counter
    → Went {A = Unit {0}} (Err e) m t (store_result (Some variable) 2)
    → Went {A = Next} (Err e) s t (resume loaded saved fuel)
unfolding resume
not_stored {e} {s} loaded saved fuel variable sound some taken is w =
    went_then _ (paid s fuel sound some) (went_then _ taken
    (went_no_further _ (stored (Err e) saved.program_counter variable is w)))

pub not_resumed : {e : End} {s t : Recording Contents} (loaded : Loaded) (saved : Saved) (fuel : ℕ)
    → IsSound s.store → fuel ≢ 0 → Went {A = Unit {0}} (Err e) s t (take_up loaded saved)
    → Went {A = Next} (Err e) s t (resume loaded saved fuel)
unfolding resume
not_resumed {s = s} loaded saved fuel sound some w =
    went_then _ (paid s fuel sound some) (went_no_further _ w)

-- What a file says

pub refused : {s t : Recording Contents} (loaded : Loaded) (r : Result Next End) (outcome : Result Saved SaveFault) (fault : SaveFault)
    (here : Next) (after : ℕ) (result : Option ℕ) → outcome ≡ Err fault → Went r s t (give_result here after result 0)
    → Went r s t (resume_if_read loaded outcome here after result)
refused {s} loaded r outcome fault here after result is w =
    went_as r (resume_if_read loaded outcome here after result)
    (λ text. ap (λ (o : Result Saved SaveFault). resume_if_read loaded o here after result (state_of s.store text)) is) w

pub read : {s t : Recording Contents} (loaded : Loaded) (r : Result Next End) (outcome : Result Saved SaveFault)
    (saved : Saved) (here : Next) (after : ℕ) (result : Option ℕ) → outcome ≡ Ok saved
    → Went r s t (resume loaded saved here.fuel) → Went r s t (resume_if_read loaded outcome here after result)
read {s} loaded r outcome saved here after result is w =
    went_as r (resume_if_read loaded outcome here after result)
    (λ text. ap (λ (o : Result Saved SaveFault). resume_if_read loaded o here after result (state_of s.store text)) is) w
