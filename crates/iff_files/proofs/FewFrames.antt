-- A save file that is read has no more frames than there may be.
use Rattle.std.proofs.Common.{◌≡◌, ◌≤◌, ◌+◌, ◌-◌, ℕ, zero, suc, Bool, true, false, if◌then◌else◌, List, [], ◌∷◌, length, drop}
use Rattle.std.proofs.Common.{refl, subst, arith, Option, Some, None, Result, Ok, Err}
use Rattle.std.specs.Option.{option_and_then, option_map}
use Rattle.zcore.specs.State.{Frame}
use Rattle.iff_files.specs.declared.fault.SaveFault.{SaveFault}
use Rattle.iff_files.specs.Frames.{Stacks, frame_in, frames_in, head_of, is_frame, main_and_calls, most_frames, most_words, size_of}
use Rattle.iff_files.specs.Frames.{stacks_in, words_of}
use Rattle.iff_files.specs.SaveFiles.{Saved, and_then, header_in, memory_in, or_fault, parts_in, saved_in}

some_is : {A : Type 0} (a b : A) → (let o : Option A = Some a in o) ≡ Some b → a ≡ b
some_is a b e = cc

-- one frame more
few_more : (frames : ℕ) (f : Frame) (is : Bool) (o : Option (List Frame)) (fs : List Frame)
    → ((gs : List Frame) → o ≡ Some gs → length gs ≤ frames)
    → (if is then option_map (λ gs. f ∷ gs) o else None) ≡ Some fs → length fs ≤ suc frames
few_more frames f false o fs few e = absurd (cc)
few_more frames f true None fs few e = absurd (cc)
few_more frames f true (Some gs) fs few e =
    let h = few gs refl in
    subst (λ (l : List Frame). length l ≤ suc frames) (some_is (f ∷ gs) fs e) (omega (arith, h))

none_few : (frames : ℕ) (fs : List Frame) → (let o : Option (List Frame) = Some [] in o) ≡ Some fs → length fs ≤ frames
none_few frames fs e = subst (λ (l : List Frame). length l ≤ frames) (some_is [] fs e) (omega arith)

few_frames : (size frames most : ℕ) (bytes : List ℕ) (fs : List Frame) → frames_in size frames most bytes ≡ Some fs
    → length fs ≤ frames
unfolding frames_in
few_frames size zero most [] fs e = none_few 0 fs e
few_frames size zero most (b ∷ bytes) fs e = absurd (cc)
few_frames size (suc frames) most [] fs e = none_few (suc frames) fs e
few_frames size (suc frames) most (b ∷ bytes) fs e =
    few_more frames (frame_in (b ∷ bytes)) (is_frame size most (b ∷ bytes)) _ fs
    (λ gs h. few_frames size frames (most - words_of (head_of (b ∷ bytes)))
    (drop (size_of (head_of (b ∷ bytes))) (b ∷ bytes)) gs h) e

few_calls_of : (o : Option (List Frame)) (stacks : Stacks) → ((fs : List Frame) → o ≡ Some fs → length fs ≤ 1001)
    → option_and_then main_and_calls o ≡ Some stacks → length stacks.calls + 1 ≤ 1001
few_calls_of None stacks few e = absurd (cc)
few_calls_of (Some []) stacks few e = absurd (cc)
few_calls_of (Some (main ∷ calls)) stacks few e =
    let h = few (main ∷ calls) refl in
    subst (λ (x : Stacks). length x.calls + 1 ≤ 1001)
    (some_is (record { stack = main.stack; calls = calls }) stacks e) (omega (arith, h))

few_if : (is : Bool) (o : Option (List Frame)) (stacks : Stacks) → ((fs : List Frame) → o ≡ Some fs → length fs ≤ 1001)
    → (if is then option_and_then main_and_calls o else None) ≡ Some stacks → length stacks.calls + 1 ≤ 1001
few_if true o stacks few e = few_calls_of o stacks few e
few_if false o stacks few e = absurd (cc)

pub few_calls : (size : ℕ) (bytes : List ℕ) (stacks : Stacks) → stacks_in size bytes ≡ Some stacks
    → length stacks.calls + 1 ≤ 1001
few_calls size bytes stacks e =
    few_if _ (frames_in size most_frames most_words bytes) stacks
    (λ fs h. few_frames size most_frames most_words bytes fs h) e

-- the steps of reading, the last first

ok_is : (a b : Saved) → (let r : Result Saved SaveFault = Ok a in r) ≡ Ok b → a ≡ b
ok_is a b e = cc

abbrev IsShort : Result Saved SaveFault → Type 0
IsShort r = (saved : Saved) → r ≡ Ok saved → length saved.stacks.calls + 1 ≤ 1001

refused : (fault : SaveFault) → IsShort (Err fault)
refused fault = λ saved e. absurd (cc)

short_or : {A : Type 0} (fault : SaveFault) (o : Option A) (further : A → Result Saved SaveFault)
    → ((a : A) → o ≡ Some a → IsShort (further a)) → IsShort (or_fault fault o further)
short_or fault None further short = refused fault
short_or fault (Some a) further short = short a refl

short_then : {A : Type 0} (r : Result A SaveFault) (further : A → Result Saved SaveFault)
    → ((a : A) → IsShort (further a)) → IsShort (and_then r further)
short_then (Err fault) further short = refused fault
short_then (Ok a) further short = short a

short_with : (counter : ℕ) (memory : List ℕ) (stacks : Stacks) → length stacks.calls + 1 ≤ 1001
    → IsShort (Ok (record { program_counter = counter; memory = memory; stacks = stacks }))
short_with counter memory stacks few = λ saved e.
    subst (λ (x : Saved). length x.stacks.calls + 1 ≤ 1001) (ok_is _ saved e) few

pub few_saved : (story : List ℕ) (size : ℕ) (bytes : List ℕ) (saved : Saved) → saved_in story size bytes ≡ Ok saved
    → length saved.stacks.calls + 1 ≤ 1001
unfolding saved_in
few_saved story size bytes =
    short_or _ (parts_in bytes) _ (λ parts _. short_then (header_in story parts.header) _ (λ counter.
    short_or _ (memory_in story parts.memory) _ (λ memory _.
    short_or _ (stacks_in size parts.frames) _ (λ stacks h.
    short_with counter memory stacks (few_calls size parts.frames stacks h)))))
