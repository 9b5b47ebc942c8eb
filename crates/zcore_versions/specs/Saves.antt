-- Laws of states that a story keeps.
use Rattle.std.specs.Prelude.{◌≡◌, ℕ, List, [], ◌∷◌, length, reverse, Option, None}
use Rattle.zcore.specs.State.{Frame, State}
use Rattle.iff_files.specs.SaveFiles.{CanBeSaved}
use Rattle.zcore_standard.specs.Keeping.{with_newest, without_newest}
use Rattle.zcore_standard.specs.Loaded.{Loaded}
use Rattle.zcore_standard.specs.Place.{Here, within}
use Rattle.zcore_standard.specs.SavedStates.{file_of, frames_of, restore_undo, resume, saved_of, stacks_of}

-- a state that can be kept, of a story that was loaded
abbrev pub IsKeepable : Loaded → ℕ → State → Type 0
IsKeepable loaded at s = CanBeSaved loaded.dynamic (length s.memory) (saved_of loaded.dynamic at s)

-- The state that was kept last is restored, whatever the present state is.
abbrev pub RestoresWhatWasKept : Type 0
RestoresWhatWasKept =
    (loaded : Loaded) (kept : List (List ℕ)) (at : ℕ) (s t : State) (here : Here) (after : ℕ) (result : Option ℕ)
    → IsKeepable loaded at s → length t.memory ≡ length s.memory
    → here.kept ≡ with_newest (file_of loaded.dynamic at s) kept
    → restore_undo loaded here after result t
    ≡ within (record here { kept = without_newest here.kept }) (resume loaded (saved_of loaded.dynamic at s) here.next.fuel t)

-- the oldest frame is the one of the main code, which has a stack and nothing else (5.5)
abbrev pub BeginsWithMain : List Frame → Type 0
BeginsWithMain [] = ⊥
BeginsWithMain (main ∷ calls) = main ≡ record { locals = []; stack = main.stack; arguments = 0; return_address = 0; result = None }

-- with all its frames
abbrev pub RestoresAllFrames : Type 0
RestoresAllFrames = (s : State) → BeginsWithMain (reverse s.frames) → frames_of (stacks_of (reverse s.frames)) ≡ s.frames
