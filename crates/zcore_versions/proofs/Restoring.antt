-- What was kept is restored.
use Rattle.std.proofs.Common.{◌≡◌, ℕ, ◌-◌, List, [], ◌∷◌, ◌++◌, length, reverse}
use Rattle.std.proofs.Common.{ap, sym, ◌∙◌, arith, Result, Ok}
use Rattle.std.proofs.lemmas.List.{drop_at, length_push, reverse-reverse}
use Rattle.zcore.specs.State.{Frame, State}
use Rattle.iff_files.specs.SaveFiles.{Saved, saved_in}
use Rattle.iff_files.specs.declared.fault.SaveFault.{SaveFault}
use Rattle.iff_files.proofs.ReadSaves as save_files
use Rattle.zcore_standard.specs.Keeping.{newest, room_for, with_newest, without_newest}
use Rattle.zcore_standard.specs.Loaded.{Loaded}
use Rattle.zcore_standard.specs.Place.{within}
use Rattle.zcore_standard.specs.SavedStates.{file_of, frames_of, restore_newest, restore_undo, resume_if_read}
use Rattle.zcore_standard.specs.SavedStates.{saved_of, stacks_of}
use Rattle.zcore_versions.specs.Saves.{BeginsWithMain, IsKeepable, RestoresAllFrames, RestoresWhatWasKept}

file_back : (loaded : Loaded) (at : ℕ) (s : State) (size : ℕ) → IsKeepable loaded at s → size ≡ length s.memory
    → saved_in loaded.dynamic size (file_of loaded.dynamic at s) ≡ Ok (saved_of loaded.dynamic at s)
unfolding file_of
file_back loaded at s size can same =
    ap (λ (n : ℕ). saved_in loaded.dynamic n (file_of loaded.dynamic at s)) same
    ∙ save_files.reads_back loaded.dynamic (length s.memory) (saved_of loaded.dynamic at s) can

-- the newest comes last
newest_last : (kept : List (List ℕ)) (file : List ℕ) → newest (with_newest file kept) ≡ file ∷ []
newest_last kept file =
    let older : List (List ℕ) = room_for (length file) kept in
    drop_at older (file ∷ []) (length (older ++ file ∷ []) - 1) (omega (arith, length_push older file))

pub restores : RestoresWhatWasKept
unfolding restore_undo
restores = λ loaded kept at s t here after result can same is.
    let file : List ℕ = file_of loaded.dynamic at s in
    ap (λ (n : List (List ℕ)). restore_newest loaded here after result n t)
    (ap (λ (k : List (List ℕ)). newest k) is ∙ newest_last kept file)
    ∙ ap (λ (r : Result Saved SaveFault). within (record here { kept = without_newest here.kept })
    (resume_if_read loaded r here.next after result t))
    (file_back loaded at s (length t.memory) can same)

main_back : (fs : List Frame) → BeginsWithMain fs → frames_of (stacks_of fs) ≡ reverse fs
main_back [] begins = absurd begins
main_back (f ∷ fs) begins = ap (λ (main : Frame). reverse (main ∷ fs)) (sym begins)

pub all_frames : RestoresAllFrames
all_frames = λ s begins. main_back (reverse s.frames) begins ∙ reverse-reverse s.frames
