-- A state that a story keeps, or does not.
use Rattle.std.proofs.Common.{◌≡◌, ◌<◌, ℕ, ◌-◌, Bool, true, false, if◌then◌else◌, List, [], ◌∷◌, ◌++◌, length, reverse, take}
use Rattle.std.proofs.Common.{refl, ap, sym, ◌∙◌, subst, slice_index, arith, Option, Some, None, Result, Ok, Err}
use Rattle.std.specs.List.{list_all}
use Rattle.std.specs.Result.{IsErrAnd}
use Rattle.std.proofs.lemmas.Bool.{le-ltb}
use Rattle.std.proofs.lemmas.Result.{err_from_is_err_and}
use Rattle.journal.specs.Recording.{Recording}
use Rattle.zcore.specs.declared.next.Next.{Next}
use Rattle.zcore.specs.Effects.{give_result}
use Rattle.zcore.specs.State.{Frame, State, Out}
use Rattle.zcore_standard.specs.Keeping.{newest, with_newest, without_newest}
use Rattle.zcore_standard.specs.Loaded.{Loaded}
use Rattle.zcore_standard.specs.Place.{Here, on, within}
use Rattle.zcore_standard.specs.SavedStates.{can_be_kept, file_of, give_for, is_savable, keep_file, restore_newest}
use Rattle.zcore_standard.specs.SavedStates.{restore_undo, resume_if_read, save_undo, stacks_of}
use Rattle.iff_files.specs.Frames.{Stacks, stacks_bytes}
use Rattle.iff_files.specs.SaveFiles.{save_bytes, saved_in}
use Rattle.machine_decoding.specs.Seen.{seen}
use Rattle.machine_frames.specs.Contents.{Contents, memory_of}
use Rattle.machine_frames.specs.States.{base_of, frame_count, frames_of, height_of, state_of, IsSound}
use Rattle.machine_frames.specs.Went.{GivenUp, GoesOn, Went}
use Rattle.machine_frames.specs.declared.end.End.{End}
use Rattle.machine_frames.specs.declared.end.End.TheVariants as ends
use Rattle.machine_standard_windows.specs.TurnState.{place}
use Rattle.machine_standard_windows.specs.declared.turn_state.TurnState.{TurnState}
use Rattle.machine_frames.proofs.Steps.{given_up_after, went_as}
use Rattle.machine_standard_saves.proofs.WrittenFrames.{few_bytes}
use Rattle.machine_standard_saves.specs.Written.{IsFileOf, WritesAll, end_of, first_frames}
use Rattle.machine_standard_opcodes.proofs.Keeping.{went_within}

-- of whether a state can be kept, and of its file, the text of the turn tells nothing
same_test : (s : Contents) (text : List ℕ) → can_be_kept (state_of s text) ≡ can_be_kept (state_of s [])
unfolding can_be_kept
same_test s text = refl

same_file : (story : List ℕ) (at : ℕ) (s : Contents) (text : List ℕ)
    → file_of story at (state_of s text) ≡ file_of story at (state_of s [])
unfolding file_of
same_file story at s text = refl

abbrev kept_by : Here → List ℕ → Here
kept_by here file = record here { kept = with_newest file here.kept }

saved : (loaded : Loaded) (here : Here) (after : ℕ) (result : Option ℕ) (s : Contents) (file : List ℕ) (text : List ℕ)
    → can_be_kept (state_of s []) ≡ true → file ≡ file_of loaded.dynamic (after - 1) (state_of s [])
    → save_undo loaded here after result (state_of s text)
    ≡ within (kept_by here file) (give_for (length file) here.next after result 1 (state_of s text))
unfolding save_undo
saved loaded here after result s file text can is =
    let o = λ (f : List ℕ). keep_file here after result f (state_of s text) in
    ap (λ (b : Bool). if b then o (file_of loaded.dynamic (after - 1) (state_of s text))
    else within here (give_result here.next after result 65535 (state_of s text))) (same_test s text ∙ can)
    ∙ ap o (same_file loaded.dynamic (after - 1) s text ∙ sym is)

pub saved_went : {s t : Recording Contents} (r : Result Next End) (loaded : Loaded) (here : Here) (after : ℕ)
    (result : Option ℕ) (file : List ℕ) (bytes : ℕ) → can_be_kept (state_of s.store []) ≡ true
    → file ≡ file_of loaded.dynamic (after - 1) (state_of s.store []) → bytes ≡ length file
    → Went r s t (give_for bytes here.next after result 1)
    → Went (seen (on (kept_by here file)) r) s t (save_undo loaded here after result)
saved_went {s} {t} r loaded here after result file bytes can is size w =
    went_as (seen (on (kept_by here file)) r) (save_undo loaded here after result)
    (λ text. saved loaded here after result s.store file text can is)
    (went_within r (kept_by here file) (give_for (length file) here.next after result 1)
    (subst (λ (n : ℕ). Went r s t (give_for n here.next after result 1)) size w))

unsaved : (loaded : Loaded) (here : Here) (after : ℕ) (result : Option ℕ) (s : Contents) (text : List ℕ)
    → can_be_kept (state_of s []) ≡ false
    → save_undo loaded here after result (state_of s text)
    ≡ within here (give_result here.next after result 65535 (state_of s text))
unfolding save_undo
unsaved loaded here after result s text not =
    ap (λ (b : Bool). if b
    then keep_file here after result (file_of loaded.dynamic (after - 1) (state_of s text)) (state_of s text)
    else within here (give_result here.next after result 65535 (state_of s text))) (same_test s text ∙ not)

pub unsaved_went : {s t : Recording Contents} (r : Result Next End) (loaded : Loaded) (here : Here) (after : ℕ)
    (result : Option ℕ) → can_be_kept (state_of s.store []) ≡ false
    → Went r s t (give_result here.next after result 65535)
    → Went (seen (on here) r) s t (save_undo loaded here after result)
unsaved_went {s} r loaded here after result not w =
    went_as (seen (on here) r) (save_undo loaded here after result)
    (λ text. unsaved loaded here after result s.store text not)
    (went_within r here (give_result here.next after result 65535) w)

-- at the exit of a `?`
pub went_seen_err : {s t : Recording Contents} {e : End} {f : State → Out Here} (view : Next → Here)
    (r : Result Next End) → IsErrAnd r (λ q. q ≡ e) → Went {A = Here} (Err e) s t f → Went (seen view r) s t f
went_seen_err view r h w =
    let p = err_from_is_err_and r h in
    rw (p.1, p.2) w

-- The file of a store

all_frames : (s : Contents) → end_of (slice_index s.cells) (frame_count (slice_index s.cells))
    ≡ height_of (slice_index s.cells)
all_frames s =
    let f = slice_index s.cells in
    ap (λ (b : Bool). if b then base_of f (frame_count f) else height_of f)
    (le-ltb (frame_count f) (frame_count f) (omega arith))

pub cannot_be_kept : (story : List ℕ) (at : ℕ) (s : Contents) (before after : List ℕ) (told : Bool) → told ≡ false
    → WritesAll s before after told → IsFileOf story at s None
unfolding can_be_kept
cannot_be_kept story at s before after told is w =
    let f = slice_index s.cells in
    subst (λ (h : ℕ). list_all (is_savable (length (memory_of s))) (frames_of f (frame_count f) h) ≡ false) (all_frames s)
    (subst (λ (b : Bool). WritesAll s before after b) is w)

pub has_file : (story : List ℕ) (at : ℕ) (s : Contents) (before stacks memory file : List ℕ) (told : Bool) → told ≡ true
    → WritesAll s before stacks told → before ≡ [] → memory ≡ take (length story) (memory_of s)
    → ((read : Stacks) → stacks ≡ stacks_bytes read
    → file ≡ save_bytes story (record { program_counter = at; memory = memory; stacks = read }))
    → IsFileOf story at s (Some file)
unfolding can_be_kept file_of
has_file story at s before stacks memory file told is w none is_memory is_file =
    let f = slice_index s.cells in
    let v : WritesAll s before stacks true = subst (λ (b : Bool). WritesAll s before stacks b) is w in
    let frames : first_frames s (frame_count f) ≡ frames_of f (frame_count f) (height_of f) =
    ap (λ (h : ℕ). frames_of f (frame_count f) h) (all_frames s) in
    let read : Stacks = stacks_of (reverse (first_frames s (frame_count f))) in (
      subst (λ (fs : List Frame). list_all (is_savable (length (memory_of s))) fs ≡ true) frames v.0,
      is_file read (v.1 ∙ ap (λ (b : List ℕ). b ++ stacks_bytes read) none)
          ∙ ap (λ (m : List ℕ). save_bytes story (record { program_counter = at; memory = m; stacks = read })) is_memory
          ∙ ap (λ (fs : List Frame). save_bytes story (record {
            program_counter = at;
            memory = take (length story) (memory_of s);
            stacks = stacks_of (reverse fs);
          })) frames,
    )

-- The newest state

pub none_restored : {s t : Recording Contents} (r : Result Next End) (loaded : Loaded) (here : Here) (after : ℕ)
    (result : Option ℕ) → newest here.kept ≡ [] → Went r s t (give_result here.next after result 0)
    → Went (seen (on here) r) s t (restore_undo loaded here after result)
unfolding restore_undo
none_restored {s} r loaded here after result none w =
    went_as (seen (on here) r) (restore_undo loaded here after result)
    (λ text. ap (λ (k : List (List ℕ)). restore_newest loaded here after result k (state_of s.store text)) none)
    (went_within r here (give_result here.next after result 0) w)

pub newest_restored : {s t : Recording Contents} (r : Result Next End) (loaded : Loaded) (here : Here) (after : ℕ)
    (result : Option ℕ) (file : List ℕ) → newest here.kept ≡ file ∷ []
    → Went r s t (resume_if_read loaded (saved_in loaded.dynamic (length (memory_of s.store)) file) here.next after result)
    → Went (seen (on (record here { kept = without_newest here.kept })) r) s t (restore_undo loaded here after result)
unfolding restore_undo
newest_restored {s} r loaded here after result file is w =
    let there : Here = record here { kept = without_newest here.kept } in
    went_as (seen (on there) r) (restore_undo loaded here after result)
    (λ text. ap (λ (k : List (List ℕ)). restore_newest loaded here after result k (state_of s.store text)) is)
    (went_within r there
    (resume_if_read loaded (saved_in loaded.dynamic (length (memory_of s.store)) file) here.next after result) w)

-- frames take few bytes
pub short_stacks : (s : Contents) (before stacks : List ℕ) (told : Bool) → IsSound s → told ≡ true
    → WritesAll s before stacks told → before ≡ [] → length stacks < 1048576
short_stacks s before stacks told sound is w none =
    let f = slice_index s.cells in
    let v : WritesAll s before stacks true = subst (λ (b : Bool). WritesAll s before stacks b) is w in
    let read : Stacks = stacks_of (reverse (first_frames s (frame_count f))) in
    subst (λ (l : List ℕ). length l < 1048576) (sym (v.1 ∙ ap (λ (b : List ℕ). b ++ stacks_bytes read) none))
    (few_bytes s sound)

pub gave_up : {s t u : Recording Contents} (view : Next → Here) (r : Result Next End) (f : State → Out Here)
    → IsErrAnd r (λ q. q ≡ ends.Memory) → GoesOn s t → GivenUp t u → Went (seen view r) s u f
gave_up view r f h a b = went_seen_err view r h (record { did = given_up_after a b })

-- what the turn keeps then
pub kept_in : {s t u : Recording Contents} (turn new : TurnState) (here next : Next) (file : List ℕ)
    (f : State → Out Here) → new ≡ record turn { kept = with_newest file turn.kept } → u ≡ t
    → Went (Ok (on (kept_by (place turn here) file) next)) s t f → Went (Ok (place new next)) s u f
kept_in {s} {t} {u} turn new here next file f is same w =
    subst (λ (x : TurnState). Went (Ok (place x next)) s u f) (sym is)
    (subst (λ (x : Recording Contents). Went (Ok (on (kept_by (place turn here) file) next)) s x f) (sym same) w)

pub without_kept : {s t : Recording Contents} (turn : TurnState) (here next : Next) (kept : List (List ℕ))
    (f : State → Out Here) → kept ≡ without_newest turn.kept
    → Went (Ok (on (record (place turn here) { kept = without_newest turn.kept }) next)) s t f
    → Went (Ok (on (record (place turn here) { kept = kept }) next)) s t f
without_kept {s} {t} turn here next kept f is w =
    subst (λ (k : List (List ℕ)). Went (Ok (on (record (place turn here) { kept = k }) next)) s t f) (sym is) w
