-- What a store that waits is asked for, and its file.
use Rattle.std.proofs.Common.{◌≡◌, ◌≢◌, ◌≤◌, ◌<◌, ◌-◌, ℕ, Bool, true, false, if◌then◌else◌, List, [], length, refl, ap, sym, ◌∙◌}
use Rattle.std.proofs.Common.{inr, subst, Option, Some, None, Result, Ok, Err}
use Rattle.std.specs.Prelude.{◌&&◌, IfOk}
use Rattle.std.specs.Option.{unwrap_or}
use Rattle.std.proofs.lemmas.Bool.{le-ltb, lt-ltb, ne_eqb}
use Rattle.zcore.specs.State.{Pending}
use Rattle.zcore_standard.specs.Loaded.{Loaded}
use Rattle.zcore_standard.specs.SavedStates.{can_be_kept, file_of}
use Rattle.zcore_standard.specs.Saving.{asked_by, can_be_saved, place_of, saved_game}
use Rattle.zcore_standard.specs.declared.save_form.Purpose.{Purpose}
use Rattle.machine_frames.specs.Contents.{Contents, memory_of}
use Rattle.machine_frames.specs.States.{long_at, pending_of, state_of, variable_of}
use Rattle.machine_lines.proofs.Lines.{pending_parts}
use Rattle.machine_standard_saves.specs.Asked.{IsGameAt, IsGameOf}
use Rattle.machine_standard_saves.specs.Written.{IsFileOf}

none_pending : (f : ℕ → ℕ) → f 5 ≡ 0 → pending_of f ≡ None
none_pending f e = rw e refl

pub not_asked : (f : ℕ → ℕ) (waiting : ℕ) → waiting ≡ f 5 → waiting ≡ 0 → None ≡ asked_by (pending_of f)
not_asked f waiting is none = sym (ap (λ (p : Option Pending). asked_by p) (none_pending f (sym is ∙ none)))

-- it waits with these buffers
abbrev with_buffers : ℕ → ℕ → Option ℕ → ℕ → Pending
with_buffers text parse result address =
    record { text_buffer = text; parse_buffer = parse; result = result; return_address = address }

pub asked_with : (f : ℕ → ℕ) (waiting text parse : ℕ) (asked : Option Purpose) → waiting ≡ f 5 → waiting ≢ 0
    → text ≡ f 6 → parse ≡ f 7 → asked ≡ asked_by (Some (with_buffers text parse None 0)) → asked ≡ asked_by (pending_of f)
asked_with f waiting text parse asked is some text_is parse_is asks =
    let waits : pending_of f ≡ Some (with_buffers (f 6) (f 7) (variable_of (f 8)) (long_at f 9)) =
    ap (λ (b : Bool). if b then None else Some (with_buffers (f 6) (f 7) (variable_of (f 8)) (long_at f 9)))
    (ne_eqb (f 5) 0 (λ e. some (is ∙ e))) in
    asks
    ∙ ap (λ (t : ℕ). asked_by (Some (with_buffers t parse None 0))) text_is
    ∙ ap (λ (p : ℕ). asked_by (Some (with_buffers (f 6) p None 0))) parse_is
    ∙ sym (ap (λ (p : Option Pending). asked_by p) waits)

pub place_is : (f : ℕ → ℕ) (number place : ℕ) (pending : Pending) → number ≡ long_at f 9 → place ≡ number - 1
    → pending_of f ≡ Some pending → place ≡ place_of pending
place_is f number place pending long is waits =
    is ∙ ap (λ (n : ℕ). n - 1) (long ∙ ap (λ (p : Pending). p.return_address) (pending_parts f pending waits))

-- The file

past_the_end : (s : Contents) (place : ℕ) → length (memory_of s) ≤ place → can_be_saved place (state_of s []) ≡ false
past_the_end s place le =
    ap (λ (b : Bool). b && can_be_kept (state_of s [])) (le-ltb place (length (memory_of s)) le)

inside : (s : Contents) (place : ℕ) (kept : Bool) → place < length (memory_of s) → can_be_kept (state_of s []) ≡ kept
    → can_be_saved place (state_of s []) ≡ kept
inside s place kept lt is =
    ap (λ (b : Bool). b && can_be_kept (state_of s [])) (lt-ltb place (length (memory_of s)) lt) ∙ is

pub no_game : (loaded : Loaded) (s : Contents) (place : ℕ) → length (memory_of s) ≤ place
    → ((pending : Pending) → (state_of s []).pending ≡ Some pending → place ≡ place_of pending)
    → IsGameOf loaded s None
no_game loaded s place le is = λ pending waits. inr (past_the_end s (place_of pending)
    (subst (λ (p : ℕ). length (memory_of s) ≤ p) (is pending waits) le))

game_at : (loaded : Loaded) (story : List ℕ) (s : Contents) (place : ℕ) (file : Option (List ℕ))
    → loaded.saves ≡ Some story → place < length (memory_of s) → IsFileOf story place s file
    → IsGameAt loaded place s file
unfolding saved_game
game_at loaded story s place None saves lt is = inr (inside s place false lt is)
game_at loaded story s place (Some file) saves lt is = (
  inside s place true lt is.0,
  is.1 ∙ sym (ap (λ (o : Option (List ℕ)). file_of (unwrap_or o []) place (state_of s [])) saves),
)

pub is_game : {A E : Type 0} (r : Result A E) (view : A → Option (List ℕ)) (loaded : Loaded) (story : List ℕ)
    (s : Contents) (place : ℕ) → loaded.saves ≡ Some story → place < length (memory_of s)
    → ((pending : Pending) → (state_of s []).pending ≡ Some pending → place ≡ place_of pending)
    → IfOk r (λ file. IsFileOf story place s (view file)) → IfOk r (λ file. IsGameOf loaded s (view file))
is_game (Ok file) view loaded story s place saves lt at is = λ pending waits.
    subst (λ (p : ℕ). IsGameAt loaded p s (view file)) (at pending waits)
    (game_at loaded story s place (view file) saves lt is)
is_game (Err e) view loaded story s place saves lt at is = tt
