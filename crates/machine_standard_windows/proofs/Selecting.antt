-- The opcodes of windows, by the windows that are there.
use Rattle.std.proofs.Common.{◌≡◌, ◌≢◌, ℕ, List, [], ◌∷◌, length, take, drop, refl, ap, sym}
use Rattle.std.proofs.Common.{◌∙◌, subst, arith, ◌⊎◌, inl, inr}
use Rattle.std.proofs.Common.{true, false, Some, None, Result, Ok, Err}
use Rattle.std.specs.Prelude.{◌&&◌}
use Rattle.std.specs.Result.{IsErrAnd}
use Rattle.std.proofs.lemmas.Bool.{eq-eqb, ne_eqb}
use Rattle.journal.specs.Recording.{Recording}
use Rattle.zcore.specs.declared.next.Next.{Next}
use Rattle.zcore.specs.State.{State, Out, done}
use Rattle.zcore_standard.specs.declared.streams.Stream.{Stream}
use Rattle.zcore_standard.specs.declared.windows.Upper.{Upper}
use Rattle.zcore_standard.specs.Place.{Here, is_none_open}
use Rattle.zcore_standard.specs.Windows.{lower, begun_at, put_cursor, cursor_to, open_upper, is_place, set_cursor}
use Rattle.zcore_standard.specs.Windows.{settled_in, settled, with_window, set_window, erased_in, erase_upper}
use Rattle.zcore_standard.specs.Windows.{erase_window, split_window, show_in, show_text}
use Rattle.machine_frames.specs.Contents.{Contents}
use Rattle.machine_frames.specs.States.{IsSound}
use Rattle.machine_frames.specs.Went.{Told}
use Rattle.machine_frames.specs.declared.end.End.{End}
use Rattle.machine_frames.proofs.Steps.{goes_on_still, told_no_further, told_sound, told_still, told_then}
use Rattle.machine_decoding.specs.Seen.{seen}
use Rattle.machine_standard_windows.specs.TurnState.{place}
use Rattle.machine_standard_windows.specs.Drawn.{Redraws}
use Rattle.machine_standard_windows.specs.declared.turn_state.TurnState.{TurnState}
use Rattle.machine_standard_windows.proofs.TurnTexts.{told_seen_err}

-- Open streams

pub none_open : (streams : List Stream) → length streams ≡ 0 → is_none_open streams ≡ true
none_open [] e = refl
none_open (stream ∷ streams) e = absurd (omega (arith, e))

pub some_open : (streams : List Stream) → length streams ≢ 0 → is_none_open streams ≡ false
some_open [] not = absurd (not refl)
some_open (stream ∷ streams) not = refl

no_streams : (streams : List Stream) → length streams ≡ 0 → streams ≡ []
no_streams [] e = refl
no_streams (stream ∷ streams) e = absurd (omega (arith, e))

pub upper_open : (here : Here) → length here.streams ≡ 0 → here.upper ≡ open_upper here
upper_open here e = rw (none_open here.streams e) refl

pub upper_shut : (here : Here) → length here.streams ≢ 0 → None ≡ open_upper here
upper_shut here not = rw (some_open here.streams not) refl

-- The window where no stream is open

settled_open : (here : Here) (streams : List Stream) (s : State) → here.streams ≡ streams → length streams ≢ 0
    → settled here s ≡ done here s
unfolding settled
settled_open here [] s e some = absurd (some refl)
settled_open here (stream ∷ streams) s e some = ap (λ l. settled_in l here s) e

settled_shut : (here : Here) (s : State) → length here.streams ≡ 0 → settled here s ≡ settled_in [] here s
unfolding settled
settled_shut here s e = ap (λ l. settled_in l here s) (no_streams here.streams e)

pub settles_open : (start : ℕ) (turn : TurnState) (x : List ℕ) → length turn.streams.items ≢ 0
    → Redraws start turn turn x x settled
settles_open start turn x some next s =
    settled_open (place turn next) turn.streams.items (record s { text = drop start x }) refl some

pub settles_lower : (start : ℕ) (turn : TurnState) (x y : List ℕ) → length turn.streams.items ≡ 0
    → turn.standard_state.window ≡ 0 → drop start y ≡ lower turn.upper (drop start x)
    → Redraws start turn (record turn { upper = None }) x y settled
settles_lower start turn x y none e cut next s =
    let first = settled_shut (place turn next) (record s { text = drop start x }) none in
    let second : settled_in [] (place turn next) (record s { text = drop start x })
    ≡ done (record (place turn next) { upper = None }) (record s { text = lower turn.upper (drop start x) }) =
    rw (eq-eqb turn.standard_state.window 0 e) refl in
    first ∙ second ∙ ap (λ l. done (record (place turn next) { upper = None }) (record s { text = l })) (sym cut)

pub settles_begun : (start from : ℕ) (fresh : Upper) (turn : TurnState) (x : List ℕ) → length turn.streams.items ≡ 0
    → turn.standard_state.window ≢ 0 → turn.upper ≡ None → fresh ≡ begun_at from → from ≡ length (drop start x)
    → Redraws start turn (record turn { upper = Some fresh }) x x settled
settles_begun start from fresh turn x none not e new long next s =
    let first = settled_shut (place turn next) (record s { text = drop start x }) none in
    let second : settled_in [] (place turn next) (record s { text = drop start x })
    ≡ done (record (place turn next) { upper = Some fresh }) (record s { text = drop start x }) =
    rw (ne_eqb turn.standard_state.window 0 not, e, new, long) refl in
    first ∙ second

pub settles_on : (start : ℕ) (turn : TurnState) (upper : Upper) (x : List ℕ) → length turn.streams.items ≡ 0
    → turn.standard_state.window ≢ 0 → turn.upper ≡ Some upper → Redraws start turn turn x x settled
settles_on start turn upper x none not e next s =
    let first = settled_shut (place turn next) (record s { text = drop start x }) none in
    let second : settled_in [] (place turn next) (record s { text = drop start x })
    ≡ done (record (place turn next) { upper = Some upper }) (record s { text = drop start x }) =
    rw (ne_eqb turn.standard_state.window 0 not, e) refl in
    first ∙ second
    ∙ ap (λ u. done (record (place turn next) { upper = u }) (record s { text = drop start x })) (sym e)

-- set_window

pub lower_selected : (here : Here) (window : ℕ) → window ≡ 0 → set_window here window ≡ set_window here 0
lower_selected here window e = ap (set_window here) e

pub upper_begun : (here : Here) (window : ℕ) → window ≢ 0 → None ≡ open_upper here
    → set_window here window ≡ settled (with_window here 1)
unfolding set_window
upper_begun here window not e = rw (ne_eqb window 0 not, sym e) refl

pub upper_again : (here : Here) (window : ℕ) (upper : Upper) → window ≢ 0 → Some upper ≡ open_upper here
    → set_window here window ≡ cursor_to (with_window here 1) upper 1 1
unfolding set_window
upper_again here window upper not e = rw (ne_eqb window 0 not, sym e) refl

-- set_cursor

pub cursor_nowhere : (here : Here) (row column : ℕ) → (is_place row && is_place column) ≡ false
    → set_cursor here row column ≡ done here
unfolding set_cursor
cursor_nowhere here row column e = rw e refl

pub cursor_unseen : (here : Here) (row column : ℕ) → (is_place row && is_place column) ≡ true → None ≡ open_upper here
    → set_cursor here row column ≡ done here
unfolding set_cursor
cursor_unseen here row column e f = rw (e, sym f) refl

pub cursor_seen : (here : Here) (row column : ℕ) (upper : Upper) → (is_place row && is_place column) ≡ true
    → Some upper ≡ open_upper here → set_cursor here row column ≡ cursor_to here upper row column
unfolding set_cursor
cursor_seen here row column upper e f = rw (e, sym f) refl

-- by another definition of the same

pub told_by : {A : Type 0} {s t : Recording Contents} {x y : List ℕ} (r : Result A End) (f g : State → Out A) → g ≡ f
    → Told r s x t y f → Told r s x t y g
told_by {A} {s} {t} {x} {y} r f g e w = subst (λ h. Told r s x t y h) (sym e) w

-- the cursor was moved, or the turn ends
pub cursor_moved : {s t : Recording Contents} {x y : List ℕ} (here : Here) (upper moved : Upper) (row column : ℕ)
    → Told (Ok moved) s x t y (put_cursor upper row column)
    → Told (Ok (record here { upper = Some moved })) s x t y (cursor_to here upper row column)
cursor_moved here upper moved row column w = told_then _ w (told_still _ _ _ (told_sound w) refl)

pub cursor_stopped : {s t : Recording Contents} {x y : List ℕ} {e : End} (view : Next → Here) (r : Result Next End)
    (here : Here) (upper : Upper) (row column : ℕ) → IsErrAnd r (λ q. q ≡ e)
    → Told {A = Upper} (Err e) s x t y (put_cursor upper row column)
    → Told (seen view r) s x t y (cursor_to here upper row column)
cursor_stopped view r here upper row column h w = told_seen_err view r h (told_no_further _ w)

-- Erasing

pub erases_none : (start : ℕ) (turn : TurnState) (x : List ℕ)
    → ((next : Next) → None ≡ open_upper (place turn next)) → Redraws start turn turn x x erase_upper
unfolding erase_upper
erases_none start turn x e next s =
    ap (λ u. erased_in u (place turn next) (record s { text = drop start x })) (sym (e next))

pub erases_some : (start : ℕ) (turn : TurnState) (upper fresh : Upper) (x y : List ℕ)
    → ((next : Next) → Some upper ≡ open_upper (place turn next)) → fresh ≡ begun_at upper.from
    → drop start y ≡ lower (Some upper) (drop start x)
    → Redraws start turn (record turn { upper = Some fresh }) x y erase_upper
unfolding erase_upper
erases_some start turn upper fresh x y e new cut next s =
    ap (λ u. erased_in u (place turn next) (record s { text = drop start x })) (sym (e next))
    ∙ ap (λ l. done (record (place turn next) { upper = Some (begun_at upper.from) }) (record s { text = l })) (sym cut)
    ∙ ap (λ u. done (record (place turn next) { upper = Some u }) (record s { text = drop start y })) (sym new)

-- by another definition of the same
pub redraws_by : (start : ℕ) (old new : TurnState) (x y : List ℕ) (f g : Here → State → Out Here)
    → ((here : Here) → g here ≡ f here) → Redraws start old new x y f → Redraws start old new x y g
redraws_by start old new x y f g e r next s =
    ap (λ k. k (record s { text = drop start x })) (e (place old next)) ∙ r next s

pub redraws_nothing : (start : ℕ) (turn : TurnState) (x : List ℕ) (g : Here → State → Out Here)
    → ((here : Here) → g here ≡ done here) → Redraws start turn turn x x g
redraws_nothing start turn x g e next s = ap (λ k. k (record s { text = drop start x })) (e (place turn next))

pub erases_upper : (window : ℕ) → (window ≡ 1) ⊎ (window ≡ 65534)
    → (here : Here) → erase_window here window ≡ erase_upper here
unfolding erase_window
erases_upper window (inl e) here = rw e refl
erases_upper window (inr e) here = rw e refl

pub erases_both : (window : ℕ) → window ≡ 65535 → (here : Here) → erase_window here window ≡ set_window here 0
unfolding erase_window
erases_both window e here = rw e refl

pub erases_nothing : (window : ℕ) → window ≢ 1 → window ≢ 65534 → window ≢ 65535
    → (here : Here) → erase_window here window ≡ done here
unfolding erase_window
erases_nothing window a b c here = rw (ne_eqb window 1 a, ne_eqb window 65534 b, ne_eqb window 65535 c) refl

pub splits_none : (lines : ℕ) → lines ≡ 0 → (here : Here) → split_window here lines ≡ erase_upper here
unfolding split_window
splits_none lines e here = rw e refl

pub splits_some : (lines : ℕ) → lines ≢ 0 → (here : Here) → split_window here lines ≡ done here
unfolding split_window
splits_some lines not here = rw (ne_eqb lines 0 not) refl

-- A read

pub read_drops : (s : Recording Contents) (x y : List ℕ) (upper : Upper) (window : ℕ) → IsSound s.store
    → window ≡ 0 → y ≡ take upper.from x → Told (Ok tt) s x s y (show_in (Some upper) window)
read_drops s x y upper window sound e cut = record {
  told = (goes_on_still s sound, rw (eq-eqb window 0 e, cut) refl);
}

pub read_shows : {s t : Recording Contents} {x y : List ℕ} (r : Result (Unit {0}) End) (upper : Upper) (window : ℕ)
    → window ≢ 0 → Told r s x t y (show_text upper) → Told r s x t y (show_in (Some upper) window)
read_shows r upper window not w = told_by r (show_text upper) (show_in (Some upper) window)
    (rw (ne_eqb window 0 not) refl) w
