-- The opcodes of the upper window make the weight of a turn fall, and never wait.
use Rattle.std.proofs.Common.{◌≡◌, ℕ, ◌<◌, List, [], ◌∷◌, length, refl, ap, ◌∙◌, arith, Bool, true, false, cond}
use Rattle.std.proofs.Common.{Option, Some, None}
use Rattle.std.specs.Prelude.{◌==◌, ◌&&◌, ◌||◌}
use Rattle.zcore.specs.declared.next.Next.{Next}
use Rattle.zcore.specs.State.{State, Out, done}
use Rattle.zcore.proofs.KeepingReads.{Alike, Keeps, alike_same, alike_then, done_state, done_value, both}
use Rattle.zcore.proofs.KeepingReads.{keeps_done, keeps_then, tested}
use Rattle.zcore.proofs.FallsOfParts.{Falls, further, falls_alike}
use Rattle.zcore.proofs.WaitingTests.{Waits, waits_done, waits_limit, waits_then, waits_chosen, waits_either}
use Rattle.zcore_standard.specs.declared.streams.Stream.{Stream}
use Rattle.zcore_standard.specs.declared.windows.Upper.{Upper}
use Rattle.zcore_standard.specs.Place.{Here, past}
use Rattle.zcore_standard.specs.Windows.{drawn, redraw, put_cursor, cursor_to, open_upper, is_place, cursor_in}
use Rattle.zcore_standard.specs.Windows.{set_cursor}
use Rattle.zcore_standard.specs.Windows.{settled_in, settled, with_window, select_upper, set_window, erased_in}
use Rattle.zcore_standard.specs.Windows.{erase_upper, erase_window, split_window, with_upper, show_text, show_in}
use Rattle.zcore_standard.specs.Windows.{show_upper}

-- a part of a step: where it goes on, the weight falls
abbrev pub FallsFrom : Here → (State → Out Here) → Type 0
FallsFrom here f = (s t : State) (next : Here) → here.next.program_counter < length s.memory → f s ≡ done next t
    → Falls here.next s next.next t

-- a place after an instruction
abbrev pub IsPast : Here → ℕ → Here → Type 0
IsPast here after there = there.next ≡ record here.next { program_counter = after }

-- the turn goes on at a later address
pub moves : (here there : Here) (after : ℕ) (s u t : State) (next : Here) → Alike s u → IsPast here after there
    → here.next.program_counter < after → here.next.program_counter < length s.memory → done there u ≡ done next t
    → Falls here.next s next.next t
moves here there after s u t next alike is ahead inside h =
    let v : next ≡ there = done_value there next u t h in
    let n : next.next ≡ record here.next { program_counter = after } = ap (λ (x : Here). x.next) v ∙ is in
    let counter : next.next.program_counter ≡ after = ap (λ (x : Next). x.program_counter) n in
    further here.next next.next s t (alike_then s u t alike (alike_same u t (done_state there next u t h)))
    (ap (λ (x : Next). x.fuel) n) (omega (arith, counter, ahead)) inside

pub either_falls : (b : Bool) (here : Here) (f g : State → Out Here) → FallsFrom here f → FallsFrom here g
    → FallsFrom here (cond b f g)
either_falls true here f g v w = v
either_falls false here f g v w = w

-- the text alone changes
pub text_falls : (here there : Here) (after : ℕ) (text : State → List ℕ) → IsPast here after there
    → here.next.program_counter < after → FallsFrom here (λ s. done there (record s { text = text s }))
text_falls here there after text is ahead s t next inside h =
    moves here there after s _ t next (record { memory = refl; frames = refl }) is ahead inside h

pub done_falls : (here there : Here) (after : ℕ) → IsPast here after there → here.next.program_counter < after
    → FallsFrom here (done there)
done_falls here there after is ahead s t next inside h =
    moves here there after s s t next (alike_same s s refl) is ahead inside h

-- The cursor

keeps_redraw : (text : State → List ℕ) → Keeps (λ s. redraw (text s) s)
unfolding redraw
keeps_redraw text s t a h = tested _ tt a s t _ s _ (record { memory = refl; frames = refl }) h

keeps_put_cursor : (upper : Upper) (row column : ℕ) → Keeps (put_cursor upper row column)
unfolding put_cursor
keeps_put_cursor upper row column =
    keeps_then _ _ (keeps_redraw (λ s. drawn upper row column s.text))
    (λ _ s t a h. keeps_done (record upper { mark = length s.text; row = row }) s t a h)

cursor_to_falls : (here there : Here) (after : ℕ) (upper : Upper) (row column : ℕ) → IsPast here after there
    → here.next.program_counter < after → FallsFrom here (cursor_to there upper row column)
cursor_to_falls here there after upper row column is ahead s t next inside h =
    let p = both (put_cursor upper row column s) _ next t h in
    let alike = keeps_put_cursor upper row column s p.between p.value p.first in
    falls_alike here.next next.next s p.between t alike
    (moves here _ after p.between p.between t next (alike_same p.between p.between refl) is ahead
    (omega (arith, inside, alike.memory)) p.second)

cursor_in_falls : (here there : Here) (after : ℕ) (upper : Option Upper) (row column : ℕ) → IsPast here after there
    → here.next.program_counter < after → FallsFrom here (cursor_in upper there row column)
cursor_in_falls here there after None row column is ahead = done_falls here there after is ahead
cursor_in_falls here there after (Some upper) row column is ahead =
    cursor_to_falls here there after upper row column is ahead

pub set_cursor_falls : (here : Here) (after row column : ℕ) → here.next.program_counter < after
    → FallsFrom here (set_cursor (past here after) row column)
unfolding set_cursor
set_cursor_falls here after row column ahead =
    either_falls (is_place row && is_place column) here _ _
    (cursor_in_falls here (past here after) after (open_upper (past here after)) row column refl ahead)
    (done_falls here (past here after) after refl ahead)

-- The window

settled_in_falls : (here there : Here) (after : ℕ) (streams : List Stream) → IsPast here after there
    → here.next.program_counter < after → FallsFrom here (settled_in streams there)
settled_in_falls here there after [] is ahead =
    either_falls (there.standard_state.window == 0) here _ _ (text_falls here _ after _ is ahead)
    (λ s t next inside h. moves here _ after s s t next (alike_same s s refl) is ahead inside h)
settled_in_falls here there after (stream ∷ streams) is ahead = done_falls here there after is ahead

pub settled_falls : (here there : Here) (after : ℕ) → IsPast here after there → here.next.program_counter < after
    → FallsFrom here (settled there)
unfolding settled
settled_falls here there after is ahead = settled_in_falls here there after there.streams is ahead

select_falls : (here there : Here) (after : ℕ) (upper : Option Upper) → IsPast here after there
    → here.next.program_counter < after → FallsFrom here (select_upper upper there)
select_falls here there after None is ahead = settled_falls here there after is ahead
select_falls here there after (Some upper) is ahead = cursor_to_falls here there after upper 1 1 is ahead

pub set_window_falls : (here : Here) (after window : ℕ) → here.next.program_counter < after
    → FallsFrom here (set_window (past here after) window)
unfolding set_window
set_window_falls here after window ahead =
    either_falls (window == 0) here _ _ (settled_falls here (with_window (past here after) 0) after refl ahead)
    (select_falls here (with_window (past here after) 1) after (open_upper (past here after)) refl ahead)

erased_falls : (here there : Here) (after : ℕ) (upper : Option Upper) → IsPast here after there
    → here.next.program_counter < after → FallsFrom here (erased_in upper there)
erased_falls here there after None is ahead = done_falls here there after is ahead
erased_falls here there after (Some upper) is ahead = text_falls here _ after _ is ahead

erase_upper_falls : (here : Here) (after : ℕ) → here.next.program_counter < after
    → FallsFrom here (erase_upper (past here after))
unfolding erase_upper
erase_upper_falls here after ahead =
    erased_falls here (past here after) after (open_upper (past here after)) refl ahead

pub erase_window_falls : (here : Here) (after window : ℕ) → here.next.program_counter < after
    → FallsFrom here (erase_window (past here after) window)
unfolding erase_window
erase_window_falls here after window ahead =
    either_falls ((window == 1) || (window == 65534)) here _ _ (erase_upper_falls here after ahead)
    (either_falls (window == 65535) here _ _ (set_window_falls here after 0 ahead)
    (done_falls here (past here after) after refl ahead))

pub split_window_falls : (here : Here) (after lines : ℕ) → here.next.program_counter < after
    → FallsFrom here (split_window (past here after) lines)
unfolding split_window
split_window_falls here after lines ahead =
    either_falls (lines == 0) here _ _ (erase_upper_falls here after ahead)
    (done_falls here (past here after) after refl ahead)

-- Nothing waits

pub waits_redraw : (text : State → List ℕ) → Waits (λ s. redraw (text s) s)
unfolding redraw
waits_redraw text s t h = waits_either _ _ _ t (waits_done tt _ t) (waits_limit _ _ t) h

waits_put_cursor : (upper : Upper) (row column : ℕ) → Waits (put_cursor upper row column)
unfolding put_cursor
waits_put_cursor upper row column =
    waits_then _ _ (waits_redraw (λ s. drawn upper row column s.text)) (λ _ s t h. waits_done _ s t h)

waits_cursor_to : (here : Here) (upper : Upper) (row column : ℕ) → Waits (cursor_to here upper row column)
waits_cursor_to here upper row column =
    waits_then _ _ (waits_put_cursor upper row column) (λ moved. waits_done (record here { upper = Some moved }))

waits_cursor_in : (upper : Option Upper) (here : Here) (row column : ℕ) → Waits (cursor_in upper here row column)
waits_cursor_in None here row column = waits_done here
waits_cursor_in (Some upper) here row column = waits_cursor_to here upper row column

pub waits_set_cursor : (here : Here) (row column : ℕ) → Waits (set_cursor here row column)
unfolding set_cursor
waits_set_cursor here row column =
    waits_chosen (is_place row && is_place column) _ _ (waits_cursor_in (open_upper here) here row column)
    (waits_done here)

waits_settled_in : (streams : List Stream) (here : Here) → Waits (settled_in streams here)
waits_settled_in [] here =
    waits_chosen (here.standard_state.window == 0) _ _ (λ s t h. waits_done _ _ t h) (λ s t h. waits_done _ s t h)
waits_settled_in (stream ∷ streams) here = waits_done here

pub waits_settled : (here : Here) → Waits (settled here)
unfolding settled
waits_settled here = waits_settled_in here.streams here

waits_select : (upper : Option Upper) (here : Here) → Waits (select_upper upper here)
waits_select None here = waits_settled here
waits_select (Some upper) here = waits_cursor_to here upper 1 1

pub waits_set_window : (here : Here) (window : ℕ) → Waits (set_window here window)
unfolding set_window
waits_set_window here window =
    waits_chosen (window == 0) _ _ (waits_settled (with_window here 0))
    (waits_select (open_upper here) (with_window here 1))

waits_erased : (upper : Option Upper) (here : Here) → Waits (erased_in upper here)
waits_erased None here = waits_done here
waits_erased (Some upper) here = λ s t h. waits_done _ _ t h

waits_erase_upper : (here : Here) → Waits (erase_upper here)
unfolding erase_upper
waits_erase_upper here = waits_erased (open_upper here) here

pub waits_erase_window : (here : Here) (window : ℕ) → Waits (erase_window here window)
unfolding erase_window
waits_erase_window here window =
    waits_chosen ((window == 1) || (window == 65534)) _ _ (waits_erase_upper here)
    (waits_chosen (window == 65535) _ _ (waits_set_window here 0) (waits_done here))

pub waits_split_window : (here : Here) (lines : ℕ) → Waits (split_window here lines)
unfolding split_window
waits_split_window here lines = waits_chosen (lines == 0) _ _ (waits_erase_upper here) (waits_done here)

waits_show_text : (upper : Upper) → Waits (show_text upper)
unfolding show_text
waits_show_text upper = waits_redraw (λ s. with_upper upper s.text)

waits_show : (upper : Option Upper) (window : ℕ) → Waits (show_in upper window)
waits_show None window = waits_done tt
waits_show (Some upper) window =
    waits_chosen (window == 0) _ _ (λ s t h. waits_done tt _ t h) (waits_show_text upper)

pub waits_show_upper : (here : Here) → Waits (show_upper here)
unfolding show_upper
waits_show_upper here = waits_show here.upper here.standard_state.window
