-- The styles of a turn, from where it begins.
use Rattle.std.proofs.Common.{◌≡◌, ◌∙◌, ◌-◌, ℕ, Bool, List, [], length, drop, ap, subst, sym, arith, Some, Result, Ok, Err}
use Rattle.std.proofs.Common.{replicate, slice_index, take, false, true≢false}
use Rattle.std.proofs.lemmas.List.{drop_all, length-append, length-drop, length-replicate, length-take, take_all}
use Rattle.std.specs.Prelude.{IfOk, IsTrue, OnOk}
use Rattle.zcore.specs.declared.next.Next.{Next}
use Rattle.zcore.specs.declared.place.Place.{Place}
use Rattle.zcore.specs.declared.standard_state.StandardState.{StandardState}
use Rattle.zcore.specs.State.{Pending, State, done, halt}
use Rattle.zcore.specs.Turn.{first_next, first_state}
use Rattle.zcore_standard.specs.Machine.{begins, begins_after}
use Rattle.zcore_standard.specs.Place.{Here}
use Rattle.zcore_versions.specs.Versions.{Story}
use Rattle.machine_frames.specs.Contents.{Contents, memory_of}
use Rattle.machine_frames.specs.Playing.{IsOpening}
use Rattle.machine_frames.specs.States.{state_of, pending_of, standard_state_of}
use Rattle.machine_frames.specs.declared.end.End.{End}
use Rattle.machine_standard_windows.specs.declared.turn_state.TurnState.{TurnState}
use Rattle.machine_picture.specs.Styles.{IsStyled, Styles, after_step_to, as_long, begun}
use Rattle.machine_styling.specs.Restyling.{Restyles}
use Rattle.machine_standard.specs.Playing.{any_waited}
use Rattle.machine_standard.specs.Styled.{AnswersStyles, FollowsStyles, OpensStyles, StylesFrom}

-- the turn's text, as it is lent
pub lent : (start : ℕ) (text whole : List ℕ) → whole ≡ text
    → take (length whole - start) (drop start whole) ≡ drop start text
lent start text whole same =
    take_all (length whole - start) (drop start whole) (omega (arith, length-drop start whole)) ∙ ap (drop start) same

-- what follows where styles are asked for, and no memory was refused
pub asked : {A E P Q : Type 0} (result : Result A E) (b : Bool) → (P → Q) → OnOk result (IsTrue b → P)
    → OnOk result (IsTrue b → Q)
asked (Ok x) b f h = λ is. f (h is)
asked (Err x) b f h = tt

-- nothing is said of styles that are not asked for
pub unasked : {A E : Type 0} (result : Result A E) (b : Bool) (P : Type 0) → b ≡ false → OnOk result (IsTrue b → P)
unasked (Ok x) b P e = λ is. absurd (true≢false (sym is ∙ e))
unasked (Err x) b P e = tt

pub now_begun : {A E P : Type 0} (result : Result A E) (b : Bool) → P → OnOk result (IsTrue b → P)
now_begun (Ok x) b h = λ is. h
now_begun (Err x) b h = tt

pub begun_as : (style n : ℕ) (text : List ℕ) → n ≡ length text → begun style n ≡ begun style (length text)
begun_as style n text e = ap (begun style) e

-- the styles with which a turn begins are as many as bytes that the player has printed
pub begun_long : (style n start : ℕ) (text : List ℕ) (p : Styles) → p ≡ begun style n → n ≡ length text - start
    → length p.each ≡ length (drop start text)
begun_long style n start text p is e =
    let all : length p.each ≡ length (begun style n).each = ap (λ (q : Styles). length q.each) is in
    omega (arith, all, length-replicate {A = ℕ} n 0, e, length-drop start text)

pub from_begun : {E : Type 0} (result : Result (Next × Place) E) (b : Bool) (story : Story) (here : Here) (s : State)
    (style n : ℕ) (p last : Styles) → p ≡ begun style n → n ≡ length s.text
    → OnOk result (IsStyled story here s p last) → OnOk result (IsTrue b → StylesFrom story here s style last)
from_begun (Ok x) b story here s style n p last is e h =
    λ wanted. subst (λ (q : Styles). IsStyled story here s q last) (is ∙ ap (begun style) e) h
from_begun (Err x) b story here s style n p last is e h = tt

-- styles of a text that is so long
as_long_all : (count style : ℕ) (each : List ℕ) → length (as_long count style each) ≡ count
as_long_all count style each =
    omega (
      arith,
      length-append (take count each) (replicate (count - length each) style),
      length-take count each,
      length-replicate {A = ℕ} (count - length each) style,
    )

pub restyled_long : (result : Result Next End) (story : Story) (here : Here) (s : State) (turn : TurnState) (text : List ℕ)
    (p q : Styles) → Restyles result story here s turn text p q → IfOk result (λ next. length q.each ≡ length text)
unfolding after_step_to
restyled_long (Ok next) story here s turn text p q e =
    ap (λ (x : Styles). length x.each) e ∙ as_long_all (length text) _ _
restyled_long (Err end) story here s turn text p q e = tt

pub styled_as : (story : Story) (first : Here) (s t : Contents) (text : List ℕ) (style : ℕ) (last : Styles) → s ≡ t
    → StylesFrom story first (state_of s text) style last → StylesFrom story first (state_of t text) style last
styled_as story first s t text style last e h = subst (λ x. StylesFrom story first (state_of x text) style last) e h

-- a turn that goes on after text that it has printed
pub styled_from : (story : Story) (dice : StandardState) (kept : List (List ℕ)) (first : Next) (s : Contents) (start : ℕ)
    (was mid : List ℕ) (style : ℕ) (last : Styles) → start ≡ length was
    → StylesFrom story (begins_after (length mid - start) dice kept first) (state_of s (drop start mid)) style last
    → StylesFrom story (begins_after (length (drop (length was) mid)) dice kept first)
    (state_of s (drop (length was) mid)) style last
styled_from story dice kept first s start was mid style last long h =
    subst (λ (n : ℕ). StylesFrom story (begins_after (length (drop n mid)) dice kept first) (state_of s (drop n mid)) style last)
    long
    (subst (λ (k : ℕ). StylesFrom story (begins_after k dice kept first) (state_of s (drop start mid)) style last)
    (sym (length-drop start mid)) h)

-- the same where it has printed nothing before
pub styled_first : (story : Story) (dice : StandardState) (kept : List (List ℕ)) (first : Next) (s : Contents) (start : ℕ)
    (was : List ℕ) (style : ℕ) (last : Styles) → start ≡ length was
    → StylesFrom story (begins_after (length was - start) dice kept first) (state_of s (drop start was)) style last
    → StylesFrom story (begins dice kept first) (state_of s []) style last
styled_first story dice kept first s start was style last long h =
    subst (λ (l : List ℕ). StylesFrom story (begins_after (length l) dice kept first) (state_of s l) style last)
    (drop_all (length was) was (omega arith)) (styled_from story dice kept first s start was was style last long h)

-- the opening
pub opens_styles : (story : Story) (kept : List (List ℕ)) (s : Contents) (fuel : ℕ) (dice : StandardState) (first : Next)
    (memory : List ℕ) (style : ℕ) (last : Styles) → dice ≡ story.loaded.dice → IsOpening s → memory ≡ memory_of s
    → first ≡ first_next memory fuel → StylesFrom story (begins dice kept first) (state_of s []) style last
    → OpensStyles story kept s fuel style last
opens_styles story kept s fuel dice first memory style last d begin is e h =
    subst (λ b. StylesFrom story (begins b kept (first_next (memory_of s) fuel)) (first_state (memory_of s)) style last) d
    (subst (λ n. StylesFrom story (begins dice kept n) (first_state (memory_of s)) style last)
    (e ∙ ap (λ m. first_next m fuel) is)
    (subst (λ t. StylesFrom story (begins dice kept first) t style last) begin.first h))

-- what is given leads on
pub answers_styles : (story : Story) (line : List ℕ) (kept : List (List ℕ)) (s m : Contents) (fuel : ℕ) (p : Pending)
    (dice : StandardState) (first : Next) (text : List ℕ) (style : ℕ) (last : Styles)
    → pending_of (slice_index s.cells) ≡ Some p → dice ≡ standard_state_of (slice_index s.cells)
    → any_waited story p line fuel (state_of s []) ≡ done first (state_of m text)
    → StylesFrom story (begins_after (length text) dice kept first) (state_of m text) style last
    → AnswersStyles story line kept s fuel style last
answers_styles story line kept s m fuel p dice first text style last waits d e h = (
  p,
  waits,
  subst (λ o. FollowsStyles (λ next u. StylesFrom story
      (begins_after (length u.text) (standard_state_of (slice_index s.cells)) kept next) u) o style last) (sym e)
      (subst (λ b. StylesFrom story (begins_after (length text) b kept first) (state_of m text) style last) d h),
)

-- what is given ends the turn at once
pub stops_styles : (story : Story) (line : List ℕ) (kept : List (List ℕ)) (s m : Contents) (fuel : ℕ) (p : Pending)
    (end : Place) (text : List ℕ) (style : ℕ) (last : Styles) → pending_of (slice_index s.cells) ≡ Some p
    → any_waited story p line fuel (state_of s []) ≡ halt end (state_of m text) → last ≡ begun style (length text)
    → AnswersStyles story line kept s fuel style last
stops_styles story line kept s m fuel p end text style last waits e is = (
  p,
  waits,
  subst (λ o. FollowsStyles (λ next u. StylesFrom story
      (begins_after (length u.text) (standard_state_of (slice_index s.cells)) kept next) u) o style last) (sym e) is,
)
