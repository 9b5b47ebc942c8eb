-- The picture of a turn, from its steps to its text.
use Rattle.std.proofs.Common.{◌≡◌, ◌∙◌, ◌-◌, ℕ, List, [], length, drop, ap, subst, sym, arith, Some}
use Rattle.std.proofs.Common.{Result, Ok, Err, slice_index}
use Rattle.std.proofs.lemmas.List.{drop_all, length-drop}
use Rattle.std.specs.Prelude.{OnOk}
use Rattle.journal.specs.Recording.{Recording}
use Rattle.zcore.specs.declared.next.Next.{Next}
use Rattle.zcore.specs.declared.place.Place.{Place}
use Rattle.zcore.specs.declared.standard_state.StandardState.{StandardState}
use Rattle.zcore.specs.State.{Pending, State, done, halt}
use Rattle.zcore.specs.Turn.{first_next, first_state}
use Rattle.zcore_standard.specs.Machine.{begins, begins_after}
use Rattle.zcore_standard.specs.Place.{Here}
use Rattle.zcore_versions.specs.Machine.{any_step}
use Rattle.zcore_versions.specs.Versions.{Story}
use Rattle.machine_frames.specs.Contents.{Contents, memory_of}
use Rattle.machine_frames.specs.Playing.{IsOpening}
use Rattle.machine_frames.specs.States.{state_of, pending_of, standard_state_of}
use Rattle.machine_frames.specs.Went.{Told, ToldEnd}
use Rattle.machine_frames.specs.declared.end.End.TheVariants as ends
use Rattle.machine_picture.specs.Picture.{Draws, Picture, after, after_step_to, before, before_step}
use Rattle.machine_picture.specs.Picture.{operation_at}
use Rattle.machine_standard_windows.specs.TurnState.{place}
use Rattle.machine_standard_windows.specs.declared.turn_state.TurnState.{TurnState}
use Rattle.machine_standard_steps.specs.Redrawing.{Pictures}
use Rattle.machine_standard.specs.Pictures.{AnswersDrawing, DrawsText, FollowsDrawing, OpensDrawing}
use Rattle.machine_standard.specs.Playing.{LeadsTo, any_waited}
use Rattle.machine_standard.proofs.Pictures.{ends_picture, leads_by}

-- a slow step
step_is : (story : Story) (here : Here) (s : State) (text : List ℕ) (p q : Picture)
    → q ≡ after story.version.number (operation_at story s.memory here.next.program_counter) here s text
    (before (operation_at story s.memory here.next.program_counter) here s.text p)
    → q ≡ after_step_to story here s text p
unfolding after_step_to before_step
step_is story here s text p q e = e

pub leads_step : (story : Story) (turn new : TurnState) (here next : Next) (s t : Recording Contents) (x y : List ℕ)
    (start : ℕ) (p q : Picture) → Told (Ok (place new next)) s (drop start x) t (drop start y) (any_step story (place turn here))
    → Pictures (Ok next) story.version.number (operation_at story (memory_of s.store) here.program_counter)
    (place turn here) (state_of s.store (drop start x)) (drop start y) p q
    → LeadsTo story (place turn here) (state_of s.store (drop start x)) p (place new next) (state_of t.store (drop start y)) q
leads_step story turn new here next s t x y start p q told is =
    leads_by story (place turn here) (place new next) (state_of s.store (drop start x)) (state_of t.store (drop start y))
    p q told.told.1 (step_is story (place turn here) (state_of s.store (drop start x)) (drop start y) p q is)

-- the last one
end_is : (story : Story) (here : Here) (s : State) (p q : Picture)
    → q ≡ before (operation_at story s.memory here.next.program_counter) here s.text p → q ≡ before_step story here s p
unfolding before_step
end_is story here s p q e = e

pub draws_end : (story : Story) (first : Here) (turn : TurnState) (here : Next) (end : Place) (s : State)
    (t u : Recording Contents) (x y : List ℕ) (start : ℕ) (p q r : Picture)
    → LeadsTo story first s p (place turn here) (state_of t.store (drop start x)) q
    → ToldEnd (ends.Stop end) t (drop start x) u (drop start y) (any_step story (place turn here))
    → Pictures (Err (ends.Stop end)) story.version.number (operation_at story (memory_of t.store) here.program_counter)
    (place turn here) (state_of t.store (drop start x)) (drop start y) q r
    → Draws story first s p r
draws_end story first turn here end s t u x y start p q r led told is =
    let ended = ends_picture story first (place turn here) end s (state_of t.store (drop start x))
    (state_of u.store (drop start y)) p q r led told.1
    (end_is story (place turn here) (state_of t.store (drop start x)) q r is) in
    record { count = ended.0; draws = ended.1 }

-- the same from where the turn begins, with the picture with which it begins
pub draws_from : (story : Story) (here first : Here) (s : State) (p q r : Picture) → here ≡ first → p ≡ q
    → Draws story here s p r → Draws story first s q r
draws_from story here first s p q r e is h =
    subst (λ x. Draws story first s x r) is (subst (λ x. Draws story x s p r) e h)

-- The text

pub drawn_as : {A E : Type 0} (result : Result A E) (story : Story) (first : Here) (s t : Contents) (begun drawing text : List ℕ)
    → s ≡ t → OnOk result (DrawsText story first (state_of s begun) drawing text)
    → OnOk result (DrawsText story first (state_of t begun) drawing text)
drawn_as result story first s t begun drawing text e h =
    subst (λ x. OnOk result (DrawsText story first (state_of x begun) drawing text)) e h

-- a turn that goes on after text that it has printed
pub drawn_from : {A E : Type 0} (result : Result A E) (story : Story) (dice : StandardState) (kept : List (List ℕ))
    (first : Next) (s : Contents) (start : ℕ) (was mid drawing text : List ℕ) → start ≡ length was
    → OnOk result (DrawsText story (begins_after (length mid - start) dice kept first) (state_of s (drop start mid)) drawing text)
    → OnOk result (DrawsText story (begins_after (length (drop (length was) mid)) dice kept first)
    (state_of s (drop (length was) mid)) drawing text)
drawn_from result story dice kept first s start was mid drawing text long h =
    subst (λ (n : ℕ). OnOk result (DrawsText story (begins_after (length (drop n mid)) dice kept first)
    (state_of s (drop n mid)) drawing text)) long
    (subst (λ (k : ℕ). OnOk result (DrawsText story (begins_after k dice kept first) (state_of s (drop start mid)) drawing text))
    (sym (length-drop start mid)) h)

-- the same where it has printed nothing before
pub drawn_first : {A E : Type 0} (result : Result A E) (story : Story) (dice : StandardState) (kept : List (List ℕ))
    (first : Next) (s : Contents) (start : ℕ) (was drawing text : List ℕ) → start ≡ length was
    → OnOk result (DrawsText story (begins_after (length was - start) dice kept first) (state_of s (drop start was)) drawing text)
    → OnOk result (DrawsText story (begins dice kept first) (state_of s []) drawing text)
drawn_first result story dice kept first s start was drawing text long h =
    subst (λ (l : List ℕ). OnOk result (DrawsText story (begins_after (length l) dice kept first) (state_of s l) drawing text))
    (drop_all (length was) was (omega arith))
    (drawn_from result story dice kept first s start was was drawing text long h)

-- the opening
pub opens_drawing : {A E : Type 0} (result : Result A E) (story : Story) (kept : List (List ℕ)) (s : Contents) (fuel : ℕ)
    (dice : StandardState) (first : Next) (memory drawing text : List ℕ) → dice ≡ story.loaded.dice → IsOpening s
    → memory ≡ memory_of s → first ≡ first_next memory fuel
    → OnOk result (DrawsText story (begins dice kept first) (state_of s []) drawing text)
    → OnOk result (OpensDrawing story kept s fuel drawing text)
opens_drawing (Ok x) story kept s fuel dice first memory drawing text d begin is e h =
    subst (λ b. DrawsText story (begins b kept (first_next (memory_of s) fuel)) (first_state (memory_of s)) drawing text) d
    (subst (λ n. DrawsText story (begins dice kept n) (first_state (memory_of s)) drawing text)
    (e ∙ ap (λ m. first_next m fuel) is)
    (subst (λ t. DrawsText story (begins dice kept first) t drawing text) begin.first h))
opens_drawing (Err x) story kept s fuel dice first memory drawing text d begin is e h = tt

-- what is given leads on
pub answers_drawing : {A E : Type 0} (result : Result A E) (story : Story) (line : List ℕ) (kept : List (List ℕ))
    (s m : Contents) (fuel : ℕ) (p : Pending) (dice : StandardState) (first : Next) (begun drawing text : List ℕ)
    → pending_of (slice_index s.cells) ≡ Some p → dice ≡ standard_state_of (slice_index s.cells)
    → any_waited story p line fuel (state_of s []) ≡ done first (state_of m begun)
    → OnOk result (DrawsText story (begins_after (length begun) dice kept first) (state_of m begun) drawing text)
    → OnOk result (AnswersDrawing story line kept s fuel drawing text)
answers_drawing (Ok x) story line kept s m fuel p dice first begun drawing text waits d e h = (
  p,
  waits,
  subst (λ o. FollowsDrawing (λ next u. DrawsText story
      (begins_after (length u.text) (standard_state_of (slice_index s.cells)) kept next) u) o drawing text) (sym e)
      (subst (λ b. DrawsText story (begins_after (length begun) b kept first) (state_of m begun) drawing text) d h),
)
answers_drawing (Err x) story line kept s m fuel p dice first begun drawing text waits d e h = tt

-- what is given ends the turn at once
pub stops_drawing : (story : Story) (line : List ℕ) (kept : List (List ℕ)) (s m : Contents) (fuel : ℕ) (p : Pending)
    (end : Place) (begun drawing text : List ℕ) → pending_of (slice_index s.cells) ≡ Some p
    → any_waited story p line fuel (state_of s []) ≡ halt end (state_of m begun) → text ≡ drawing
    → AnswersDrawing story line kept s fuel drawing text
stops_drawing story line kept s m fuel p end begun drawing text waits e none = (
  p,
  waits,
  subst (λ o. FollowsDrawing (λ next u. DrawsText story
      (begins_after (length u.text) (standard_state_of (slice_index s.cells)) kept next) u) o drawing text) (sym e) none,
)
