-- The transcript of a turn, from what is typed or where it begins.
use Rattle.std.proofs.Common.{◌≡◌, ◌≢◌, ◌==◌, ◌∙◌, ◌-◌, ℕ, Bool, true, false, List, [], ◌∷◌, ◌++◌, length, drop}
use Rattle.std.proofs.Common.{ap, refl, subst, sym, arith, Some}
use Rattle.std.proofs.Common.{Result, Ok, Err, slice_index}
use Rattle.std.proofs.lemmas.Bool.{eq-eqb, ne_eqb}
use Rattle.std.proofs.lemmas.List.{drop_all, length-drop}
use Rattle.std.specs.Prelude.{◌&&◌, if◌then◌else◌, not, OnOk}
use Rattle.zcore.specs.declared.next.Next.{Next}
use Rattle.zcore.specs.declared.place.Place.{Place}
use Rattle.zcore.specs.declared.standard_state.StandardState.{StandardState}
use Rattle.zcore.specs.State.{Pending, done, halt}
use Rattle.zcore.specs.Turn.{first_next, first_state}
use Rattle.zcore_standard.specs.Loaded.{Loaded}
use Rattle.zcore_standard.specs.Machine.{begins, begins_after}
use Rattle.zcore_standard.specs.Place.{Here}
use Rattle.zcore_versions.specs.Versions.{Story}
use Rattle.machine_frames.specs.Contents.{Contents, memory_of}
use Rattle.machine_frames.specs.Playing.{IsOpening}
use Rattle.machine_frames.specs.States.{state_of, pending_of, standard_state_of}
use Rattle.machine_lines.proofs.Lines.{pending_parts}
use Rattle.machine_standard.specs.Playing.{any_waited}
use Rattle.machine_standard.specs.Script.{Scripts, is_on, typed}
use Rattle.machine_standard.specs.Scripts.{AnswersScript, FollowsScript, OpensScript, typed_into}

-- What is typed

nowhere : (on : Bool) (l : List ℕ) → (if on && false then l else []) ≡ []
nowhere true l = refl
nowhere false l = refl

-- nothing in the upper window, and nothing where no line is read
pub nothing_above : (loaded : Loaded) (pending : Pending) (line memory : List ℕ) (window : ℕ) → window ≢ 0
    → typed loaded pending line memory window ≡ []
nothing_above loaded pending line memory window above =
    ap (λ (b : Bool). if is_on loaded memory && (b && not (pending.text_buffer == 0)) then line ++ 10 ∷ [] else [])
    (ne_eqb window 0 above)
    ∙ nowhere (is_on loaded memory) (line ++ 10 ∷ [])

pub no_line : (loaded : Loaded) (pending : Pending) (line memory : List ℕ) (window : ℕ) → window ≡ 0
    → pending.text_buffer ≡ 0 → typed loaded pending line memory window ≡ []
no_line loaded pending line memory window lower key =
    ap (λ (b : Bool). if is_on loaded memory && (b && not (pending.text_buffer == 0)) then line ++ 10 ∷ [] else [])
    (eq-eqb window 0 lower)
    ∙ ap (λ (b : Bool). if is_on loaded memory && not b then line ++ 10 ∷ [] else []) (eq-eqb pending.text_buffer 0 key)
    ∙ nowhere (is_on loaded memory) (line ++ 10 ∷ [])

pub line_typed : (loaded : Loaded) (pending : Pending) (line memory : List ℕ) (window : ℕ) → is_on loaded memory ≡ true
    → window ≡ 0 → pending.text_buffer ≢ 0 → typed loaded pending line memory window ≡ line ++ 10 ∷ []
line_typed loaded pending line memory window on lower is_line =
    ap (λ (b : Bool). if b && ((window == 0) && not (pending.text_buffer == 0)) then line ++ 10 ∷ [] else []) on
    ∙ ap (λ (b : Bool). if b && not (pending.text_buffer == 0) then line ++ 10 ∷ [] else []) (eq-eqb window 0 lower)
    ∙ ap (λ (b : Bool). if not b then line ++ 10 ∷ [] else []) (ne_eqb pending.text_buffer 0 is_line)

-- which buffer a store tells
pub text_buffer_of : (f : ℕ → ℕ) (pending : Pending) → pending_of f ≡ Some pending → f 6 ≡ pending.text_buffer
text_buffer_of f pending waits = ap (λ (p : Pending). p.text_buffer) (pending_parts f pending waits)

-- The turn

pub scripted_as : {A E : Type 0} (result : Result A E) (story : Story) (first : Here) (s t : Contents)
    (begun before after : List ℕ) → s ≡ t → OnOk result (Scripts story first (state_of s begun) before after)
    → OnOk result (Scripts story first (state_of t begun) before after)
scripted_as result story first s t begun before after e h =
    subst (λ x. OnOk result (Scripts story first (state_of x begun) before after)) e h

-- a turn that goes on after text that it has printed
pub scripted_from : {A E : Type 0} (result : Result A E) (story : Story) (dice : StandardState) (kept : List (List ℕ))
    (first : Next) (s : Contents) (start : ℕ) (was mid before after : List ℕ) → start ≡ length was
    → OnOk result (Scripts story (begins_after (length mid - start) dice kept first) (state_of s (drop start mid)) before after)
    → OnOk result (Scripts story (begins_after (length (drop (length was) mid)) dice kept first)
    (state_of s (drop (length was) mid)) before after)
scripted_from result story dice kept first s start was mid before after long h =
    subst (λ (n : ℕ). OnOk result (Scripts story (begins_after (length (drop n mid)) dice kept first)
    (state_of s (drop n mid)) before after)) long
    (subst (λ (k : ℕ). OnOk result (Scripts story (begins_after k dice kept first) (state_of s (drop start mid)) before after))
    (sym (length-drop start mid)) h)

-- the same where it has printed nothing before
pub scripted_first : {A E : Type 0} (result : Result A E) (story : Story) (dice : StandardState) (kept : List (List ℕ))
    (first : Next) (s : Contents) (start : ℕ) (was before after : List ℕ) → start ≡ length was
    → OnOk result (Scripts story (begins_after (length was - start) dice kept first) (state_of s (drop start was)) before after)
    → OnOk result (Scripts story (begins dice kept first) (state_of s []) before after)
scripted_first result story dice kept first s start was before after long h =
    subst (λ (l : List ℕ). OnOk result (Scripts story (begins_after (length l) dice kept first) (state_of s l) before after))
    (drop_all (length was) was (omega arith))
    (scripted_from result story dice kept first s start was was before after long h)

-- the opening
pub opens_script : {A E : Type 0} (result : Result A E) (story : Story) (kept : List (List ℕ)) (s : Contents) (fuel : ℕ)
    (dice : StandardState) (first : Next) (memory before after : List ℕ) → dice ≡ story.loaded.dice → IsOpening s
    → memory ≡ memory_of s → first ≡ first_next memory fuel → before ≡ []
    → OnOk result (Scripts story (begins dice kept first) (state_of s []) before after)
    → OnOk result (OpensScript story kept s fuel after)
opens_script (Ok x) story kept s fuel dice first memory before after d begin is e none h =
    subst (λ (l : List ℕ). Scripts story (begins story.loaded.dice kept (first_next (memory_of s) fuel))
    (first_state (memory_of s)) l after) none
    (subst (λ b. Scripts story (begins b kept (first_next (memory_of s) fuel)) (first_state (memory_of s)) before after) d
    (subst (λ n. Scripts story (begins dice kept n) (first_state (memory_of s)) before after)
    (e ∙ ap (λ m. first_next m fuel) is)
    (subst (λ t. Scripts story (begins dice kept first) t before after) begin.first h)))
opens_script (Err x) story kept s fuel dice first memory before after d begin is e none h = tt

-- what is given leads on, after what was typed
pub answers_script : {A E : Type 0} (result : Result A E) (story : Story) (line : List ℕ) (kept : List (List ℕ))
    (s m : Contents) (fuel : ℕ) (p : Pending) (dice : StandardState) (first : Next) (begun before after : List ℕ)
    → pending_of (slice_index s.cells) ≡ Some p → dice ≡ standard_state_of (slice_index s.cells)
    → any_waited story p line fuel (state_of s []) ≡ done first (state_of m begun)
    → before ≡ typed_into story p line s
    → OnOk result (Scripts story (begins_after (length begun) dice kept first) (state_of m begun) before after)
    → OnOk result (AnswersScript story line kept s fuel after)
answers_script (Ok x) story line kept s m fuel p dice first begun before after waits d e is h = (
  p,
  waits,
  subst (λ o. FollowsScript (λ next u. Scripts story
      (begins_after (length u.text) (standard_state_of (slice_index s.cells)) kept next) u)
      (typed_into story p line s) o after) (sym e)
      (subst (λ (l : List ℕ). Scripts story
      (begins_after (length begun) (standard_state_of (slice_index s.cells)) kept first) (state_of m begun) l after) is
      (subst (λ b. Scripts story (begins_after (length begun) b kept first) (state_of m begun) before after) d h)),
)
answers_script (Err x) story line kept s m fuel p dice first begun before after waits d e is h = tt

-- what is given ends the turn at once
pub stops_script : (story : Story) (line : List ℕ) (kept : List (List ℕ)) (s m : Contents) (fuel : ℕ) (p : Pending)
    (end : Place) (begun script : List ℕ) → pending_of (slice_index s.cells) ≡ Some p
    → any_waited story p line fuel (state_of s []) ≡ halt end (state_of m begun) → script ≡ typed_into story p line s
    → AnswersScript story line kept s fuel script
stops_script story line kept s m fuel p end begun script waits e is = (
  p,
  waits,
  subst (λ o. FollowsScript (λ next u. Scripts story
      (begins_after (length u.text) (standard_state_of (slice_index s.cells)) kept next) u)
      (typed_into story p line s) o script) (sym e) is,
)
