-- The turn of a line that is given to a store which waits.
use Rattle.std.proofs.Common.{◌≡◌, ℕ, List, [], length, drop, refl, ap, sym, ◌∙◌, subst, Some, None, Result, Ok, Err, slice_index}
use Rattle.std.proofs.Common.{Bool, true, false, cond}
use Rattle.std.specs.Prelude.{if◌then◌else◌, IfOk}
use Rattle.journal.specs.Recording.{Recording}
use Rattle.zcore.specs.declared.next.Next.{Next}
use Rattle.zcore.specs.declared.place.Place.{Place}
use Rattle.zcore.specs.declared.place.Place.TheVariants as places
use Rattle.zcore.specs.State.{Pending, State, Out, done, halt, ◌>>=◌}
use Rattle.zcore.specs.Parts.{store_result, goes_on}
use Rattle.zcore.specs.Turn.{Whole, TurnsBy}
use Rattle.zcore.proofs.WaitingTests.{WaitsWell, waits_bound}
use Rattle.zcore.proofs.WaitingParts.{waits_store_result, waits_goes_on}
use Rattle.zcore_standard.specs.Loaded.{Loaded}
use Rattle.zcore_standard.specs.Machine.{standard_ended, begins_after}
use Rattle.zcore_standard.specs.Saving.{asked_by, asks_for_name, file_given, purpose_of, save_form_of}
use Rattle.zcore_standard.specs.declared.save_form.Purpose.{Purpose}
use Rattle.zcore_standard.specs.declared.save_form.SaveForm.{SaveForm}
use Rattle.zcore_standard.specs.Reading.{result_given, standard_given}
use Rattle.zcore_versions.proofs.Awaiting.{waits_right}
use Rattle.zcore_versions.proofs.GivenFiles.{file_given_waits}
use Rattle.machine_frames.specs.Contents.{Contents}
use Rattle.machine_frames.specs.Playing.{FollowsBy}
use Rattle.machine_frames.specs.States.{state_of, pending_of, program_counter_of, standard_state_of}
use Rattle.machine_versions_words.specs.Taking.{CanBeGivenBy}
use Rattle.zcore_versions.specs.Machine.{any}
use Rattle.zcore_versions.specs.Reading.{older_given, any_given}
use Rattle.zcore_versions.specs.Versions.{Story, is_old}
use Rattle.zcore_versions.proofs.Waiting.{from_right}
use Rattle.machine_standard.specs.Playing.{AnswersStandard, any_waited}
use Rattle.machine_frames.specs.Went.{Told}
use Rattle.machine_frames.specs.declared.end.End.{End}
use Rattle.machine_frames.proofs.Steps.{told_as}
use Rattle.machine_standard_saves.proofs.Answering.{at_the_end}
use Rattle.machine_standard.proofs.Whole.{right_after}

-- what is given leads on
pub answers_on : {E : Type 0} (story : Story) (result : Result Place E) (line : List ℕ) (kept_states : List (List ℕ))
    (s m : Contents) (fuel : ℕ) (p : Pending) (first : Next) (text : List ℕ) (whole : Place → Whole)
    → pending_of (slice_index s.cells) ≡ Some p
    → any_waited story p line fuel (state_of s []) ≡ done first (state_of m text)
    → IfOk result (λ place. TurnsBy (any story)
    (begins_after (length text) (standard_state_of (slice_index s.cells)) kept_states first) (state_of m text) (whole place))
    → IfOk result (λ place. AnswersStandard story line kept_states s fuel (whole place))
answers_on story (Ok place) line kept_states s m fuel p first text whole waits e turn =
    let dice = standard_state_of (slice_index s.cells) in
    let waited : Next = record { program_counter = program_counter_of (slice_index s.cells); fuel = fuel } in (
      p,
      waits,
      subst
          (λ o. FollowsBy (λ next u w. TurnsBy (any story) (begins_after (length u.text) dice kept_states next) u w) o
          (λ q u. standard_ended (begins_after (length u.text) dice kept_states waited) q u) (whole place)) (sym e) turn,
    )
answers_on story (Err x) line kept_states s m fuel p first text whole waits e turn = tt

-- what is given ends the turn at once
pub answers_stop : (story : Story) (line : List ℕ) (kept_states : List (List ℕ)) (s m : Contents) (fuel counter : ℕ)
    (p : Pending) (place : Place) (text : List ℕ) (whole : Whole) → pending_of (slice_index s.cells) ≡ Some p
    → any_waited story p line fuel (state_of s []) ≡ halt place (state_of m text)
    → counter ≡ program_counter_of (slice_index s.cells)
    → whole ≡ standard_ended (begins_after (length text) (standard_state_of (slice_index s.cells)) kept_states
    (record { program_counter = counter; fuel = fuel })) place (state_of m text)
    → AnswersStandard story line kept_states s fuel whole
answers_stop story line kept_states s m fuel counter p place text whole waits e is h =
    let dice = standard_state_of (slice_index s.cells) in
    let waited : Next = record { program_counter = program_counter_of (slice_index s.cells); fuel = fuel } in
    let g : whole ≡ standard_ended (begins_after (length text) dice kept_states waited) place (state_of m text) = h
    ∙ ap (λ n. standard_ended (begins_after (length text) dice kept_states (record { program_counter = n; fuel = fuel })) place (state_of m text))
    is in (
      p,
      waits,
      subst
          (λ o. FollowsBy (λ next u w. TurnsBy (any story) (begins_after (length u.text) dice kept_states next) u w) o
          (λ q u. standard_ended (begins_after (length u.text) dice kept_states waited) q u) whole) (sym e) g,
    )

-- For what a story waits

not_named : (b : Bool) (purpose : Purpose) → (if b then Some purpose else None) ≡ None → b ≡ false
not_named true purpose e = absurd (cc)
not_named false purpose e = refl

named : (b : Bool) (purpose asked : Purpose) → (if b then Some purpose else None) ≡ Some asked → b ≡ true
named true purpose asked e = refl
named false purpose asked e = absurd (cc)

-- a line or a key, by which nothing is printed
pub line_taken : {s t : Recording Contents} (r : Result Next End) (story : Story) (p : Pending) (given text : List ℕ)
    (fuel : ℕ) → asked_by (Some p) ≡ None → Told r s [] t [] (any_given story p given fuel)
    → Told r s (drop (length text) text) t (drop (length text) text) (any_waited story p given fuel)
line_taken {s} {t} r story p given text fuel none w =
    let f : State → Out Next = any_waited story p given fuel in
    subst (λ (l : List ℕ). Told r s l t l f) (sym (at_the_end text))
    (told_as r f (ap (λ (b : Bool). (if b then file_given story.loaded (save_form_of story.version.number) p given fuel
    else any_given story p given fuel) (state_of s.store [])) (not_named (asks_for_name p) (purpose_of p) none)) w)

-- what became of a file
pub file_taken : {s t : Recording Contents} {x y : List ℕ} (r : Result Next End) (story : Story) (form : SaveForm)
    (p : Pending) (asked : Purpose) (given : List ℕ) (fuel : ℕ) → asked_by (Some p) ≡ Some asked
    → form ≡ save_form_of story.version.number → Told r s x t y (file_given story.loaded form p given fuel)
    → Told r s x t y (any_waited story p given fuel)
file_taken {s} {t} {x} {y} r story form p asked given fuel some is w =
    let v : Told r s x t y (file_given story.loaded (save_form_of story.version.number) p given fuel) =
    subst (λ (f : SaveForm). Told r s x t y (file_given story.loaded f p given fuel)) is w in
    told_as r (any_waited story p given fuel)
    (ap (λ (b : Bool). (if b then file_given story.loaded (save_form_of story.version.number) p given fuel
    else any_given story p given fuel) (state_of s.store x)) (named (asks_for_name p) (purpose_of p) asked some)) v

-- the same where the turn has printed nothing yet
pub at_start : {A : Type 0} (f : State → Out A) (s : Contents) (text : List ℕ) (o : Out A)
    → f (state_of s (drop (length text) text)) ≡ o → f (state_of s []) ≡ o
at_start f s text o e = subst (λ (l : List ℕ). f (state_of s l) ≡ o) (at_the_end text) e

-- it would wait only for what can be given

either_given : (b : Bool) (f g : Pending → List ℕ → ℕ → State → Out Next) (p : Pending) (line : List ℕ) (fuel : ℕ)
    (s t : State) → (f p line fuel s ≡ halt places.Waiting t → WaitsWell t)
    → (g p line fuel s ≡ halt places.Waiting t → WaitsWell t)
    → cond b f g p line fuel s ≡ halt places.Waiting t → WaitsWell t
either_given true f g p line fuel s t v w h = v h
either_given false f g p line fuel s t v w h = w h

either_done : (b : Bool) (f g : State → Out Next) (s t : State) → (f s ≡ halt places.Waiting t → WaitsWell t)
    → (g s ≡ halt places.Waiting t → WaitsWell t) → cond b f g s ≡ halt places.Waiting t → WaitsWell t
either_done true f g s t v w h = v h
either_done false f g s t v w h = w h

stores_well : (p : Pending) (word fuel : ℕ) (s t : State)
    → (store_result p.result word >>= λ _. goes_on p.return_address fuel) s ≡ halt places.Waiting t → WaitsWell t
stores_well p word fuel s t h =
    waits_bound (store_result p.result word s) _ t (λ u f. waits_store_result p.result word s u f)
    (λ _ u _ f. waits_goes_on p.return_address fuel u t f) h

older_well : (story : Story) (p : Pending) (line : List ℕ) (fuel : ℕ) (s t : State)
    → older_given story p line fuel s ≡ halt places.Waiting t → WaitsWell t
unfolding older_given
older_well story p line fuel s t h =
    stores_well p (result_given story.loaded.characters p.text_buffer line) fuel _ t h

late_well : (loaded : Loaded) (p : Pending) (line : List ℕ) (fuel : ℕ) (s t : State)
    → standard_given loaded p line fuel s ≡ halt places.Waiting t → WaitsWell t
unfolding standard_given
late_well loaded p line fuel s t h = stores_well p (result_given loaded.characters p.text_buffer line) fuel _ t h

-- and never waits after a name was asked for
name_well : (story : Story) (form : SaveForm) (p : Pending) (given : List ℕ) (fuel : ℕ) (s t : State)
    → file_given story.loaded form p given fuel s ≡ halt places.Waiting t → WaitsWell t
name_well story form p given fuel s t h = file_given_waits story.loaded form p given fuel s t h

waited_well : (story : Story) (p : Pending) (given : List ℕ) (fuel : ℕ) (s t : State)
    → any_waited story p given fuel s ≡ halt places.Waiting t → WaitsWell t
waited_well story p given fuel s t h =
    either_done (asks_for_name p) (file_given story.loaded (save_form_of story.version.number) p given fuel)
    (any_given story p given fuel) s t
    (name_well story (save_form_of story.version.number) p given fuel s t)
    (either_given (is_old story.version) (older_given story) (standard_given story.loaded) p given fuel s t
    (older_well story p given fuel s t) (late_well story.loaded p given fuel s t)) h

pub given_waits : (story : Story) (p : Pending) (line text : List ℕ) (fuel : ℕ) (s : State) (m n : Contents) (place : Place)
    → any_waited story p line fuel s ≡ halt place (state_of m text) → ((l : List ℕ) → state_of n l ≡ state_of m l)
    → place ≡ places.Waiting → CanBeGivenBy story n
given_waits story p line text fuel s m n place e same w =
    right_after story m n text
    (from_right story (state_of m text)
    (waits_right (state_of m text)
    (waited_well story p line fuel s (state_of m text) (e ∙ ap (λ q. halt q (state_of m text)) w)))) same
