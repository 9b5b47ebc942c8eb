-- Styles along the steps of a turn: steps that units do print nothing, and have no style.
use Rattle.std.proofs.Common.{◌≡◌, ◌∙◌, ℕ, ◌+◌, zero, suc, inl, inr, true, false, List, ◌++◌, length, take, replicate}
use Rattle.std.proofs.Common.{ap, append-nil, subst, sym, refl, arith, Bool, Option, Some, None, Ok, Err, drop, ◌-◌}
use Rattle.std.proofs.lemmas.List.{take_all}
use Rattle.journal.specs.Recording.{Recording}
use Rattle.zcore.specs.declared.next.Next.{Next}
use Rattle.zcore.specs.declared.place.Place.{Place}
use Rattle.zcore.specs.Execution.{step}
use Rattle.zcore.specs.State.{State, done, halt}
use Rattle.zcore.specs.Turn.{ReachesBy, after_step}
use Rattle.zcore_standard.specs.declared.operations.StandardOperation.{StandardOperation}
use Rattle.zcore_standard.specs.Operations.{further_at}
use Rattle.zcore_standard.specs.Place.{Here}
use Rattle.zcore_versions.proofs.Awaiting.{is_done, neither}
use Rattle.zcore_versions.proofs.Refusing.{step_refused}
use Rattle.zcore_standard_loading.specs.Loading.{is_played}
use Rattle.zcore_versions.specs.Machine.{any_step}
use Rattle.zcore_versions.specs.Operations.{older_at}
use Rattle.zcore_versions.specs.Versions.{Story, is_late}
use Rattle.machine_frames.specs.Contents.{Contents}
use Rattle.machine_frames.specs.States.{state_of}
use Rattle.machine_frames.specs.Went.{Told, ToldEnd}
use Rattle.machine_frames.specs.declared.end.End.TheVariants as ends
use Rattle.machine_arms.specs.Passed.{flown}
use Rattle.machine_arms.proofs.Flown.{flown_silent}
use Rattle.machine_picture.specs.Picture.{by_name, operation_at}
use Rattle.machine_standard_windows.specs.TurnState.{place}
use Rattle.machine_standard_windows.specs.declared.turn_state.TurnState.{TurnState}
use Rattle.machine_picture.specs.Styles.{IsStyled, Styles, after, after_last, after_step_to, as_long, printed, styles_by}
use Rattle.machine_standard.specs.Playing.{LeadsStyles}
use Rattle.machine_styling.specs.Restyling.{Restyles}
use Rattle.machine_standard.proofs.Elsewhere.{flown_early, flown_late_elsewhere}
use Rattle.machine_standard.proofs.Pictures.{further_not_done, halted, reads}

-- Steps that units do are by no operation with a name

nothing_further : (story : Story) (here there : Here) (next : Next) (s t : State) (o : Option StandardOperation)
    → step here.next s ≡ done next t → any_step story here s ≡ done there t
    → older_at story.version s.memory here.next.program_counter ≡ None
    → further_at s.memory here.next.program_counter ≡ o → o ≡ None
nothing_further story here there next s t None steps goes none found = refl
nothing_further story here there next s t (Some x) steps goes none found =
    elim (step_refused here.next s x found) [
      | inl refused ↦ halted _ next s t (sym refused ∙ steps)
      | inr read ↦ neither (is_done (any_step story here s))
          (ap is_done (reads story here s none (found ∙ ap (λ (y : StandardOperation). Some y) read.0))
          ∙ further_not_done story.loaded here _ s)
          (ap is_done goes)
    ]

nothing_elsewhere : (story : Story) (here there : Here) (next : Next) (s t : State)
    → step here.next s ≡ done next t → any_step story here s ≡ done there t
    → older_at story.version s.memory here.next.program_counter ≡ None
    → operation_at story s.memory here.next.program_counter ≡ None
nothing_elsewhere story here there next s t steps goes none =
    let further = further_at s.memory here.next.program_counter in
    ap (λ o. by_name o further) none ∙ nothing_further story here there next s t further steps goes none refl

nothing_by : (late : Bool) (story : Story) (here there : Here) (next : Next) (s t : State)
    → is_late story.version ≡ late → is_played story.version.number ≡ true
    → flown story.version here.next s ≡ done next t → any_step story here s ≡ done there t
    → operation_at story s.memory here.next.program_counter ≡ None
nothing_by true story here there next s t late played e goes =
    let x = flown_late_elsewhere story.version here.next next s t late e in
    nothing_elsewhere story here there next s t x.0 goes x.1
nothing_by false story here there next s t early played e goes =
    elim (flown_early story here next s t played early e) [
      | inl x ↦ nothing_elsewhere story here there next s t x.0 goes x.1
      | inr call ↦ ap (λ o. by_name o (further_at s.memory here.next.program_counter)) call.1.1
    ]

-- styles of a text that stays as long as it was
as_long_still : (style : ℕ) (text each : List ℕ) → length each ≡ length text → as_long (length text) style each ≡ each
as_long_still style text each e =
    let none : length text - length each ≡ 0 = omega (arith, e) in
    ap (λ n. take (length text) each ++ replicate n style) none ∙ append-nil (take (length text) each)
    ∙ take_all (length text) each (omega (arith, e))

still_by : (version : ℕ) (o : Option StandardOperation) (value : ℕ) (here next : Here) (s : State) (text : List ℕ)
    (p : Styles) → o ≡ None → length p.each ≡ length text → p ≡ after version o value here s next text p
still_by version None value here next s text p e long =
    sym (ap (λ (l : List ℕ). record p { each = l }) (as_long_still (printed version s.memory p.style) text p.each long))
still_by version (Some operation) value here next s text p e long = absurd (cc)

still_step : (story : Story) (here next : Here) (s : State) (text : List ℕ) (p : Styles)
    → operation_at story s.memory here.next.program_counter ≡ None → length p.each ≡ length text
    → p ≡ after_step_to story here s next text p
unfolding after_step_to
still_step story here next s text p e long =
    still_by story.version.number (operation_at story s.memory here.next.program_counter) _ here next s text p e long

-- Whatever the styles are from here on

pub styles_still : (story : Story) (here : Here) (s : State) (p : Styles) → LeadsStyles story here s p here s p
styles_still story here s p = record {
  count = 0;
  leads = λ rest.
      let n : 0 + rest ≡ rest = omega arith in
      ap (λ k. styles_by story k here s p) n;
}

pub styles_on : {story : Story} {a b c : Here} {s t u : State} {p q r : Styles} → LeadsStyles story a s p b t q
    → LeadsStyles story b t q c u r → LeadsStyles story a s p c u r
styles_on {story} {a} {b} {c} {s} {t} {u} {p} {q} {r} x y = record {
  count = x.count + y.count;
  leads = λ rest.
      let e : x.count + y.count + rest ≡ x.count + (y.count + rest) = omega arith in
      ap (λ n. styles_by story n a s p) e ∙ x.leads (y.count + rest) ∙ y.leads rest;
}

-- one step
goes_by : (story : Story) (here next : Here) (s t : State) (p q : Styles) (rest : ℕ)
    → any_step story here s ≡ done next t → q ≡ after_step_to story here s next t.text p
    → styles_by story (suc rest) here s p ≡ styles_by story rest next t q
unfolding styles_by
goes_by story here next s t p q rest e is =
    ap (λ o. after_step o (λ next t. styles_by story rest next t (after_step_to story here s next t.text p))
    (λ place t. Some (after_last story here s place t.text p))) e
    ∙ ap (styles_by story rest next t) (sym is)

pub styles_step : (story : Story) (here next : Here) (s t : State) (p q : Styles) → any_step story here s ≡ done next t
    → q ≡ after_step_to story here s next t.text p → LeadsStyles story here s p next t q
styles_step story here next s t p q e is = record {
  count = 1;
  leads = λ rest.
      let n : 1 + rest ≡ suc rest = omega arith in
      ap (λ k. styles_by story k here s p) n ∙ goes_by story here next s t p q rest e is;
}

-- the last step
ends_by : (story : Story) (here : Here) (end : Place) (s t : State) (p q : Styles) (rest : ℕ)
    → any_step story here s ≡ halt end t → q ≡ after_last story here s end t.text p
    → styles_by story (suc rest) here s p ≡ Some q
unfolding styles_by
ends_by story here end s t p q rest e is =
    ap (λ o. after_step o (λ next t. styles_by story rest next t (after_step_to story here s next t.text p))
    (λ place t. Some (after_last story here s place t.text p))) e
    ∙ ap (λ (x : Styles). Some x) (sym is)

styles_end : (story : Story) (first here : Here) (end : Place) (s t u : State) (p q r : Styles)
    → LeadsStyles story first s p here t q → any_step story here t ≡ halt end u
    → r ≡ after_last story here t end u.text q → IsStyled story first s p r
styles_end story first here end s t u p q r leads e is =
    record { count = leads.count + 1; styled = leads.leads 1 ∙ ends_by story here end t u q r 0 e is }

-- Steps that units do have no style.
pub styles_flown : (story : Story) (turn : TurnState) (count : ℕ) (first here : Next) (s t : State) (p : Styles)
    → is_played story.version.number ≡ true
    → ((at next : Next) (u v : State) → flown story.version at u ≡ done next v
    → any_step story (place turn at) u ≡ done (place turn next) v)
    → ReachesBy (flown story.version) count first s here t → length p.each ≡ length t.text
    → LeadsStyles story (place turn first) s p (place turn here) t p
styles_flown story turn zero first here s t p played steps h long =
    subst (λ n. LeadsStyles story (place turn first) s p (place turn n) t p) (sym h.0)
    (subst (λ u. LeadsStyles story (place turn first) s p (place turn first) u p) (sym h.1)
    (styles_still story (place turn first) s p))
styles_flown story turn (suc count) first here s t p played steps h long =
    let mid : Next = h.0 in
    let between : State = h.1 in
    let goes = steps mid here between t h.3 in
    let same = (flown_silent story.version mid here between t h.3).1 in
    styles_on (styles_flown story turn count first mid s between p played steps h.2 (long ∙ same))
    (styles_step story (place turn mid) (place turn here) between t p p goes
    (still_step story (place turn mid) (place turn here) between t.text p
    (nothing_by (is_late story.version) story (place turn mid) (place turn here) here between t refl played h.3 goes) long))

-- A slow step

pub styles_slow : (story : Story) (turn new : TurnState) (here next : Next) (s t : Recording Contents) (x y : List ℕ)
    (start : ℕ) (p q : Styles)
    → Told (Ok (place new next)) s (drop start x) t (drop start y) (any_step story (place turn here))
    → Restyles (Ok next) story (place turn here) (state_of s.store (drop start x)) new (drop start y) p q
    → LeadsStyles story (place turn here) (state_of s.store (drop start x)) p (place new next)
    (state_of t.store (drop start y)) q
styles_slow story turn new here next s t x y start p q told is =
    styles_step story (place turn here) (place new next) (state_of s.store (drop start x)) (state_of t.store (drop start y))
    p q told.told.1 is

pub styles_ends : (story : Story) (first : Here) (turn new : TurnState) (here : Next) (end : Place) (s : State)
    (t u : Recording Contents) (x y : List ℕ) (start : ℕ) (p q r : Styles)
    → LeadsStyles story first s p (place turn here) (state_of t.store (drop start x)) q
    → ToldEnd (ends.Stop end) t (drop start x) u (drop start y) (any_step story (place turn here))
    → Restyles (Err (ends.Stop end)) story (place turn here) (state_of t.store (drop start x)) new (drop start y) q r
    → IsStyled story first s p r
styles_ends story first turn new here end s t u x y start p q r led told is =
    styles_end story first (place turn here) end s (state_of t.store (drop start x)) (state_of u.store (drop start y))
    p q r led told.1 is
