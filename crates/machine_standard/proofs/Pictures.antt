-- The picture of the upper window along the steps of a turn: steps that units do draw nothing.
use Rattle.std.proofs.Common.{◌≡◌, ◌∙◌, ℕ, ◌+◌, zero, suc, inl, inr, Bool, true, false, List, refl}
use Rattle.std.proofs.Common.{ap, subst, sym, arith, Option, Some, None, Result, Ok, Err}
use Rattle.std.specs.Prelude.{◌||◌, if◌then◌else◌, not}
use Rattle.zcore.specs.declared.instruction.Operation.{Operation}
use Rattle.zcore.specs.declared.next.Next.{Next}
use Rattle.zcore.specs.declared.place.Place.{Place}
use Rattle.zcore.specs.declared.place.Fault.{Fault}
use Rattle.zcore.specs.Execution.{step}
use Rattle.zcore.specs.Parts.{operand_values, test_result}
use Rattle.zcore.specs.State.{State, done, halt}
use Rattle.zcore.specs.Turn.{ReachesBy, after_step}
use Rattle.zcore_standard.specs.declared.operations.StandardOperation.{StandardOperation}
use Rattle.zcore_standard.specs.declared.operations.StandardOperation.TheVariants.{Read}
use Rattle.zcore_standard.specs.Instruction.{Instruction, decode_row}
use Rattle.zcore_standard.specs.Loaded.{Loaded}
use Rattle.zcore_standard.specs.Machine as standard
use Rattle.zcore_standard.specs.Machine.{standard_step}
use Rattle.zcore_standard.specs.Operations.{further_at, row_of}
use Rattle.zcore_standard.specs.Performing.{execute_further, perform_further}
use Rattle.zcore_standard.specs.Place.{Here}
use Rattle.zcore_standard.specs.Reading.{read_line, test_room, test_slots_or_none, wait_for_line}
use Rattle.zcore_standard.specs.Streams.{begin_read}
use Rattle.zcore_versions.proofs.Awaiting.{is_done, neither, not_done, wait_not_done, within_not_done}
use Rattle.zcore_versions.proofs.Refusing.{step_refused}
use Rattle.zcore_standard_loading.specs.Loading.{is_played}
use Rattle.zcore_versions.specs.declared.operations.VersionOperation.TheVariants.{Known}
use Rattle.zcore_versions.specs.Machine.{any_step, chosen}
use Rattle.zcore_versions.specs.Operations.{older_at}
use Rattle.zcore_versions.specs.Versions.{Story, is_late}
use Rattle.machine_arms.specs.Passed.{flown}
use Rattle.machine_picture.specs.Picture.{Picture, after, after_step_to, before, before_step, by_name, can_wait}
use Rattle.machine_picture.specs.Picture.{is_on_screen, looks, operation_at, picture_by}
use Rattle.machine_standard_windows.specs.TurnState.{place}
use Rattle.machine_standard_windows.specs.declared.turn_state.TurnState.{TurnState}
use Rattle.machine_standard.specs.Playing.{LeadsTo}
use Rattle.machine_standard.proofs.Elsewhere.{flown_early, flown_late_elsewhere}

-- Operations that draw nothing

abbrev pub is_quiet : Option StandardOperation → Bool
is_quiet None = true
is_quiet (Some operation) = not (looks operation)

by_either : {A : Type 0} (screen wait : Bool) (x y : A) → not (screen || wait) ≡ true
    → ((if screen || wait then x else y) ≡ y) × ((if screen then x else y) ≡ y)
by_either true wait x y e = absurd (cc)
by_either false true x y e = absurd (cc)
by_either false false x y e = (refl, refl)

pub before_quiet : (o : Option StandardOperation) (here : Here) (text : List ℕ) (p : Picture) → is_quiet o ≡ true
    → before o here text p ≡ p
before_quiet None here text p e = refl
before_quiet (Some operation) here text p e = (by_either (is_on_screen operation) (can_wait operation) _ p e).0

pub after_quiet : (version : ℕ) (o : Option StandardOperation) (here : Here) (s : State) (text : List ℕ) (p : Picture)
    → is_quiet o ≡ true → after version o here s text p ≡ p
after_quiet version None here s text p e = refl
after_quiet version (Some operation) here s text p e = (by_either (is_on_screen operation) (can_wait operation) _ p e).1

-- a step by one
quiet_step : (story : Story) (here : Here) (s : State) (text : List ℕ) (p : Picture)
    → is_quiet (operation_at story s.memory here.next.program_counter) ≡ true → p ≡ after_step_to story here s text p
unfolding after_step_to before_step
quiet_step story here s text p e =
    let o = operation_at story s.memory here.next.program_counter in
    sym (after_quiet story.version.number o here s text (before o here s.text p) e ∙ before_quiet o here s.text p e)

-- Reading never goes on

read_not_done : (extra : List ℕ) (here : Here) (after : ℕ) (result : Option ℕ) (text parse : ℕ) (s : State)
    → is_done (read_line extra here after result text parse s) ≡ false
unfolding read_line wait_for_line
read_not_done extra here after result text parse s =
    not_done (begin_read extra here s) _ (λ _ t.
    within_not_done here (wait_for_line after result text parse t)
    (not_done (test_room text t) _ (λ _ u.
    not_done (test_slots_or_none parse u) _ (λ _ v.
    not_done (test_result result v) _ (λ _ w. wait_not_done _ w)))))

pub further_not_done : (loaded : Loaded) (here : Here) (d : Result (Instruction × ℕ) Fault) (s : State)
    → is_done (execute_further loaded Read here d s) ≡ false
unfolding perform_further
further_not_done loaded here (Err cause) s = refl
further_not_done loaded here (Ok x) s =
    not_done (operand_values x.0.operands s) _ (λ values t. read_not_done _ here x.1 x.0.result _ _ t)

pub reads : (story : Story) (here : Here) (s : State) → older_at story.version s.memory here.next.program_counter ≡ None
    → further_at s.memory here.next.program_counter ≡ Some Read
    → any_step story here s
    ≡ execute_further story.loaded Read here (decode_row s.memory here.next.program_counter (row_of Read)) s
unfolding any_step standard_step
reads story here s none found =
    ap (λ o. chosen story o here s) none ∙ ap (λ o. standard.chosen story.loaded o here s) found

-- Steps that units do

pub halted : {P : Type 0} (place : Place) (next : Next) (s t : State) → halt place s ≡ done next t → P
halted place next s t e = absurd (cc)

quiet_further : (story : Story) (here there : Here) (next : Next) (s t : State) (o : Option StandardOperation)
    → step here.next s ≡ done next t → any_step story here s ≡ done there t
    → older_at story.version s.memory here.next.program_counter ≡ None
    → further_at s.memory here.next.program_counter ≡ o → is_quiet o ≡ true
quiet_further story here there next s t None steps goes none found = refl
quiet_further story here there next s t (Some x) steps goes none found =
    elim (step_refused here.next s x found) [
      | inl refused ↦ halted _ next s t (sym refused ∙ steps)
      | inr read ↦ neither (is_done (any_step story here s))
          (ap is_done (reads story here s none (found ∙ ap (λ (y : StandardOperation). Some y) read.0))
          ∙ further_not_done story.loaded here _ s)
          (ap is_done goes)
    ]

quiet_elsewhere : (story : Story) (here there : Here) (next : Next) (s t : State)
    → step here.next s ≡ done next t → any_step story here s ≡ done there t
    → older_at story.version s.memory here.next.program_counter ≡ None
    → is_quiet (operation_at story s.memory here.next.program_counter) ≡ true
quiet_elsewhere story here there next s t steps goes none =
    let further = further_at s.memory here.next.program_counter in
    ap (λ o. is_quiet (by_name o further)) none ∙ quiet_further story here there next s t further steps goes none refl

-- a call of a version
quiet_call : (story : Story) (here : Here) (s : State) (operation : Operation)
    → older_at story.version s.memory here.next.program_counter ≡ Some (Known operation)
    → is_quiet (operation_at story s.memory here.next.program_counter) ≡ true
quiet_call story here s operation found =
    ap (λ o. is_quiet (by_name o (further_at s.memory here.next.program_counter))) found

quiet_by : (late : Bool) (story : Story) (here there : Here) (next : Next) (s t : State)
    → is_late story.version ≡ late → is_played story.version.number ≡ true
    → flown story.version here.next s ≡ done next t → any_step story here s ≡ done there t
    → is_quiet (operation_at story s.memory here.next.program_counter) ≡ true
quiet_by true story here there next s t late played e goes =
    let x = flown_late_elsewhere story.version here.next next s t late e in
    quiet_elsewhere story here there next s t x.0 goes x.1
quiet_by false story here there next s t early played e goes =
    elim (flown_early story here next s t played early e) [
      | inl x ↦ quiet_elsewhere story here there next s t x.0 goes x.1
      | inr call ↦ quiet_call story here s call.1.0 call.1.1
    ]

-- Whatever is drawn from here on

pub leads_still : (story : Story) (here : Here) (s : State) (p : Picture) → LeadsTo story here s p here s p
leads_still story here s p = record {
  count = 0;
  leads = λ rest.
      let n : 0 + rest ≡ rest = omega arith in
      ap (λ k. picture_by story k here s p) n;
}

pub leads_on : {story : Story} {a b c : Here} {s t u : State} {p q r : Picture} → LeadsTo story a s p b t q
    → LeadsTo story b t q c u r → LeadsTo story a s p c u r
leads_on {story} {a} {b} {c} {s} {t} {u} {p} {q} {r} x y = record {
  count = x.count + y.count;
  leads = λ rest.
      let e : x.count + y.count + rest ≡ x.count + (y.count + rest) = omega arith in
      ap (λ n. picture_by story n a s p) e ∙ x.leads (y.count + rest) ∙ y.leads rest;
}

-- one step
goes_by : (story : Story) (here next : Here) (s t : State) (p q : Picture) (rest : ℕ)
    → any_step story here s ≡ done next t → q ≡ after_step_to story here s t.text p
    → picture_by story (suc rest) here s p ≡ picture_by story rest next t q
unfolding picture_by
goes_by story here next s t p q rest e is =
    ap (λ o. after_step o (λ next t. picture_by story rest next t (after_step_to story here s t.text p))
    (λ place t. Some (before_step story here s p))) e
    ∙ ap (picture_by story rest next t) (sym is)

pub leads_by : (story : Story) (here next : Here) (s t : State) (p q : Picture) → any_step story here s ≡ done next t
    → q ≡ after_step_to story here s t.text p → LeadsTo story here s p next t q
leads_by story here next s t p q e is = record {
  count = 1;
  leads = λ rest.
      let n : 1 + rest ≡ suc rest = omega arith in
      ap (λ k. picture_by story k here s p) n ∙ goes_by story here next s t p q rest e is;
}

-- the last step
ends_by : (story : Story) (here : Here) (end : Place) (s t : State) (p q : Picture) (rest : ℕ)
    → any_step story here s ≡ halt end t → q ≡ before_step story here s p
    → picture_by story (suc rest) here s p ≡ Some q
unfolding picture_by
ends_by story here end s t p q rest e is =
    ap (λ o. after_step o (λ next t. picture_by story rest next t (after_step_to story here s t.text p))
    (λ place t. Some (before_step story here s p))) e
    ∙ ap (λ (x : Picture). Some x) (sym is)

pub ends_picture : (story : Story) (first here : Here) (end : Place) (s t u : State) (p q r : Picture)
    → LeadsTo story first s p here t q → any_step story here t ≡ halt end u → r ≡ before_step story here t q
    → (count : ℕ) × (picture_by story count first s p ≡ Some r)
ends_picture story first here end s t u p q r leads e is =
    (leads.count + 1, leads.leads 1 ∙ ends_by story here end t u q r 0 e is)

-- steps that units do draw nothing
pub leads_flown : (story : Story) (turn : TurnState) (count : ℕ) (first here : Next) (s t : State) (p : Picture)
    → is_played story.version.number ≡ true
    → ((at next : Next) (u v : State) → flown story.version at u ≡ done next v
    → any_step story (place turn at) u ≡ done (place turn next) v)
    → ReachesBy (flown story.version) count first s here t
    → LeadsTo story (place turn first) s p (place turn here) t p
leads_flown story turn zero first here s t p played steps h =
    subst (λ n. LeadsTo story (place turn first) s p (place turn n) t p) (sym h.0)
    (subst (λ u. LeadsTo story (place turn first) s p (place turn first) u p) (sym h.1)
    (leads_still story (place turn first) s p))
leads_flown story turn (suc count) first here s t p played steps h =
    let mid : Next = h.0 in
    let between : State = h.1 in
    let goes = steps mid here between t h.3 in
    leads_on (leads_flown story turn count first mid s between p played steps h.2)
    (leads_by story (place turn mid) (place turn here) between t p p goes
    (quiet_step story (place turn mid) between t.text p
    (quiet_by (is_late story.version) story (place turn mid) (place turn here) here between t refl played h.3 goes)))
