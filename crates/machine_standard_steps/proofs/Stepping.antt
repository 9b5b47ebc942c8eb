-- A step of the Standard's machine, from its parts.
use Rattle.std.proofs.Common.{◌≡◌, ◌≢◌, ◌<◌, ◌∙◌, ℕ, List, Option, None, Some, Result, Ok, Err, refl, ap, sym, subst, true}
use Rattle.std.specs.Prelude.{IfOk}
use Rattle.std.specs.Result.{IsErrAnd}
use Rattle.std.proofs.lemmas.Result.{err_from_is_err_and}
use Rattle.journal.specs.Recording.{Recording}
use Rattle.zcore.specs.declared.next.Next.{Next}
use Rattle.zcore.specs.declared.place.Fault.{Fault}
use Rattle.zcore.specs.declared.place.Fault.TheVariants as faults
use Rattle.zcore.specs.declared.place.Place.TheVariants as places
use Rattle.zcore.specs.Parts.{fault, operand_values}
use Rattle.zcore.specs.State.{State, Out}
use Rattle.zcore.specs.Turn.{weight}
use Rattle.zcore_standard.specs.declared.operations.StandardOperation.{StandardOperation}
use Rattle.zcore_standard.specs.Place.{Here, on, within}
use Rattle.zcore_standard.specs.Loaded.{Loaded}
use Rattle.zcore_standard.specs.Instruction.{Instruction, decode_row}
use Rattle.zcore_standard.specs.Performing.{perform_further, execute_further}
use Rattle.zcore_standard.specs.Machine.{chosen, standard_step}
use Rattle.zcore_standard.specs.Nothing.{step_known}
use Rattle.zcore_standard.specs.Operations.{row_of, further_at}
use Rattle.zcore_standard.specs.Rows.{with_row}
use Rattle.zcore.specs.declared.operations.OpcodeRow.{OpcodeRow}
use Rattle.zcore_versions.proofs.StandardStepping.{standard_step_lighter}
use Rattle.zcore_versions.specs.declared.operations.VersionOperation.{VersionOperation}
use Rattle.zcore_versions.specs.declared.operations.VersionOperation.TheVariants.{Known, Older, SplitWindow, Missing}
use Rattle.zcore_versions.specs.declared.version.StoryVersion.{StoryVersion}
use Rattle.zcore_versions.specs.Machine.{any_step}
use Rattle.zcore_versions.specs.Machine.{chosen as any_chosen}
use Rattle.zcore_versions.specs.Operations as versions
use Rattle.zcore_versions.specs.Operations.{older_at}
use Rattle.zcore_versions.specs.Performing.{execute_older}
use Rattle.zcore_versions.specs.Versions.{Story, is_late}
use Rattle.zcore_versions.proofs.Finding.{found_differs}
use Rattle.zcore_versions.proofs.Stepping.{any_step_lighter}
use Rattle.zcore_versions.proofs.Turning.{late_is_standard}
use Rattle.machine_versions_steps.specs.Kinds.{Differs}
use Rattle.machine_frames.specs.Contents.{Contents, memory_of}
use Rattle.machine_frames.specs.States.{state_of, IsSound}
use Rattle.machine_frames.specs.Went.{Went, Told}
use Rattle.machine_frames.specs.declared.end.End.{End}
use Rattle.machine_frames.specs.declared.end.End.TheVariants as ends
use Rattle.machine_frames.proofs.Steps.{went_no_further, told_as, told_went, told_then, told_halt}
use Rattle.machine_decoding.specs.Seen.{seen}
use Rattle.machine_standard_windows.specs.TurnState.{place}
use Rattle.machine_standard_windows.specs.declared.turn_state.TurnState.{TurnState}
use Rattle.machine_standard_opcodes.proofs.Keeping.{told_within}

-- what the code finds by its table is what the definition finds
pub finds_none : (o : Option StandardOperation) → None ≡ with_row o → o ≡ None
finds_none None e = refl
finds_none (Some operation) e = absurd (cc)

pub record Finds (o : Option StandardOperation) (operation : StandardOperation) (row : OpcodeRow) : Type 0 where
  pub found : o ≡ Some operation
  pub row_is : row ≡ row_of operation

same_pair : (x y : StandardOperation × OpcodeRow) → Some x ≡ Some y → x ≡ y
same_pair x y e = cc

pub finds_some : (o : Option StandardOperation) (operation : StandardOperation) (row : OpcodeRow)
    → Some (operation, row) ≡ with_row o → Finds o operation row
finds_some None operation row e = absurd (cc)
finds_some (Some other) operation row e =
    let same = same_pair (operation, row) (other, row_of other) e in
    let found : other ≡ operation = sym (ap (λ x. x.0) same) in
    record { found = ap Some found; row_is = ap (λ x. x.1) same ∙ ap row_of found }

-- a step where no further operation is found
none_step : (loaded : Loaded) (here : Here) (s : State) → further_at s.memory here.next.program_counter ≡ None
    → standard_step loaded here s ≡ within here (step_known loaded here.next s)
unfolding standard_step
none_step loaded here s e = ap (λ o. chosen loaded o here s) e

-- a step where one is found
some_step : (loaded : Loaded) (here : Here) (s : State) (x : StandardOperation)
    → further_at s.memory here.next.program_counter ≡ Some x
    → standard_step loaded here s
    ≡ execute_further loaded x here (decode_row s.memory here.next.program_counter (row_of x)) s
unfolding standard_step
some_step loaded here s x e = ap (λ o. chosen loaded o here s) e

pub stepped_none : {s t : Recording Contents} {x y : List ℕ} (r : Result Next End) (loaded : Loaded) (here : Here)
    → further_at (memory_of s.store) here.next.program_counter ≡ None
    → Told r s x t y (step_known loaded here.next) → Told (seen (on here) r) s x t y (standard_step loaded here)
stepped_none {s} {t} {x} {y} r loaded here e w =
    told_as (seen (on here) r) (standard_step loaded here) (none_step loaded here (state_of s.store x) e)
    (told_within r here (step_known loaded here.next) w)

pub stepped_some : {s t : Recording Contents} {x y : List ℕ} (r : Result Here End) (loaded : Loaded) (here : Here)
    (operation : StandardOperation) → further_at (memory_of s.store) here.next.program_counter ≡ Some operation
    → Told r s x t y (execute_further loaded operation here
    (decode_row (memory_of s.store) here.next.program_counter (row_of operation)))
    → Told r s x t y (standard_step loaded here)
stepped_some {s} {t} {x} {y} r loaded here operation e w =
    told_as r (standard_step loaded here) (some_step loaded here (state_of s.store x) operation e) w

-- each step makes the weight fall
pub standard_lighter : {s t : Recording Contents} {x y : List ℕ} (r : Result Next End) (loaded : Loaded)
    (here : Here) (new : TurnState)
    → Told (seen (place new) r) s x t y (standard_step loaded here)
    → IfOk r (λ next. weight next (state_of t.store y) < weight here.next (state_of s.store x))
standard_lighter {s} {t} {x} {y} (Ok next) loaded here new w =
    (standard_step_lighter loaded here (place new next) (state_of s.store x) (state_of t.store y) w.told.1).falls
standard_lighter (Err e) loaded here new w = tt

pub executes_further : {s t u : Recording Contents} {x y : List ℕ} (r : Result Here End) (loaded : Loaded)
    (operation : StandardOperation) (here : Here) (i : Instruction) (after : ℕ) (d : Result (Instruction × ℕ) Fault)
    (values : List ℕ) → Ok (i, after) ≡ d → Went (Ok values) s t (operand_values i.operands)
    → Told r t x u y (perform_further loaded operation here after i.result i.branch values)
    → Told r s x u y (execute_further loaded operation here d)
executes_further {s} {t} {u} {x} {y} r loaded operation here i after d values e v w =
    subst (λ o. Told r s x u y (execute_further loaded operation here o)) e
    (told_then (λ vs. perform_further loaded operation here after i.result i.branch vs) (told_went (Ok values) x v) w)

pub reads_no_further : {s t : Recording Contents} {x : List ℕ} (loaded : Loaded) (operation : StandardOperation) (here : Here)
    (i : Instruction) (after : ℕ) (d : Result (Instruction × ℕ) Fault) (e : End) → Ok (i, after) ≡ d
    → Went {A = List ℕ} (Err e) s t (operand_values i.operands)
    → Told {A = Here} (Err e) s x t x (execute_further loaded operation here d)
reads_no_further {s} {t} {x} loaded operation here i after d e is w =
    subst (λ o. Told {A = Here} (Err e) s x t x (execute_further loaded operation here o)) is
    (told_went {A = Here} (Err e) x
    (went_no_further (λ vs. perform_further loaded operation here after i.result i.branch vs) w))

pub decodes_no_further : {x : List ℕ} (s : Recording Contents) (loaded : Loaded) (operation : StandardOperation) (here : Here)
    (d : Result (Instruction × ℕ) Fault) (cause : Fault) → IsSound s.store → Err cause ≡ d
    → Told {A = Here} (Err (ends.Stop (places.Fault cause))) s x s x (execute_further loaded operation here d)
decodes_no_further {x} s loaded operation here d cause sound e =
    subst (λ o. Told {A = Here} (Err (ends.Stop (places.Fault cause))) s x s x
    (execute_further loaded operation here o)) e (told_halt s (fault cause) x sound refl)

-- at the exit of a `?`
pub told_err_seen : {s t : Recording Contents} {x y : List ℕ} {e : End} {f : State → Out Here} (view : Next → Here)
    (r : Result Next End) → IsErrAnd r (λ q. q ≡ e) → Told {A = Here} (Err e) s x t y f → Told (seen view r) s x t y f
told_err_seen view r h w =
    let p = err_from_is_err_and r h in
    rw (p.1, p.2) w

-- a place where no turn goes on, for what holds of every place
pub nowhere : Next
nowhere = record { program_counter = 0; fuel = 0 }

-- Any version

-- what the version performs otherwise is found by its table
pub finds_no_other : (version : ℕ) (o : Option VersionOperation) → None ≡ versions.with_row version o → o ≡ None
finds_no_other version None e = refl
finds_no_other version (Some operation) e = absurd (cc)

pub record FindsOther (version : ℕ) (o : Option VersionOperation) (operation : VersionOperation) (row : OpcodeRow)
    : Type 0 where
  pub found : o ≡ Some operation
  pub row_is : row ≡ versions.row_of version operation

same_other : (x y : VersionOperation × OpcodeRow) → Some x ≡ Some y → x ≡ y
same_other x y e = cc

pub finds_other : (version : ℕ) (o : Option VersionOperation) (operation : VersionOperation) (row : OpcodeRow)
    → Some (operation, row) ≡ versions.with_row version o → FindsOther version o operation row
finds_other version None operation row e = absurd (cc)
finds_other version (Some other) operation row e =
    let same = same_other (operation, row) (other, versions.row_of version other) e in
    let found : other ≡ operation = sym (ap (λ x. x.0) same) in
    record { found = ap Some found; row_is = ap (λ x. x.1) same ∙ ap (versions.row_of version) found }

-- in versions 5 and 8, and where the version performs nothing otherwise
pub late_stepped : {s t : Recording Contents} {x y : List ℕ} (r : Result Here End) (story : Story) (here : Here)
    → is_late story.version ≡ true → Told r s x t y (standard_step story.loaded here)
    → Told r s x t y (any_step story here)
late_stepped {s} {x = x} r story here late w =
    told_as r (any_step story here) ((late_is_standard story late).steps here (state_of s.store x)) w

none_other : (story : Story) (here : Here) (s : State) → older_at story.version s.memory here.next.program_counter ≡ None
    → any_step story here s ≡ standard_step story.loaded here s
unfolding any_step
none_other story here s e = ap (λ o. any_chosen story o here s) e

pub same_stepped : {s t : Recording Contents} {x y : List ℕ} (r : Result Here End) (story : Story) (here : Here)
    → older_at story.version (memory_of s.store) here.next.program_counter ≡ None
    → Told r s x t y (standard_step story.loaded here) → Told r s x t y (any_step story here)
same_stepped {s} {x = x} r story here e w =
    told_as r (any_step story here) (none_other story here (state_of s.store x) e) w

other_step : (story : Story) (here : Here) (s : State) (operation : VersionOperation)
    → older_at story.version s.memory here.next.program_counter ≡ Some operation
    → any_step story here s ≡ any_chosen story (Some operation) here s
unfolding any_step
other_step story here s operation e = ap (λ o. any_chosen story o here s) e

chosen_other : (story : Story) (here : Here) (s : State) (operation : VersionOperation) → operation ≢ Missing
    → any_chosen story (Some operation) here s ≡ execute_older story operation here
    (decode_row s.memory here.next.program_counter (versions.row_of story.version.number operation)) s
chosen_other story here s Missing not = absurd (not refl)
chosen_other story here s (Known operation) not = refl
chosen_other story here s (Older operation) not = refl
chosen_other story here s SplitWindow not = refl

pub other_stepped : {s t : Recording Contents} {x y : List ℕ} (r : Result Here End) (story : Story) (here : Here)
    (operation : VersionOperation) → operation ≢ Missing
    → older_at story.version (memory_of s.store) here.next.program_counter ≡ Some operation
    → Told r s x t y (execute_older story operation here
    (decode_row (memory_of s.store) here.next.program_counter (versions.row_of story.version.number operation)))
    → Told r s x t y (any_step story here)
other_stepped {s} {x = x} r story here operation not e w =
    told_as r (any_step story here)
    (other_step story here (state_of s.store x) operation e ∙ chosen_other story here (state_of s.store x) operation not)
    w

pub missing_stepped : {x : List ℕ} (s : Recording Contents) (story : Story) (here : Here) → IsSound s.store
    → older_at story.version (memory_of s.store) here.next.program_counter ≡ Some Missing
    → Told {A = Here} (Err (ends.Stop (places.Fault faults.Opcode))) s x s x (any_step story here)
missing_stepped {x} s story here sound e =
    told_halt s (any_step story here) x sound (other_step story here (state_of s.store x) Missing e)

-- each step makes the weight fall
pub any_lighter : {s t : Recording Contents} {x y : List ℕ} (r : Result Next End) (story : Story) (here : Here)
    (new : TurnState) → Told (seen (place new) r) s x t y (any_step story here)
    → IfOk r (λ next. weight next (state_of t.store y) < weight here.next (state_of s.store x))
any_lighter {s} {t} {x} {y} (Ok next) story here new w =
    (any_step_lighter story here (place new next) (state_of s.store x) (state_of t.store y) w.told.1).falls
any_lighter (Err e) story here new w = tt

-- an operation that was found differs in its version
pub other_differs : (version : StoryVersion) (memory : List ℕ) (at : ℕ) (operation : VersionOperation)
    → older_at version memory at ≡ Some operation → Differs version.number operation
other_differs version memory at (Known operation) e = found_differs version memory at operation e
other_differs version memory at (Older operation) e = tt
other_differs version memory at SplitWindow e = tt
other_differs version memory at Missing e = tt
