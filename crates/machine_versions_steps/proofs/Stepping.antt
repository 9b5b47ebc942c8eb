-- A step of an opcode that the version performs otherwise, from its parts.
use Rattle.std.proofs.Common.{◌≡◌, ℕ, List, Result, Ok, Err, refl, subst}
use Rattle.std.specs.Result.{IsErrAnd}
use Rattle.std.proofs.lemmas.Result.{err_from_is_err_and}
use Rattle.journal.specs.Recording.{Recording}
use Rattle.zcore.specs.declared.next.Next.{Next}
use Rattle.zcore.specs.declared.place.Fault.{Fault}
use Rattle.zcore.specs.declared.place.Place.TheVariants as places
use Rattle.zcore.specs.Parts.{fault, operand_values}
use Rattle.zcore.specs.State.{State, Out, ◌>>=◌}
use Rattle.zcore_standard.specs.Instruction.{Instruction}
use Rattle.zcore_standard.specs.Place.{Here}
use Rattle.machine_decoding.specs.Seen.{seen}
use Rattle.machine_frames.specs.Contents.{Contents}
use Rattle.machine_frames.specs.States.{IsSound}
use Rattle.machine_frames.specs.Went.{Went, Told}
use Rattle.machine_frames.specs.declared.end.End.{End}
use Rattle.machine_frames.specs.declared.end.End.TheVariants as ends
use Rattle.machine_frames.proofs.Steps.{went_no_further, told_went, told_then, told_halt}
use Rattle.zcore_versions.specs.declared.operations.VersionOperation.{VersionOperation}
use Rattle.zcore_versions.specs.Performing.{perform, execute_older}
use Rattle.zcore_versions.specs.Versions.{Story}

pub executes_version : {s t u : Recording Contents} {x y : List ℕ} (r : Result Here End) (story : Story)
    (operation : VersionOperation) (here : Here) (i : Instruction) (after : ℕ) (d : Result (Instruction × ℕ) Fault)
    (values : List ℕ) → Ok (i, after) ≡ d → Went (Ok values) s t (operand_values i.operands)
    → Told r t x u y (perform story operation here after i.result i.branch values)
    → Told r s x u y (execute_older story operation here d)
executes_version {s} {t} {u} {x} {y} r story operation here i after d values e v w =
    subst (λ o. Told r s x u y (execute_older story operation here o)) e
    (told_then (λ vs. perform story operation here after i.result i.branch vs) (told_went (Ok values) x v) w)

pub reads_no_version : {s t : Recording Contents} {x : List ℕ} (story : Story) (operation : VersionOperation) (here : Here)
    (i : Instruction) (after : ℕ) (d : Result (Instruction × ℕ) Fault) (e : End) → Ok (i, after) ≡ d
    → Went {A = List ℕ} (Err e) s t (operand_values i.operands)
    → Told {A = Here} (Err e) s x t x (execute_older story operation here d)
reads_no_version {s} {t} {x} story operation here i after d e is w =
    subst (λ o. Told {A = Here} (Err e) s x t x (execute_older story operation here o)) is
    (told_went {A = Here} (Err e) x
    (went_no_further (λ vs. perform story operation here after i.result i.branch vs) w))

pub decodes_no_version : {x : List ℕ} (s : Recording Contents) (story : Story) (operation : VersionOperation) (here : Here)
    (d : Result (Instruction × ℕ) Fault) (cause : Fault) → IsSound s.store → Err cause ≡ d
    → Told {A = Here} (Err (ends.Stop (places.Fault cause))) s x s x (execute_older story operation here d)
decodes_no_version {x} s story operation here d cause sound e =
    subst (λ o. Told {A = Here} (Err (ends.Stop (places.Fault cause))) s x s x
    (execute_older story operation here o)) e (told_halt s (fault cause) x sound refl)

-- at the exit of a `?`
pub told_err_seen : {s t : Recording Contents} {x y : List ℕ} {e : End} {f : State → Out Here} (view : Next → Here)
    (r : Result Next End) → IsErrAnd r (λ q. q ≡ e) → Told {A = Here} (Err e) s x t y f → Told (seen view r) s x t y f
told_err_seen view r h w =
    let p = err_from_is_err_and r h in
    rw (p.1, p.2) w

-- a place where no turn goes on, for what holds of every place
pub nowhere : Next
nowhere = record { program_counter = 0; fuel = 0 }
