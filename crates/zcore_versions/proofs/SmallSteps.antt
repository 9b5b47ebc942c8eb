-- An instruction on a small object that is done is a step of the machine.
use Rattle.std.proofs.Common.{◌≡◌, ◌∙◌, ℕ, Bool, false, if◌then◌else◌, List, ap, Option, Some, Ok}
use Rattle.zcore.specs.declared.instruction.Branch.{Branch}
use Rattle.zcore.specs.declared.instruction.Operand.{Operand}
use Rattle.zcore.specs.declared.instruction.Operation.{Operation}
use Rattle.zcore.specs.declared.instruction.Operation.TheVariants as known
use Rattle.zcore.specs.declared.next.Next.{Next}
use Rattle.zcore.specs.Instruction.{Instruction, decode}
use Rattle.zcore.specs.Parts.{operand_values}
use Rattle.zcore.specs.State.{Out, State, bound, done, halt}
use Rattle.zcore.proofs.KeepingReads.{never}
use Rattle.zcore_standard.specs.Nothing.{concerns_nothing}
use Rattle.zcore_standard.specs.Place.{Here, within}
use Rattle.zcore_versions.specs.declared.operations.VersionOperation.TheVariants.{Known}
use Rattle.zcore_versions.specs.Operations.{older_at}
use Rattle.zcore_versions.specs.Machine.{any_step, chosen}
use Rattle.zcore_versions.specs.Performing.{execute_older, perform, perform_older, perform_on_none, perform_other}
use Rattle.zcore_versions.specs.Performing.{perform_small}
use Rattle.zcore_versions.specs.Versions.{Story}
use Rattle.zcore_versions.proofs.KnownDecoding.{decoded_row}
use Rattle.zcore_versions.proofs.SmallDone.{small_some}

-- what is done by small entries is done so in a version that has them
other_done : (story : Story) (operation : Operation) (here next : Next) (after : ℕ) (result : Option ℕ)
    (branch : Option Branch) (values : List ℕ) (s t : State)
    → perform_small operation here after result branch values s ≡ done next t
    → perform_other story operation here after result branch values s ≡ done next t
unfolding perform_small perform_other
other_done story known.JumpIfIn here next after result branch values s t h = h
other_done story known.TestAttribute here next after result branch values s t h = h
other_done story known.SetAttribute here next after result branch values s t h = h
other_done story known.ClearAttribute here next after result branch values s t h = h
other_done story known.InsertObject here next after result branch values s t h = h
other_done story known.RemoveObject here next after result branch values s t h = h
other_done story known.GetParent here next after result branch values s t h = h
other_done story known.GetSibling here next after result branch values s t h = h
other_done story known.GetChild here next after result branch values s t h = h
other_done story known.GetProperty here next after result branch values s t h = h
other_done story known.GetPropertyAddress here next after result branch values s t h = h
other_done story known.GetNextProperty here next after result branch values s t h = h
other_done story known.GetPropertyLength here next after result branch values s t h = h
other_done story known.PutProperty here next after result branch values s t h = h
other_done story _ here next after result branch values s t h = absurd (never _ next s t h)

older_done : (story : Story) (operation : Operation) (here next : Next) (after : ℕ) (result : Option ℕ)
    (branch : Option Branch) (values : List ℕ) (s t : State)
    → perform_small operation here after result branch values s ≡ done next t
    → perform_older story (Known operation) here after result branch values s ≡ done next t
unfolding perform_older
older_done story operation here next after result branch values s t h =
    ap (λ (b : Bool). (if b then perform_on_none operation here after result branch values
    else perform_other story operation here after result branch values) s)
    (small_some operation here next after result branch values s t h)
    ∙ other_done story operation here next after result branch values s t h

by_values : (o : Out (List ℕ)) (story : Story) (operation : Operation) (here : Here) (next : Next) (after : ℕ)
    (result : Option ℕ) (to : Option Branch) (t : State)
    → bound o (perform_small operation here.next after result to) ≡ done next t
    → bound o (λ values. perform story (Known operation) here after result to values) ≡ within here (done next t)
unfolding perform
by_values (done values u) story operation here next after result to t h =
    ap (within here) (older_done story operation here.next next after result to values u t h)
by_values (halt place u) story operation here next after result to t h = absurd (never place next u t h)

pub objects_are_steps : (story : Story) (here : Here) (next : Next) (s t : State) (x : Instruction × ℕ)
    → older_at story.version s.memory here.next.program_counter ≡ Some (Known x.0.operation)
    → decode s.memory here.next.program_counter ≡ Ok x
    → bound (operand_values x.0.operands s) (perform_small x.0.operation here.next x.1 x.0.result x.0.branch)
    ≡ done next t
    → any_step story here s ≡ within here (done next t)
unfolding any_step
objects_are_steps story here next s t x older read h =
    ap (λ o. chosen story o here s) older
    ∙ ap (λ r. execute_older story (Known x.0.operation) here r s)
    (decoded_row s.memory here.next.program_counter x read)
    ∙ by_values (operand_values x.0.operands s) story x.0.operation here next x.1 x.0.result x.0.branch t h
