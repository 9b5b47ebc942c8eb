-- A call in a version that has calls of its own is a step of its machine.
use Rattle.std.proofs.Common.{◌≡◌, ◌∙◌, ℕ, true, false, List, ap, refl, sym, Option, None, Some, Ok, drop}
use Rattle.zcore.specs.declared.instruction.Branch.{Branch}
use Rattle.zcore.specs.declared.instruction.Operand.{Operand}
use Rattle.zcore.specs.declared.instruction.Operation.{Operation}
use Rattle.zcore.specs.declared.instruction.Operation.TheVariants as known
use Rattle.zcore.specs.declared.next.Next.{Next}
use Rattle.zcore.specs.Execution.{first}
use Rattle.zcore.specs.Instruction.{Instruction, decode}
use Rattle.zcore.specs.Operations.{has_result}
use Rattle.zcore.specs.Parts.{operand_values}
use Rattle.zcore.specs.State.{Out, State, bound, done, halt}
use Rattle.zcore_standard.specs.Place.{Here, within}
use Rattle.zcore_versions.specs.declared.operations.VersionOperation.TheVariants.{Known}
use Rattle.zcore_versions.specs.Calls.{call_older}
use Rattle.zcore_versions.specs.Operations.{is_call, older_at}
use Rattle.zcore_versions.specs.Machine.{any_step, chosen}
use Rattle.zcore_versions.specs.Performing.{execute_older, perform, perform_older, perform_other}
use Rattle.zcore_versions.proofs.KnownDecoding.{decoded_row}
use Rattle.zcore_versions.specs.Versions.{Story}

-- a call stores a result only where its operation does
pub calls_older : (story : Story) (operation : Operation) (here : Next) (after : ℕ) (result : Option ℕ)
    (to : Option Branch) (values : List ℕ) (s : State) → is_call operation ≡ true
    → (has_result operation ≡ false → result ≡ None)
    → perform_older story (Known operation) here after result to values s
    ≡ call_older story.version here after result (first values) (drop 1 values) s
unfolding perform_older perform_other
calls_older story known.Call1s here after result to values s is none = refl
calls_older story known.Call2s here after result to values s is none = refl
calls_older story known.CallVs here after result to values s is none = refl
calls_older story known.CallVs2 here after result to values s is none = refl
calls_older story known.Call1n here after result to values s is none =
    ap (λ (o : Option ℕ). call_older story.version here after o (first values) (drop 1 values) s) (sym (none refl))
calls_older story known.Call2n here after result to values s is none =
    ap (λ (o : Option ℕ). call_older story.version here after o (first values) (drop 1 values) s) (sym (none refl))
calls_older story known.CallVn here after result to values s is none =
    ap (λ (o : Option ℕ). call_older story.version here after o (first values) (drop 1 values) s) (sym (none refl))
calls_older story known.CallVn2 here after result to values s is none =
    ap (λ (o : Option ℕ). call_older story.version here after o (first values) (drop 1 values) s) (sym (none refl))
calls_older story _ here after result to values s is none = cc

by_values : (o : Out (List ℕ)) (story : Story) (operation : Operation) (here : Here) (after : ℕ) (result : Option ℕ)
    (to : Option Branch) → is_call operation ≡ true → (has_result operation ≡ false → result ≡ None)
    → bound o (λ values t. within here (perform_older story (Known operation) here.next after result to values t))
    ≡ within here (bound o (λ values. call_older story.version here.next after result (first values) (drop 1 values)))
by_values (done values t) story operation here after result to is none =
    ap (within here) (calls_older story operation here.next after result to values t is none)
by_values (halt place t) story operation here after result to is none = refl

-- so it is with its operands
pub executes_older : (story : Story) (operation : Operation) (here : Here) (after : ℕ) (result : Option ℕ)
    (to : Option Branch) (operands : List Operand) (s : State) → is_call operation ≡ true
    → (has_result operation ≡ false → result ≡ None)
    → bound (operand_values operands s) (λ values. perform story (Known operation) here after result to values)
    ≡ within here (bound (operand_values operands s) (λ values.
    call_older story.version here.next after result (first values) (drop 1 values)))
unfolding perform
executes_older story operation here after result to operands s is none =
    by_values (operand_values operands s) story operation here after result to is none

-- a call at an address is a step of the machine
pub calls_are_steps : (story : Story) (here : Here) (s : State) (x : Instruction × ℕ)
    → older_at story.version s.memory here.next.program_counter ≡ Some (Known x.0.operation)
    → decode s.memory here.next.program_counter ≡ Ok x → is_call x.0.operation ≡ true
    → (has_result x.0.operation ≡ false → x.0.result ≡ None)
    → any_step story here s ≡ within here (bound (operand_values x.0.operands s) (λ values.
    call_older story.version here.next x.1 x.0.result (first values) (drop 1 values)))
unfolding any_step
calls_are_steps story here s x older read is none =
    ap (λ o. chosen story o here s) older
    ∙ ap (λ r. execute_older story (Known x.0.operation) here r s)
    (decoded_row s.memory here.next.program_counter x read)
    ∙ executes_older story x.0.operation here x.1 x.0.result x.0.branch x.0.operands s is none
