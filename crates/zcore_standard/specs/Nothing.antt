-- The opcodes on objects, where the object is 0, which is no object (Z-Machine Standards Document 1.1, section 12.3).
-- In the profile this is M8. Here the answer is 0 or false, and nothing is changed, as other players do.
use Rattle.std.specs.Prelude.{◌==◌, ◌&&◌, ◌||◌, ℕ, Bool, true, false, if◌then◌else◌, List, Option, Result, Ok, Err}
use Rattle.zcore.specs.declared.instruction.Branch.{Branch}
use Rattle.zcore.specs.declared.instruction.Operation.{Operation}
use Rattle.zcore.specs.declared.instruction.Operation.TheVariants.{JumpIfIn, TestAttribute, SetAttribute}
use Rattle.zcore.specs.declared.instruction.Operation.TheVariants.{ClearAttribute, InsertObject, GetProperty}
use Rattle.zcore.specs.declared.instruction.Operation.TheVariants.{GetPropertyAddress, GetNextProperty, GetSibling}
use Rattle.zcore.specs.declared.instruction.Operation.TheVariants.{GetChild, GetParent, RemoveObject, PrintObject}
use Rattle.zcore.specs.declared.instruction.Operation.TheVariants.{PutProperty}
use Rattle.zcore.specs.declared.place.Fault.{Fault}
use Rattle.zcore.specs.declared.place.Fault.TheVariants as faults
use Rattle.zcore.specs.declared.next.Next.{Next}
use Rattle.zcore.specs.Instruction.{Instruction, decode}
use Rattle.zcore.specs.Effects.{give_result}
use Rattle.zcore.specs.Execution.{first, second}
use Rattle.zcore.specs.Objects.{give_object, remove_object}
use Rattle.zcore.specs.Parts.{fault, is_code, operand_values, goes_on, branch_on}
use Rattle.zcore.specs.State.{State, Out, ◌>>=◌}
use Rattle.zcore_standard.specs.Flags.{concerns_flags, perform_on_flags}
use Rattle.zcore_standard.specs.Forgiving.{may_be_forgiven, perform_forgiving}
use Rattle.zcore_standard.specs.Loaded.{Loaded}
use Rattle.zcore_standard.specs.Printing.{perform_printing}

-- the first operand is an object
abbrev pub is_on_object : Operation → Bool
is_on_object JumpIfIn = true
is_on_object TestAttribute = true
is_on_object SetAttribute = true
is_on_object ClearAttribute = true
is_on_object InsertObject = true
is_on_object GetProperty = true
is_on_object GetPropertyAddress = true
is_on_object GetNextProperty = true
is_on_object GetSibling = true
is_on_object GetChild = true
is_on_object GetParent = true
is_on_object RemoveObject = true
is_on_object PrintObject = true
is_on_object PutProperty = true
is_on_object _ = false

-- the second operand is one too
abbrev pub is_into_object : Operation → Bool
is_into_object InsertObject = true
is_into_object _ = false

-- an operation on object 0
abbrev pub concerns_nothing : Operation → List ℕ → Bool
concerns_nothing operation values =
    (is_on_object operation && first values == 0) || (is_into_object operation && second values == 0)

-- insert_obj: into object 0 means out of every object
abbrev pub insert_nothing : Next → ℕ → ℕ → State → Out Next
insert_nothing here after object = if object == 0 then goes_on after here.fuel else remove_object here after object

-- Such an operation. Object 0 is in object 0 only.
unfoldable pub perform_on_nothing : Operation → Next → ℕ → Option ℕ → Option Branch → List ℕ → State → Out Next
perform_on_nothing JumpIfIn here after result branch values = branch_on here after branch (second values == 0)
perform_on_nothing TestAttribute here after result branch values = branch_on here after branch false
perform_on_nothing InsertObject here after result branch values = insert_nothing here after (first values)
perform_on_nothing GetProperty here after result branch values = give_result here after result 0
perform_on_nothing GetPropertyAddress here after result branch values = give_result here after result 0
perform_on_nothing GetNextProperty here after result branch values = give_result here after result 0
perform_on_nothing GetSibling here after result branch values = give_object here after result branch 0
perform_on_nothing GetChild here after result branch values = give_object here after result branch 0
perform_on_nothing GetParent here after result branch values = give_result here after result 0
perform_on_nothing operation here after result branch values = goes_on after here.fuel

-- an operation of the profile on the values of its operands
abbrev pub perform_known : Loaded → Operation → Next → ℕ → Option ℕ → Option Branch → List ℕ → State → Out Next
perform_known loaded operation here after result branch values =
    if concerns_nothing operation values then perform_on_nothing operation here after result branch values
    else (if concerns_flags operation values then perform_on_flags operation here after values
    else (if may_be_forgiven operation values then perform_forgiving operation here after result branch values
    else perform_printing loaded operation here after result branch values))

abbrev pub execute_known : Loaded → Next → Result (Instruction × ℕ) Fault → State → Out Next
execute_known loaded here (Err cause) = fault cause
execute_known loaded here (Ok x) = do
  values ← operand_values x.0.operands
  perform_known loaded x.0.operation here x.1 x.0.result x.0.branch values

-- a step of the profile, but for object 0, for Flags 2, for slips, and for what the profile does not print
unfoldable pub step_known : Loaded → Next → State → Out Next
step_known loaded here s =
    if is_code s.memory here.program_counter
    then execute_known loaded here (decode s.memory here.program_counter) s
    else fault faults.Code s
