-- What follows the operands of an instruction, by its row of the table.
use Rattle.std.specs.Prelude.{ℕ, List, Option, Result, Ok}
use Rattle.zcore.specs.declared.instruction.Branch.{Branch}
use Rattle.zcore.specs.declared.operations.OpcodeRow.{OpcodeRow}
use Rattle.zcore.specs.declared.place.Fault.{Fault}
use Rattle.ztext.specs.Results.{◌>>=◌}
use Rattle.zcore_standard.specs.Instruction.{result_at, branch_after}

-- the variable for the result, the branch, and the address after them
abbrev pub ends : List ℕ → OpcodeRow → ℕ → Result (Option ℕ × Option Branch × ℕ) Fault
ends memory row at =
    result_at memory row.has_result at >>= λ into.
    branch_after memory row.has_branch into.1 >>= λ to.
    Ok (into.0, to.0, to.1)
