use Rattle.std.proofs.Common.{◌≡◌, ◌++◌, map, drop}
use Rattle.meaning.specs.Views.{value_of, values_of}
use Rattle.code_drafts.specs.Code.{as_operands}
use Rattle.code_drafts.specs.Writing.{alones}
use Rattle.code_drafts.proofs.operand.push_alone.Given as goal

abbrev pub invariant-loop-number : goal.invariant-loop-number
invariant-loop-number l =
    as_operands l.operands.items ++ alones (values_of (map value_of (drop l.number l.values)))
    ≡ as_operands l.initial.operands.items ++ alones (values_of (map value_of l.values))
