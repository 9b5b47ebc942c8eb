use Rattle.std.proofs.Common.{◌≡◌, ◌++◌, map, drop}
use Rattle.meaning.specs.Views.{value_of, values_of}
use Rattle.code_drafts.specs.Items as items
use Rattle.code_drafts.specs.Code.{as_operands}
use Rattle.code_drafts.proofs.operand.push_operands.Given as goal

abbrev pub invariant-loop-number : goal.invariant-loop-number
invariant-loop-number l =
    as_operands l.operands.items ++ items.operands_of (values_of (map value_of (drop l.number l.values)))
    ≡ as_operands l.initial.operands.items ++ items.operands_of (values_of (map value_of l.values))
