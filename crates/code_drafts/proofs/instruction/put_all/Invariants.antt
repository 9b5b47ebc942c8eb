use Rattle.std.proofs.Common.{◌≡◌, ◌++◌, drop}
use Rattle.std.specs.Prelude.{map}
use Rattle.code_drafts.specs.Bytes.{bytes_of_all}
use Rattle.code_drafts.specs.Written.{instruction_of}
use Rattle.code_drafts.proofs.instruction.put_all.Given as goal

abbrev pub invariant-loop-instruction : goal.invariant-loop-instruction
invariant-loop-instruction l =
    l.bytes.items ++ bytes_of_all (map instruction_of (drop l.instruction-index l.instructions))
    ≡ l.initial.bytes.items ++ bytes_of_all (map instruction_of l.instructions)
