use Rattle.std.proofs.Common.{◌≡◌, ◌++◌, drop}
use Rattle.std.specs.Prelude.{map}
use Rattle.code_drafts.specs.Bytes.{bytes_of_all}
use Rattle.code_instructions.specs.ObjectCode.{changing}
use Rattle.code_instructions.proofs.objects.put_changes.Given as goal

abbrev pub invariant-loop-change : goal.invariant-loop-change
invariant-loop-change l =
    l.bytes.items ++ bytes_of_all (map (changing l.object) (drop l.change-index l.changes))
    ≡ l.initial.bytes.items ++ bytes_of_all (map (changing l.object) l.changes)
