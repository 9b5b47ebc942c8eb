use Rattle.std.proofs.Common.{◌≡◌, drop}
use Rattle.std.specs.List.{flat_map}
use Rattle.messages_diagnosis.specs.Walk.{raised_all, own_directive_needs}
use Rattle.messages_diagnosis.proofs.statements.definitions.Given as goal

abbrev pub invariant-loop-definition : goal.invariant-loop-definition
invariant-loop-definition l = raised_all l.sought (flat_map own_directive_needs (drop l.definition-index l.all))
    ≡ raised_all l.fn.sought (flat_map own_directive_needs l.all)
