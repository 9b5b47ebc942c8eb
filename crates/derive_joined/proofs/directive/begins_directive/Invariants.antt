use Rattle.std.proofs.Common.{◌≡◌, map, drop}
use Rattle.std.specs.List.{list_any}
use Rattle.derive_joined.specs.Directives.{begins_with, directives}
use Rattle.derive_joined.proofs.directive.begins_directive.Given as goal

abbrev pub invariant-loop-word : goal.invariant-loop-word
invariant-loop-word l =
    list_any (begins_with l.bytes) (map (λ word. word.now) (drop l.word-index l.word-items))
    ≡ list_any (begins_with l.bytes) directives
