use Rattle.std.proofs.Common.{◌≡◌}
use Rattle.std.specs.Prelude.{map}
use Rattle.meaning.specs.Views.{object_of}
use Rattle.checker_statements.specs.Objects.{with_parents}
use Rattle.checker_statements.proofs.Chains.{placing}
use Rattle.checker_statements.proofs.standing.place.Given as goal

abbrev pub invariant-loop-i : goal.invariant-loop-i
invariant-loop-i l = placing l.i l.parents l.objects ≡ with_parents l.parents (map object_of l.fn.objects)
