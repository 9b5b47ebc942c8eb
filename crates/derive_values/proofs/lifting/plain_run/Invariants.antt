use Rattle.std.proofs.Common.{◌≡◌, false}
use Rattle.derive_values.specs.Lifted.{is_embedded}
use Rattle.derive_values.specs.Views.{Passes}
use Rattle.derive_values.proofs.lifting.plain_run.Given as goal

abbrev pub invariant-loop-at : goal.invariant-loop-at
invariant-loop-at l = record {
  outside : is_embedded l.level ≡ false;
  passes : Passes l.fn.start l.pieces l.at l.level;
}
