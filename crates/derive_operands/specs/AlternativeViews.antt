-- What the code holds of alternatives.
use Rattle.std.specs.Prelude.{reverse}
use Rattle.derive_operands.specs.declared.alternatives.Choosing.{Choosing as ChoosingHeld}
use Rattle.derive_operands.specs.Alternatives.{Choosing}

abbrev pub choosing_of : ChoosingHeld → Choosing
choosing_of c = record {
  scope = c.scope;
  begins = c.begins;
  frame = c.frame;
  outer = reverse c.outer.items;
  passed = c.passed;
}
