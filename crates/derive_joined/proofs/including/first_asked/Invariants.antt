use Rattle.std.proofs.Common.{◌≡◌, drop}
use Rattle.derive_joined.specs.Included.{first_asked}
use Rattle.derive_joined.proofs.including.first_asked.Given as goal

abbrev pub invariant-loop-part : goal.invariant-loop-part
invariant-loop-part l = first_asked (drop l.part-index l.parts) ≡ first_asked l.parts
