use Rattle.std.proofs.Common.{◌≡◌, drop}
use Rattle.derive_joined.specs.Held.{texts_of}
use Rattle.derive_joined.specs.Texts.{spot_of}
use Rattle.derive_joined.proofs.texts.spot_of.Given as goal

abbrev pub invariant-loop-part : goal.invariant-loop-part
invariant-loop-part l =
    spot_of (texts_of l.files) (drop l.part-index l.parts) l.left ≡ spot_of (texts_of l.files) l.parts l.offset
