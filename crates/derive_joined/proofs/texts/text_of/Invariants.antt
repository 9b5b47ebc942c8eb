use Rattle.std.proofs.Common.{◌≡◌, ◌++◌, drop}
use Rattle.derive_joined.specs.Held.{texts_of}
use Rattle.derive_joined.specs.Texts.{text_of}
use Rattle.derive_joined.proofs.texts.text_of.Given as goal

abbrev pub invariant-loop-part : goal.invariant-loop-part
invariant-loop-part l =
    l.text.items ++ text_of (texts_of l.files) (drop l.part-index l.parts) ≡ text_of (texts_of l.files) l.parts
