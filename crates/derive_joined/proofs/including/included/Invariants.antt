use Rattle.std.proofs.Common.{◌≡◌, ◌++◌, drop}
use Rattle.std.specs.Prelude.{if◌then◌else◌}
use Rattle.derive_joined.specs.Included.{included}
use Rattle.derive_joined.proofs.including.included.Given as goal

abbrev pub invariant-loop-part : goal.invariant-loop-part
invariant-loop-part l =
    l.out.items ++ (if l.is_done then drop l.part-index l.parts else included l.file (drop l.part-index l.parts))
    ≡ included l.file l.parts
