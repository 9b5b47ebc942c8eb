use Rattle.std.proofs.Common.{◌≡◌, length, map, take, true, replicate}
use Rattle.meaning.specs.Views.{object_of}
use Rattle.code.specs.HeldProgram.{is_single}
use Rattle.code.specs.Written.{Narrows}
use Rattle.code.proofs.sizes.singles_of.Given as goal

abbrev pub invariant-loop-object : goal.invariant-loop-object
invariant-loop-object l =
    (length l.singles ≡ 64)
    × Narrows (replicate 64 true) l.singles (is_single (map object_of (take l.object-index l.objects)))
