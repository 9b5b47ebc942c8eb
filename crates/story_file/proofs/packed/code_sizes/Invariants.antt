use Rattle.std.proofs.Common.{◌≡◌, ◌++◌, map, drop}
use Rattle.story_file.specs.Written.{part_size}
use Rattle.story_file.proofs.packed.code_sizes.Given as goal

abbrev pub invariant-loop-code : goal.invariant-loop-code
invariant-loop-code l = l.sizes.items ++ map part_size (drop l.code-index l.codes) ≡ map part_size l.codes
