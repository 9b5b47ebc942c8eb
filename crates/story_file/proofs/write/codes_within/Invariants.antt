use Rattle.std.proofs.Common.{◌≡◌, ◌≤◌, ◌*◌, drop, take}
use Rattle.zcore.specs.Header.{scale_of}
use Rattle.meaning.specs.Views.{program_of}
use Rattle.story_file.specs.Written.{codes_in, end_from, part_sizes}
use Rattle.story_file.proofs.write.codes_within.Given as goal

abbrev pub invariant-loop-routine : goal.invariant-loop-routine
invariant-loop-routine l =
    (l.codes.items ≡ take l.routine (codes_in (program_of l.checked)))
    × (end_from (scale_of l.version) l.at (drop l.routine (part_sizes (program_of l.checked)))
    ≡ end_from (scale_of l.version) l.place (part_sizes (program_of l.checked)))
    × (l.at ≤ 65535 * scale_of l.version)
