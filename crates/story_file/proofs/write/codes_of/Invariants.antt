use Rattle.std.proofs.Common.{◌≡◌, take}
use Rattle.meaning.specs.Views.{program_of}
use Rattle.story_file.specs.Written.{codes_in}
use Rattle.story_file.proofs.write.codes_of.Given as goal

abbrev pub invariant-loop-routine : goal.invariant-loop-routine
invariant-loop-routine l = l.codes.items ≡ take l.routine (codes_in (program_of l.checked))
