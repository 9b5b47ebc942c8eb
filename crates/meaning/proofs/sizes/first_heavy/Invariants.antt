use Rattle.std.proofs.Common.{◌≡◌, drop}
use Rattle.meaning.specs.Sizes.{first_heavy}
use Rattle.meaning.specs.CheckedSizes.{name_place_of, routine_weight}
use Rattle.meaning.proofs.sizes.first_heavy.Given as goal

abbrev pub invariant-loop-routine : goal.invariant-loop-routine
invariant-loop-routine l = first_heavy routine_weight name_place_of (drop l.routine-index l.routines)
    ≡ first_heavy routine_weight name_place_of l.routines
