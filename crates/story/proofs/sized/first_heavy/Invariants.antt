use Rattle.std.proofs.Common.{◌≡◌, drop}
use Rattle.meaning.specs.CheckedSizes.{name_place_of, routine_weight}
use Rattle.meaning.specs.Sizes.{first_heavy}
use Rattle.story.proofs.sized.first_heavy.Given as goal

abbrev pub invariant-loop-number : goal.invariant-loop-number
invariant-loop-number l = first_heavy routine_weight name_place_of (drop l.number l.checked.routines)
    ≡ first_heavy routine_weight name_place_of l.checked.routines
