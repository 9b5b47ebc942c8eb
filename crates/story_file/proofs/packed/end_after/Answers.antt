use Rattle.std.proofs.Common.{◌+◌, arith, ap}
use Rattle.story_file.proofs.packed.end_after.Goals as goal
use Rattle.story_file.proofs.packed.end_after.Goals.{then-up-most-via-then-up-most}
use Rattle.story_file.proofs.packed.end_after.Goals.{then-up-most-via-else-up-most+then-size-most}

pub returns-then-up-most : goal.returns-then-up-most
returns-then-up-most c = elim c.then-up-most.branch [
  | then-up-most-via-then-up-most w ↦
      omega (arith, w.if-up-most.true, c.aligned-up.ensures, c.greatest_length-most.ensures)
  | then-up-most-via-else-up-most+then-size-most w ↦
      omega (arith, w.if-up-most.false, w.if-size-most.true, c.aligned-up.ensures, c.greatest_length-most.ensures)
]

pub returns : goal.returns
returns c = (
  ap (λ up. up + c.args.size) c.aligned-up.ensures,
  omega (arith, c.if-up-most.false, c.if-size-most.false, c.greatest_length-most.ensures),
)
