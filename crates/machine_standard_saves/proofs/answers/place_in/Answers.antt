use Rattle.std.proofs.Common.{arith, slice_index}
use Rattle.machine_standard_saves.proofs.Asking.{place_is}
use Rattle.machine_standard_saves.proofs.answers.place_in.Goals as goal

pub long-requires-clause-cells : goal.long-requires-clause-cells
long-requires-clause-cells c = omega (arith, c.requires.size)

pub returns-clause-place : goal.returns-clause-place
returns-clause-place c = λ pending waits.
    place_is (slice_index c.args.store.now.store.cells) c.long.result _ pending c.long.ensures c.saturating_sub.ensures
    waits

pub returns-clause-few : goal.returns-clause-few
returns-clause-few c = omega (arith, c.saturating_sub.ensures)
