use Rattle.std.proofs.Common.{◌<◌, ◌≤◌, ◌+◌, ◌-◌, Some, refl, arith, slice_index}
use Rattle.machine_frames.specs.States.{frame_count, height_of}
use Rattle.machine_frames.proofs.Storing.{stack_full, stack_room, local_missing, local_there, global_there, count_there}
use Rattle.machine_frames.proofs.Storing.{test_result_halts, test_result_done}
use Rattle.machine_frames.proofs.variables.test_result.Goals as goal

pub returns-then-height-eq-STACK_SIZE : goal.returns-then-height-eq-STACK_SIZE
returns-then-height-eq-STACK_SIZE c =
    let f = slice_index c.args.store.now.store.cells in
    rw c.in-Some.is
    (test_result_halts _ (Some c.in-Some.variable) _ c.requires
    (λ t. stack_full f (frame_count f) (height_of f) c.in-Some.variable t c.requires.some c.requires.stacked
    c.in-0.is (omega (arith, c.height.ensures.same, c.if-height-eq-STACK_SIZE.true))))

pub returns-then-variable-cell : goal.returns-then-variable-cell
returns-then-variable-cell c =
    let f = slice_index c.args.store.now.store.cells in
    let some : 0 < c.in-Some.variable = omega arith in
    let low : c.in-Some.variable < 16 = omega arith in
    let count = count_there f (c.running.result + 4) (frame_count f - 1) c.cell.result
    (omega (arith, c.running.ensures)) c.cell.ensures in
    rw c.in-Some.is
    (test_result_halts _ (Some c.in-Some.variable) _ c.requires
    (λ t. local_missing f (frame_count f) (height_of f) c.in-Some.variable t c.requires.some
    (omega (arith, some)) low (omega (arith, count, c.if-variable-cell.true))))

pub returns-in-None : goal.returns-in-None
returns-in-None c = rw c.in-None.is (test_result_done _ _ c.requires (λ t. refl))

pub returns-else-height-eq-STACK_SIZE : goal.returns-else-height-eq-STACK_SIZE
returns-else-height-eq-STACK_SIZE c =
    let f = slice_index c.args.store.now.store.cells in
    rw c.in-Some.is
    (test_result_done _ (Some c.in-Some.variable) c.requires
    (λ t. stack_room f (frame_count f) (height_of f) c.in-Some.variable t c.requires.some c.requires.stacked
    c.in-0.is (omega (arith, c.height.ensures.same, c.if-height-eq-STACK_SIZE.false, c.requires.height))))

pub returns-else-variable-cell : goal.returns-else-variable-cell
returns-else-variable-cell c =
    let f = slice_index c.args.store.now.store.cells in
    let some : 0 < c.in-Some.variable = omega arith in
    let count = count_there f (c.running.result + 4) (frame_count f - 1) c.cell.result
    (omega (arith, c.running.ensures)) c.cell.ensures in
    rw c.in-Some.is
    (test_result_done _ (Some c.in-Some.variable) c.requires
    (λ t. local_there f (frame_count f) (height_of f) c.in-Some.variable t c.requires.some (omega (arith, some))
    (omega (arith, count, c.if-variable-cell.false))))

pub returns-in_default : goal.returns-in_default
returns-in_default c =
    let f = slice_index c.args.store.now.store.cells in
    let high : 16 ≤ c.in-Some.variable = omega arith in
    rw c.in-Some.is
    (test_result_done _ (Some c.in-Some.variable) c.requires
    (λ t. global_there f (frame_count f) (height_of f) c.in-Some.variable t c.requires.some high))
