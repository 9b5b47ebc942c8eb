use Rattle.std.proofs.Common.{ℕ, ◌<◌, ◌≤◌, ◌+◌, ◌-◌, Option, None, Some, refl, arith, slice_index}
use Rattle.machine_frames.specs.States.{frame_count, height_of, base_of}
use Rattle.machine_frames.proofs.Frames.{stacked_below}
use Rattle.machine_frames.proofs.Storing.{stack_full, stack_room, local_missing, local_there, global_there, base_there}
use Rattle.machine_frames.proofs.Storing.{count_there, caller_halts, caller_done}
use Rattle.machine_frames.proofs.variables.test_caller.Goals as goal

pub returns-then-long-eq-STACK_SIZE : goal.returns-then-long-eq-STACK_SIZE
returns-then-long-eq-STACK_SIZE c =
    let f = slice_index c.args.store.now.store.cells in
    let n : ℕ = frame_count f - 1 in
    let some : 0 < n = omega (arith, c.requires.called) in
    let base = base_there f c.args.at n c.long.result c.requires.running c.long.ensures in
    let under = stacked_below f (frame_count f) (height_of f) c.requires.sound.some c.requires.sound.stacked in
    rw c.in-Some.is
    (caller_halts _ (Some c.in-Some.variable) _ c.requires.sound
    (λ t. stack_full f n (base_of f n) c.in-Some.variable t some under.1 c.in-0.is
    (omega (arith, base, c.if-long-eq-STACK_SIZE.true))))

pub returns-then-variable-cell : goal.returns-then-variable-cell
returns-then-variable-cell c =
    let f = slice_index c.args.store.now.store.cells in
    let n : ℕ = frame_count f - 1 in
    let some : 0 < n = omega (arith, c.requires.called) in
    let variable : 0 < c.in-Some.variable = omega arith in
    let low : c.in-Some.variable < 16 = omega arith in
    let count = count_there f (c.args.at - 7 + 4) (n - 1) c.cell.result (omega (arith, c.requires.running, some))
    c.cell.ensures in
    rw c.in-Some.is
    (caller_halts _ (Some c.in-Some.variable) _ c.requires.sound
    (λ t. local_missing f n (base_of f n) c.in-Some.variable t some (omega (arith, variable)) low
    (omega (arith, count, c.if-variable-cell.true))))

pub returns-in-None : goal.returns-in-None
returns-in-None c = rw c.in-None.is ((let none : Option ℕ = None in caller_done _ none c.requires.sound (λ t. refl)))

pub returns-else-long-eq-STACK_SIZE : goal.returns-else-long-eq-STACK_SIZE
returns-else-long-eq-STACK_SIZE c =
    let f = slice_index c.args.store.now.store.cells in
    let n : ℕ = frame_count f - 1 in
    let some : 0 < n = omega (arith, c.requires.called) in
    let base = base_there f c.args.at n c.long.result c.requires.running c.long.ensures in
    let under = stacked_below f (frame_count f) (height_of f) c.requires.sound.some c.requires.sound.stacked in
    rw c.in-Some.is
    (caller_done _ (Some c.in-Some.variable) c.requires.sound
    (λ t. stack_room f n (base_of f n) c.in-Some.variable t some under.1 c.in-0.is
    (omega (arith, base, c.if-long-eq-STACK_SIZE.false, under.0, c.requires.sound.height))))

pub returns-else-variable-cell : goal.returns-else-variable-cell
returns-else-variable-cell c =
    let f = slice_index c.args.store.now.store.cells in
    let n : ℕ = frame_count f - 1 in
    let some : 0 < n = omega (arith, c.requires.called) in
    let variable : 0 < c.in-Some.variable = omega arith in
    let count = count_there f (c.args.at - 7 + 4) (n - 1) c.cell.result (omega (arith, c.requires.running, some))
    c.cell.ensures in
    rw c.in-Some.is
    (caller_done _ (Some c.in-Some.variable) c.requires.sound
    (λ t. local_there f n (base_of f n) c.in-Some.variable t some (omega (arith, variable))
    (omega (arith, count, c.if-variable-cell.false))))

pub returns-in_default : goal.returns-in_default
returns-in_default c =
    let f = slice_index c.args.store.now.store.cells in
    let n : ℕ = frame_count f - 1 in
    let some : 0 < n = omega (arith, c.requires.called) in
    let high : 16 ≤ c.in-Some.variable = omega arith in
    rw c.in-Some.is
    (caller_done _ (Some c.in-Some.variable) c.requires.sound
    (λ t. global_there f n (base_of f n) c.in-Some.variable t some high))
