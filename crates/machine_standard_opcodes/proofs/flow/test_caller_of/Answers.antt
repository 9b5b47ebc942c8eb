use Rattle.std.proofs.Common.{ℕ, ◌<◌, ◌≤◌, ◌+◌, ◌-◌, ◌*◌, ◌≡◌, Option, None, Some, refl, ap, ◌∙◌, arith, slice_index}
use Rattle.machine_frames.specs.States.{frame_count, height_of, base_of, local_count}
use Rattle.machine_frames.proofs.Storing.{stack_full, stack_room, local_missing, local_there, global_there}
use Rattle.machine_standard_opcodes.proofs.Returning.{stacked_at, caller_halts, caller_done}
use Rattle.machine_standard_opcodes.proofs.flow.test_caller_of.Goals as goal

pub returns-in-None : goal.returns-in-None
returns-in-None c = rw c.in-None.is
    (let none : Option ℕ = None in caller_done _ c.args.number none c.requires.sound c.requires.called (λ t. refl))

pub returns-then-long-eq-STACK_SIZE : goal.returns-then-long-eq-STACK_SIZE
returns-then-long-eq-STACK_SIZE c =
    let f = slice_index c.args.store.now.store.cells in
    let n : ℕ = c.args.number in
    let base : c.long.result ≡ base_of f n = c.long.ensures in
    let under = stacked_at f (frame_count f) (height_of f) n c.requires.called c.requires.sound.stacked in
    rw c.in-Some.is
    (caller_halts _ n (Some c.in-Some.variable) _ c.requires.sound c.requires.called
    (λ t. stack_full f n (base_of f n) c.in-Some.variable t c.requires.some under.1 c.in-0.is
    (omega (arith, base, c.if-long-eq-STACK_SIZE.true))))

pub returns-else-long-eq-STACK_SIZE : goal.returns-else-long-eq-STACK_SIZE
returns-else-long-eq-STACK_SIZE c =
    let f = slice_index c.args.store.now.store.cells in
    let n : ℕ = c.args.number in
    let base : c.long.result ≡ base_of f n = c.long.ensures in
    let under = stacked_at f (frame_count f) (height_of f) n c.requires.called c.requires.sound.stacked in
    rw c.in-Some.is
    (caller_done _ n (Some c.in-Some.variable) c.requires.sound c.requires.called
    (λ t. stack_room f n (base_of f n) c.in-Some.variable t c.requires.some under.1 c.in-0.is
    (omega (arith, base, c.if-long-eq-STACK_SIZE.false, under.0, c.requires.sound.height))))

pub returns-then-variable-cell : goal.returns-then-variable-cell
returns-then-variable-cell c =
    let f = slice_index c.args.store.now.store.cells in
    let n : ℕ = c.args.number in
    let variable : 0 < c.in-Some.variable = omega arith in
    let low : c.in-Some.variable < 16 = omega arith in
    let at : 16 + 7 * n - 7 + 4 ≡ 20 + 7 * (n - 1) = omega (arith, c.requires.some) in
    let count : c.cell.result ≡ local_count f (n - 1) = c.cell.ensures ∙ ap f at in
    rw c.in-Some.is
    (caller_halts _ n (Some c.in-Some.variable) _ c.requires.sound c.requires.called
    (λ t. local_missing f n (base_of f n) c.in-Some.variable t c.requires.some (omega (arith, variable)) low
    (omega (arith, count, c.if-variable-cell.true))))

pub returns-else-variable-cell : goal.returns-else-variable-cell
returns-else-variable-cell c =
    let f = slice_index c.args.store.now.store.cells in
    let n : ℕ = c.args.number in
    let variable : 0 < c.in-Some.variable = omega arith in
    let at : 16 + 7 * n - 7 + 4 ≡ 20 + 7 * (n - 1) = omega (arith, c.requires.some) in
    let count : c.cell.result ≡ local_count f (n - 1) = c.cell.ensures ∙ ap f at in
    rw c.in-Some.is
    (caller_done _ n (Some c.in-Some.variable) c.requires.sound c.requires.called
    (λ t. local_there f n (base_of f n) c.in-Some.variable t c.requires.some (omega (arith, variable))
    (omega (arith, count, c.if-variable-cell.false))))

pub returns-in_default : goal.returns-in_default
returns-in_default c =
    let f = slice_index c.args.store.now.store.cells in
    let n : ℕ = c.args.number in
    let high : 16 ≤ c.in-Some.variable = omega arith in
    rw c.in-Some.is
    (caller_done _ n (Some c.in-Some.variable) c.requires.sound c.requires.called
    (λ t. global_there f n (base_of f n) c.in-Some.variable t c.requires.some high))
