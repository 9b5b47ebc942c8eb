use Rattle.std.proofs.Common.{◌≡◌, ◌+◌, ◌-◌, ◌*◌, ◌&&◌, nat_le, false, refl, ap, sym, ◌∙◌, arith, slice_index}
use Rattle.std.proofs.lemmas.Bool.{le-leb, lt-leb}
use Rattle.machine_frames.specs.States.{frame_count, height_of}
use Rattle.machine_frames.proofs.Storing.{argument_there}
use Rattle.machine_frames.proofs.calls.has_argument.Goals as goal

pub returns-then-number-ge1 : goal.returns-then-number-ge1
returns-then-number-ge1 c =
    let f = slice_index c.args.store.now.store.cells in
    let at : c.running.result + 5 ≡ 21 + 7 * (frame_count f - 1) = omega (arith, c.running.ensures) in
    let some = le-leb 1 c.args.number c.if-number-ge1.true in
    sym (argument_there f (frame_count f) (height_of f) c.args.number c.cell.result c.requires.some
    (c.cell.ensures ∙ ap f at) ∙ ap (λ b. b && nat_le c.args.number c.cell.result) some)

pub returns-else-number-ge1 : goal.returns-else-number-ge1
returns-else-number-ge1 c =
    let f = slice_index c.args.store.now.store.cells in
    let count = f (21 + 7 * (frame_count f - 1)) in
    let none : nat_le 1 c.args.number ≡ false = lt-leb 1 c.args.number c.if-number-ge1.false in
    none ∙ sym
    (argument_there f (frame_count f) (height_of f) c.args.number count c.requires.some refl
    ∙ ap (λ b. b && nat_le c.args.number count) none)
