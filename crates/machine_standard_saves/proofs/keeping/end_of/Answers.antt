use Rattle.std.proofs.Common.{Bool, if◌then◌else◌, ap, sym, ◌∙◌, arith, slice_index}
use Rattle.std.proofs.lemmas.Bool.{le-ltb, lt-ltb}
use Rattle.machine_frames.specs.States.{base_of, frame_count, height_of}
use Rattle.machine_standard_saves.proofs.keeping.end_of.Goals as goal

pub returns-then-count-cell : goal.returns-then-count-cell
returns-then-count-cell c =
    let f = slice_index c.args.store.now.store.cells in
    c.long.ensures ∙ sym (ap (λ (b : Bool). if b then base_of f c.args.count else height_of f)
    (lt-ltb c.args.count (frame_count f) (omega (arith, c.if-count-cell.true, c.cell.ensures))))

pub returns-else-count-cell : goal.returns-else-count-cell
returns-else-count-cell c =
    let f = slice_index c.args.store.now.store.cells in
    c.long-else-count-cell.ensures ∙ sym (ap (λ (b : Bool). if b then base_of f c.args.count else height_of f)
    (le-ltb c.args.count (frame_count f) (omega (arith, c.if-count-cell.false, c.cell.ensures))))
