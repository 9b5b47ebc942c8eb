use Rattle.std.proofs.Common.{ap, arith, length, refl, slice_index, ◌+◌, ◌∙◌}
use Rattle.std.proofs.lemmas.List.{length-set}
use Rattle.machine_picture.specs.Drawing.{with_cells}
use Rattle.machine_picture.proofs.Runs.{padded_run, set_all, set_more}
use Rattle.machine_picture.proofs.picture.set_cells.Goals as goal

pub loop-i-init : goal.loop-i-init
loop-i-init c =
    let run = c.args.characters.now in
    let at = c.args.at in
    record {
      enough = c.in_ok-pad.ensures.enough;
      so_far = ap (λ n. with_cells n run c.pad.new.cells.items) (omega arith)
          ∙ ap (with_cells at run) c.in_ok-pad.ensures.padded
          ∙ padded_run at (at + length run) run c.args.cells.now.items c.requires.some refl;
    }

pub loop-i-preserved : goal.loop-i-preserved
loop-i-preserved c = record {
  enough = omega (
    arith,
    c.loop-i.invariant.enough,
    length-set c.loop-i.cells.items (c.args.at + c.loop-i.i) (slice_index c.args.characters.now c.loop-i.i),
  );
  so_far = set_more c.args.at c.loop-i.i _ c.args.characters.now _ _ (omega arith) c.loop-i.invariant.enough refl
      c.loop-i.invariant.so_far;
}

pub returns : goal.returns
returns c = set_all c.args.at c.loop-i.i c.args.characters.now _ _ (omega arith) c.loop-i.invariant.so_far
