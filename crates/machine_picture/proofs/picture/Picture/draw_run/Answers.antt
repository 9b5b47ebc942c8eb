use Rattle.std.proofs.Common.{length, sym, ◌∙◌}
use Rattle.std.proofs.lemmas.Bool.{eqb-true}
use Rattle.machine_picture.specs.Drawing.{picture_of}
use Rattle.machine_picture.proofs.Runs.{none_drawn, run_put}
use Rattle.machine_picture.proofs.picture.Picture.draw_run.Goals as goal

pub returns-then-is_empty : goal.returns-then-is_empty
returns-then-is_empty c = none_drawn c.args.run.now (picture_of c.args.self.now) (eqb-true (length c.args.run.now) 0
    (sym c.is_empty.ensures ∙ c.if-is_empty.true))

pub returns : goal.returns
returns c = run_put c.args.run.now _ c.cell_at-at.result (picture_of c.args.self.now) c.requires
    c.cell_at-at.ensures.same c.in_ok-set_cells.ensures
