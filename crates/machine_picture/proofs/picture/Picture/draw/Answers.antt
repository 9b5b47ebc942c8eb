use Rattle.std.proofs.Common.{refl, ◌∙◌}
use Rattle.machine_picture.specs.Drawing.{picture_of}
use Rattle.machine_picture.proofs.Cells.{on_ok}
use Rattle.machine_picture.proofs.Putting.{drawn_freely}
use Rattle.machine_picture.proofs.Runs.{run_then}
use Rattle.machine_picture.proofs.picture.Picture.draw.Goals as goal

pub returns : goal.returns
returns c = on_ok c.draw_others.result
    (λ e. run_then c.args.bytes.now _ _ c.run_length-count.result (picture_of c.args.self.now)
    (picture_of c.draw_run.new.self) _ c.run_length-count.ensures.run refl refl c.in_ok-draw_run.ensures
    (e ∙ drawn_freely _ (picture_of c.draw_run.new.self)))
    c.draw_others.ensures
