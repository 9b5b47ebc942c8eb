use Rattle.std.proofs.Common.{arith, sym, ◌∙◌}
use Rattle.std.proofs.lemmas.List.Sums.{prefix_len-le-length}
use Rattle.machine_picture.specs.Drawing.{is_plain, picture_of}
use Rattle.machine_picture.proofs.Runs.{run_taken}
use Rattle.machine_picture.proofs.picture.Picture.run_length.Goals as goal

pub returns-clause-run : goal.returns-clause-run
returns-clause-run c = run_taken c.args.bytes.now c.min.result (picture_of c.args.self.now)
    (sym c.is_inside.ensures ∙ c.if-not-is_inside.false) (omega (arith, c.plain_count.ensures)) (omega arith)

pub returns-clause-within : goal.returns-clause-within
returns-clause-within c = omega (arith, c.plain_count.ensures, prefix_len-le-length is_plain c.args.bytes.now)
