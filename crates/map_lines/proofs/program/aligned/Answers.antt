use Rattle.std.proofs.Common.{◌+◌, ◌-◌, ◌%◌, ◌∙◌, ap}
use Rattle.map_lines.specs.Rows.{address_at}
use Rattle.map_lines.proofs.Rising.{aligned_same, aligned_up, scale_few}
use Rattle.map_lines.proofs.program.aligned.Goals as goal

pub returns-clause-later : goal.returns-clause-later
returns-clause-later c =
    let scale = scale_few c.args.version c.scale-scale.result c.scale-scale.ensures in
    aligned_up c.args.at c.scale-scale.result _ scale.0 scale.1 c.saturating_add-last.ensures

pub returns-clause-same : goal.returns-clause-same
returns-clause-same c = λ x same.
    let scale = scale_few c.args.version c.scale-scale.result c.scale-scale.ensures in
    aligned_same c.args.at c.scale-scale.result x _ scale.0 scale.1 c.saturating_add-last.ensures same
    ∙ ap (λ s. address_at (x + (s - 1) - (x + (s - 1)) % s) 0) c.scale-scale.ensures
