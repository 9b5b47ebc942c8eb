use Rattle.std.proofs.Common.{◌∙◌}
use Rattle.derive.proofs.Sources.{extends_source, refuses_source}
use Rattle.derive.proofs.source.extended.Goals as goal

pub returns-in-Ok : goal.returns-in-Ok
returns-in-Ok c =
    extends_source c.args.source.now c.deref.result.now c.in-Ok.bytes.items (c.deref.ensures.value ∙ c.in_ok-text.ensures)
    c.in-Ok.ensures

pub returns : goal.returns
returns c =
    refuses_source c.args.source.now c.deref.result.now c.in-Err.fault c.in_ok-placed-in-Err.placed
    (c.deref.ensures.value ∙ c.in_ok-text.ensures) c.in_ok-placed-in-Err.ensures c.in-Err.ensures
