use Rattle.std.proofs.Common.{sym, ap, ◌∙◌}
use Rattle.derive_tokens.specs.Pieces.{derived_all}
use Rattle.derive_classes.specs.Classed.{classed}
use Rattle.derive.proofs.Finishing.{stops_alike, unclassed_on, unclassed_stop}
use Rattle.derive.proofs.passes.unclassed_source.Goals as goal

pub returns-in-Ok : goal.returns-in-Ok
returns-in-Ok c =
    unclassed_on c.stated.result (derived_all c.in-Ok.objects.items) (classed (derived_all c.args.pieces.items))
    (sym (ap classed (ap derived_all c.deref.ensures.value)) ∙ c.in-Ok.ensures) c.stated.ensures

pub returns-in-Err : goal.returns-in-Err
returns-in-Err c =
    unclassed_stop c.in-Err.fault (classed (derived_all c.args.pieces.items))
    (stops_alike c.in-Err.fault classed (derived_all c.deref.result.now) (derived_all c.args.pieces.items)
    (ap derived_all c.deref.ensures.value) c.in-Err.ensures)
