use Rattle.std.proofs.Common.{sym, ap, ◌∙◌}
use Rattle.derive_tokens.specs.Pieces.{derived_all}
use Rattle.derive_values.specs.Values.{numbers_of, valued}
use Rattle.derive_values.specs.Views.{numbers_held}
use Rattle.derive.proofs.Finishing.{stated_on, stated_stop, stops_alike}
use Rattle.derive.proofs.passes.stated.Goals as goal

pub returns-in-Ok : goal.returns-in-Ok
returns-in-Ok c =
    let same = ap derived_all c.as_slice-row.ensures.value in
    stated_on c.valued_source.result (numbers_held c.in_ok-numbers.numbers)
    (numbers_of (derived_all c.args.pieces.items)) (derived_all c.in-Ok.values.items)
    (valued (derived_all c.args.pieces.items)) (c.in_ok-numbers.ensures.value ∙ ap numbers_of same)
    (sym (ap valued same) ∙ c.in-Ok.ensures) c.valued_source.ensures

pub returns-in-Err : goal.returns-in-Err
returns-in-Err c =
    stated_stop (numbers_of (derived_all c.args.pieces.items)) c.in-Err.fault (valued (derived_all c.args.pieces.items))
    (stops_alike c.in-Err.fault valued (derived_all c.as_slice-row.result.now) (derived_all c.args.pieces.items)
    (ap derived_all c.as_slice-row.ensures.value) c.in-Err.ensures)
