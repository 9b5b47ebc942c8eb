use Rattle.std.proofs.Common.{◌∙◌, ap, sym}
use Rattle.zcore_standard.specs.Operations.{further_at}
use Rattle.machine_picture.specs.Picture.{by_name}
use Rattle.machine_standard_steps.proofs.Redrawing.{by_name_alike}
use Rattle.machine_standard_steps.proofs.Stepping.{finds_no_other, finds_other}
use Rattle.machine_standard_steps.proofs.named.named_at.Goals as goal

pub returns-in-None : goal.returns-in-None
returns-in-None c =
    c.further_name.ensures
    ∙ sym (ap (λ o. by_name o (further_at c.args.story.now c.args.at))
    (finds_no_other c.args.version.number _ c.in-None.ensures))

pub returns-in-Some : goal.returns-in-Some
returns-in-Some c =
    let further = further_at c.args.story.now c.args.at in
    c.name_of.ensures ∙ sym (by_name_alike _ further)
    ∙ sym (ap (λ o. by_name o further) (finds_other c.args.version.number _ _ _ c.in-Some.ensures).found)
