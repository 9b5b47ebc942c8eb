use Rattle.std.proofs.Common.{◌+◌, ap, ◌∙◌}
use Rattle.zcore_versions.specs.StatusLine.{spaces_after}
use Rattle.machine_versions_steps.proofs.Filling.{filled_is}
use Rattle.machine_versions_steps.proofs.texts.fill.Goals as goal

pub returns-in-Ok : goal.returns-in-Ok
returns-in-Ok c = filled_is c.args.width _ _ _ c.args.text.now.items _ c.len.ensures c.args.text.now.ok.0
    (ap (λ k. c.len.result + k) (c.spaces_after-spaces.ensures.same
    ∙ ap (λ t. spaces_after t c.args.width) c.deref.ensures.value)) c.in-Ok.ensures.items
