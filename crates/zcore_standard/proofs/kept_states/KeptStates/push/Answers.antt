use Rattle.std.proofs.Common.{ap, ◌∙◌}
use Rattle.zcore_standard.proofs.Room.{pushed}
use Rattle.zcore_standard.proofs.kept_states.KeptStates.push.Goals as goal

pub returns-clause-ok : goal.returns-clause-ok
returns-clause-ok c =
    pushed (λ rc. rc.value.items) c.self.inside.files.items c.as_slice.result.now c.push.new.self.items
    c.drop_oldest.new.files.items c.in-Ok.file c.args.file.items c.args.self.now c.len.result
    c.count_too_old-too_old.result c.as_slice.ensures.value (c.len.ensures ∙ c.args.file.ok.0) c.count_too_old-too_old.ensures.few
    c.count_too_old-too_old.ensures.left (ap (λ f. f.items) c.in-Ok.ensures.ok) c.in_ok-push.ensures.items
    c.drop_oldest.ensures c.self.view_is
