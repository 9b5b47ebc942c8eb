use Rattle.std.proofs.Common.{ℕ, sym, ap, ◌∙◌}
use Rattle.std.specs.Global.{Vec}
use Rattle.derive_joined.specs.Joined.{joined}
use Rattle.inform_places.proofs.Sources.{begins}
use Rattle.inform_places.proofs.gathering.Gathering.begin.Goals as goal

pub returns-clause-gathered : goal.returns-clause-gathered
returns-clause-gathered c =
    let is_joined = c.in_ok-text.ensures
    ∙ ap joined (c.deref.ensures.value ∙ ap (λ (v : Vec ℕ). v.items) (sym c.in_ok-main.ensures)) in
    let h = begins c.args.self.now c.push.new.self.items c.push-2.new.self.items c.in_ok-self.field-0.items
    c.in_ok-main.main c.in_ok-text.text c.deref-2.result.now c.requires is_joined c.in_ok-push.ensures.items
    c.in_ok-push-2.ensures.items c.deref-2.ensures.value c.in_ok-self.ensures in
    record { joins = h.0; gathers = h.1 }
