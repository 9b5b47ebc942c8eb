use Rattle.std.proofs.Common.{◌≡◌, length, ap, ◌∙◌, arith}
use Rattle.derive_joined.specs.Included.{included}
use Rattle.derive_joined.specs.Joined.{joined}
use Rattle.inform_places.proofs.Sources.{takes}
use Rattle.inform_places.proofs.gathering.Gathering.take.Goals as goal

pub returns-clause-gathered : goal.returns-clause-gathered
returns-clause-gathered c = λ g.
    let is_joined = c.in_ok-text.ensures ∙ ap joined c.deref.ensures.value in
    let put = c.in_ok-self.ensures ∙ ap (λ f. included f c.deref-4.result.now) c.deref-3.ensures.value
    ∙ ap (included c.in_ok-parts.parts.items) c.deref-4.ensures.value in
    let texts = c.args.self.now.texts in
    let last : c.len.result ≡ length texts.items = omega (arith, texts.ok.0, c.len.ensures) in
    let h = takes c.args.self.now c.push.new.self.items c.push-2.new.self.items c.in_ok-self.field-0.items
    c.in_ok-parts.parts.items c.args.file c.in_ok-text.text c.deref-2.result.now c.len.result g is_joined
    c.in_ok-push.ensures.items c.in_ok-push-2.ensures.items c.deref-2.ensures.value last
    c.in_ok-parts.ensures put in
    record { joins = h.0; gathers = h.1 }
