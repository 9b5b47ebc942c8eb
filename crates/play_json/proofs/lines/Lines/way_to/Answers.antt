use Rattle.play_json.proofs.Keeping.{kept_way}
use Rattle.play_json.proofs.lines.Lines.way_to.Goals as goal

pub returns : goal.returns
returns c =
    kept_way _ (λ y. y.items) c.self.inside.lines.items c.as_slice.result.now c.as_slice-2.result.now c.deref-2.result.now
    c.self.inside.marks.items c.deref.result.now c.in-Some.mark.now c.self.inside.done c.args.number c.args.self.now _
    c.self.view_is c.deref.ensures.value c.in-Some.ensures.lookup.0 c.in-Some.ensures.lookup.1 c.as_slice.ensures.value
    c.as_slice-2.ensures.value c.deref-2.ensures.value c.count_common-common.ensures.same c.in_ok-rest.ensures
