use Rattle.std.proofs.Common.{◌≡◌, ◌∙◌, ◌++◌, ap, subst, take, ℕ, List}
use Rattle.std.specs.Prelude.{OnOk}
use Rattle.std.proofs.lemmas.List.{take_min}
use Rattle.machine_picture.specs.Marks.{marked}
use Rattle.screen.proofs.marked.put_first.Goals as goal

pub returns : goal.returns
returns c = subst (λ (e : List ℕ). OnOk c.put_marked.result (c.put_marked.new.out.items
    ≡ c.args.written.now.items ++ marked (take c.args.count c.args.text.now) e))
    (ap (λ (n : ℕ). take n c.args.each.now) c.min.ensures ∙ take_min c.args.count c.args.each.now)
    c.put_marked.ensures.marked
