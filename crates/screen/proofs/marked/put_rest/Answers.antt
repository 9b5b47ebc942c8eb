use Rattle.std.proofs.Common.{◌≡◌, ◌-◌, ◌∙◌, ◌++◌, ap, drop, length, subst, take, ℕ, List}
use Rattle.std.specs.Prelude.{OnOk}
use Rattle.std.proofs.lemmas.List.{drop_min}
use Rattle.machine_picture.specs.Marks.{marked}
use Rattle.screen.proofs.Adding.{to_end}
use Rattle.screen.proofs.marked.put_rest.Goals as goal

pub returns : goal.returns
returns c =
    let text : List ℕ = c.args.text.now in
    let each : List ℕ = c.args.each.now in
    subst (λ (t : List ℕ). OnOk c.put_marked.result (c.put_marked.new.out.items
    ≡ c.args.written.now.items ++ marked t (drop c.args.count each)))
    (to_end c.args.count text)
    (subst (λ (e : List ℕ). OnOk c.put_marked.result (c.put_marked.new.out.items
    ≡ c.args.written.now.items ++ marked (take (length text - c.args.count) (drop c.args.count text)) e))
    (to_end c.min.result each ∙ ap (λ (n : ℕ). drop n each) c.min.ensures ∙ drop_min c.args.count each)
    c.put_marked.ensures.marked)
