use Rattle.std.proofs.Common.{◌≡◌, ◌++◌, ◌∙◌, List, ℕ, length, subst, sym}
use Rattle.session_keeping.specs.Heading.{ended}
use Rattle.session_keeping.specs.Kept.{IsAside}
use Rattle.session_keeping.proofs.Taking.{typed_aside}
use Rattle.session_keeping.proofs.lines.set_aside.Goals as goal

pub returns-then-has_mark-2 : goal.returns-then-has_mark-2
returns-then-has_mark-2 c =
    let line = c.args.line.now in
    let text = c.args.taken.now.items in
    subst (λ n. IsAside line c.args.aside text c.add_line.new.text.items n) (sym c.args.taken.now.ok.0 ∙ sym c.len-begins.ensures)
    (subst (λ (l : List ℕ). IsAside line c.args.aside text l (length text)) (sym c.in_ok-add_line.ensures)
    (typed_aside line c.args.aside text (sym c.has_mark.ensures ∙ c.if-has_mark.false)
    (sym c.has_mark-2.ensures ∙ c.if-has_mark-2.true)))
